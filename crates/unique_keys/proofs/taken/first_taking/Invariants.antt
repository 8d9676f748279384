use Rattle.std.proofs.Common.{◌≡◌, false, take}
use Rattle.std.specs.List.{list_any}
use Rattle.row_versions.specs.Log.{has_committed}
use Rattle.unique_keys.specs.Inner.Finding.{gives}
use Rattle.unique_keys.specs.Inner.Slots.{at, passes}
use Rattle.unique_keys.proofs.taken.first_taking.Given as goal

-- no note at a place so far gave the row the key
abbrev pub invariant-loop-place : goal.invariant-loop-place
invariant-loop-place g l =
    list_any (λ p. passes (gives (has_committed (g.V.Versions.content l.store)) l.table l.tx l.asked l.columns l.row) (at l.notes.slots.items p)) (take l.place-index l.places) ≡ false

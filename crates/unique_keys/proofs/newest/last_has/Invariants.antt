use Rattle.std.proofs.Common.{◌≡◌, false, drop}
use Rattle.std.specs.List.{list_any}
use Rattle.row_versions.specs.Log.{has_committed}
use Rattle.unique_keys.specs.Inner.Finding.{is_version_by}
use Rattle.unique_keys.specs.Inner.Slots.{at, passes}
use Rattle.unique_keys.proofs.newest.last_has.Given as goal

-- no place from here on has a version that counts
abbrev pub invariant-loop-index : goal.invariant-loop-index
invariant-loop-index g l =
    list_any (λ p. passes (is_version_by (has_committed (g.V.Versions.content l.store)) l.own l.row) (at l.notes.slots.items p)) (drop l.index l.places) ≡ false

use Rattle.std.proofs.Common.{◌≡◌, false, ◌==◌, drop}
use Rattle.std.specs.List.{list_any}
use Rattle.unique_keys.specs.Inner.Slots.{at, passes}
use Rattle.unique_keys.proofs.notes.Notes.is_elsewhere.Given as goal

-- no place from here on has a note of the row
abbrev pub invariant-loop-index : goal.invariant-loop-index
invariant-loop-index l = list_any (λ p. passes (λ w. w.row.0 == l.row.0) (at l.self.slots.items p)) (drop l.index l.places) ≡ false

use Rattle.std.proofs.Common.{◌≡◌, length}
use Rattle.places.specs.Noted.{noted}
use Rattle.unique_keys.specs.Writes.{notes_without}
use Rattle.unique_keys.specs.Inner.Slots.{kept}
use Rattle.unique_keys.specs.Inner.WellKept.{WellKept}
use Rattle.unique_keys.proofs.notes.Notes.forget.Given as goal

-- the notes of others stay
abbrev pub invariant-loop-place : goal.invariant-loop-place
invariant-loop-place l = WellKept l.self × (notes_without l.tx (kept l.self.slots.items) ≡ notes_without l.tx (kept l.initial.self.slots.items))

abbrev pub decreases-loop-place : goal.decreases-loop-place
decreases-loop-place l = length (noted l.self.by_tx l.tx.0)

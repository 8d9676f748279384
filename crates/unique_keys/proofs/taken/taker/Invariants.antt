use Rattle.std.proofs.Common.{take}
use Rattle.row_versions.specs.Log.{has_committed}
use Rattle.unique_keys.specs.Inner.Slots.{kept, IsFirst}
use Rattle.unique_keys.proofs.Taking.{takes_among}
use Rattle.unique_keys.proofs.taken.taker.Given as goal

-- where the first of the rows so far took the key
abbrev pub invariant-loop-row : goal.invariant-loop-row
invariant-loop-row g l =
    IsFirst (takes_among (has_committed (g.V.Versions.content l.store)) (kept l.notes.slots.items) l.table l.tx l.except l.asked l.columns (take l.row-index l.candidates)) l.notes.slots.items l.first

use Rattle.ordered_slots.specs.Kept.{kept}
use Rattle.row_locks.proofs.Against.{NotYet}
use Rattle.row_locks.proofs.lock_table.LockTable.is_held_by.Given as goal

-- the holder isn't found among the row's locks so far
abbrev pub invariant-loop-slot : goal.invariant-loop-slot
invariant-loop-slot l = NotYet (kept l.self-inside.locks) l.slot-index l.row l.tx l.strength l.holder

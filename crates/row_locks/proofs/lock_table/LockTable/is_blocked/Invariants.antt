use Rattle.std.proofs.Common.{[]}
use Rattle.ordered_slots.specs.Kept.{kept}
use Rattle.row_locks.proofs.Against.{RowFound}
use Rattle.row_locks.proofs.lock_table.LockTable.is_blocked.Given as goal

-- nobody is found among the row's locks so far
abbrev pub invariant-loop-slot : goal.invariant-loop-slot
invariant-loop-slot l = RowFound (kept l.self-inside.locks) l.slot-index l.row l.tx l.strength []

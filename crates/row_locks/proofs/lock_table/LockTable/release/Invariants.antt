use Rattle.std.proofs.Common.{length}
use Rattle.ordered_slots.specs.Kept.{kept}
use Rattle.row_locks.proofs.Releasing.{Releases}
use Rattle.row_locks.proofs.lock_table.LockTable.release.Given as goal

-- what isn't the transaction's is held still
abbrev pub invariant-loop-slot : goal.invariant-loop-slot
invariant-loop-slot l = Releases l.fn.self l.tx (kept l.self-inside.locks) l.self-inside.places.by_row l.self-inside.places.by_tx

abbrev pub decreases-loop-slot : goal.decreases-loop-slot
decreases-loop-slot l = length (kept l.self-inside.locks)

use Rattle.std.proofs.Common.{length}
use Rattle.ordered_slots.specs.Kept.{kept}
use Rattle.row_locks.proofs.Ending.{Ends}
use Rattle.row_locks.proofs.waits.Waits.remove.Given as goal

-- the waits that aren't the transaction's stand still
abbrev pub invariant-loop-slot : goal.invariant-loop-slot
invariant-loop-slot l = Ends l.fn.self l.tx (kept l.self-inside.waits) l.self-inside.by_tx

abbrev pub decreases-loop-slot : goal.decreases-loop-slot
decreases-loop-slot l = length (kept l.self-inside.waits)

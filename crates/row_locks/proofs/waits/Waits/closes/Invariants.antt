use Rattle.ordered_slots.specs.Kept.{kept}
use Rattle.row_locks.proofs.Reaching.{Spreads, still}
use Rattle.row_locks.proofs.waits.Waits.closes.Given as goal

-- what is reached is reached from the blockers, they are reached, and the waits of the first have had their blockers reached
abbrev pub invariant-loop-next : goal.invariant-loop-next
invariant-loop-next l = Spreads (kept l.self-inside.waits) l.blockers l.next l.reached.items

abbrev pub decreases-loop-next : goal.decreases-loop-next
decreases-loop-next l = still (kept l.self-inside.waits) l.reached.items l.next

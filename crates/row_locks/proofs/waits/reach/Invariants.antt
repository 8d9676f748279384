use Rattle.std.proofs.Common.{◌≡◌, take}
use Rattle.row_locks.specs.Inner.Searching.{reach}
use Rattle.row_locks.proofs.waits.reach.Given as goal

-- those so far are reached too
abbrev pub invariant-loop-blocker : goal.invariant-loop-blocker
invariant-loop-blocker l = l.reached.items ≡ reach (take l.blocker-index l.blockers) l.initial.reached.items

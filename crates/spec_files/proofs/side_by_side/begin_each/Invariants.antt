use Rattle.std.proofs.Common.{length}
use Rattle.spec_files.proofs.Joining.{BegunSoFar}
use Rattle.spec_files.proofs.side_by_side.begin_each.Given as goal

abbrev pub invariant-loop-taken : goal.invariant-loop-taken
invariant-loop-taken g l = BegunSoFar g.L.Lent.gives l.lent l.coming.items l.taken.items l.fn.taken.items

abbrev pub decreases-loop-taken : goal.decreases-loop-taken
decreases-loop-taken g l = length l.taken.items

use Rattle.std.proofs.Common.{◌≡◌, ◌++◌, length}
use Rattle.sql_trees.specs.Trees.{undoubled}
use Rattle.sql_values.proofs.literal.undoubled.Given as goal

abbrev pub invariant-loop-first : goal.invariant-loop-first
invariant-loop-first l = l.bytes.items ++ undoubled l.left ≡ undoubled l.written

abbrev pub decreases-loop-first : goal.decreases-loop-first
decreases-loop-first l = length l.left

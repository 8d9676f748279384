use Rattle.std.proofs.Common.{◌≡◌, length}
use Rattle.std.specs.Prelude.{bytes_eq}
use Rattle.sql_trees.specs.Trees.{undoubled}
use Rattle.sql_equality.proofs.expressions.same_text.Given as goal

abbrev pub invariant-loop-first : goal.invariant-loop-first
invariant-loop-first l = bytes_eq (undoubled l.x) (undoubled l.y) ≡ bytes_eq (undoubled l.a) (undoubled l.b)

abbrev pub decreases-loop-first : goal.decreases-loop-first
decreases-loop-first l = length l.x

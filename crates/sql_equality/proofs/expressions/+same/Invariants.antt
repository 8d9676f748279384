use Rattle.std.proofs.Common.{◌≡◌, drop}
use Rattle.sql_trees.specs.Trees.{trees}
use Rattle.sql_trees.specs.Same.{same_trees}
use Rattle.sql_equality.proofs.expressions.+same.Given as goal

abbrev pub invariant-all_alike-loop-item : goal.invariant-all_alike-loop-item
invariant-all_alike-loop-item l = same_trees (trees l.items) (trees l.others) ≡ same_trees (trees (drop l.item-index l.items)) (trees l.left)

use Rattle.std.proofs.Common.{◌≡◌, drop}
use Rattle.sql_trees.specs.Trees.{trees}
use Rattle.sql_values.specs.Expressions.{is_among}
use Rattle.sql_values.proofs.Among.{after}
use Rattle.sql_values.proofs.evaluation.+eval.Given as goal

abbrev pub invariant-is_among-loop-item : goal.invariant-is_among-loop-item
invariant-is_among-loop-item l =
    is_among (trees l.items) l.left l.cols l.row ≡ after l.unknown (is_among (trees (drop l.item-index l.items)) l.left l.cols l.row)

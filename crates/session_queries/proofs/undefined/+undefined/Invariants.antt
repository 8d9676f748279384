use Rattle.std.proofs.Common.{◌≡◌, drop}
use Rattle.sql_trees.specs.Trees.{trees}
use Rattle.session_queries.specs.Inner.Undefined.{undefined_in_list}
use Rattle.session_queries.proofs.undefined.+undefined.Given as goal

abbrev pub invariant-undefined_in_list-loop-item : goal.invariant-undefined_in_list-loop-item
invariant-undefined_in_list-loop-item l = undefined_in_list l.columns (trees l.items) ≡ undefined_in_list l.columns (trees (drop l.item-index l.items))

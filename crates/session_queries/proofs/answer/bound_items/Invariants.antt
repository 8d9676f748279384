use Rattle.std.proofs.Common.{◌≡◌, map, take}
use Rattle.std.specs.Prelude.{option_map}
use Rattle.sql_trees.specs.Statements.{item_of}
use Rattle.sql_values.specs.Bound.{bound_tree}
use Rattle.session_queries.specs.Inner.Answers.{item_bound}
use Rattle.session_queries.proofs.answer.bound_items.Given as goal

abbrev pub invariant-loop-item : goal.invariant-loop-item
invariant-loop-item l = map (option_map bound_tree) l.bound.items ≡ map (item_bound l.columns) (map item_of (take l.item-index l.items))

use Rattle.std.proofs.Common.{◌≡◌, map, take}
use Rattle.std.specs.Prelude.{option_map}
use Rattle.sql_trees.specs.Statements.{OrderTree, item_of, order_of}
use Rattle.sql_values.specs.Bound.{bound_tree}
use Rattle.session_queries.specs.Inner.Ordering.{key_bound}
use Rattle.session_queries.proofs.keys.bound_keys.Given as goal

abbrev pub invariant-loop-key : goal.invariant-loop-key
invariant-loop-key l = map (option_map bound_tree) l.bound.items ≡ map (λ (k : OrderTree). key_bound l.columns (map item_of l.items) k.expr) (map order_of (take l.key-index l.order))

use Rattle.std.proofs.Common.{map, ap, ◌∙◌, arith}
use Rattle.std.specs.Prelude.{option_map}
use Rattle.sql_trees.specs.declared.stmt.OrderKey.{OrderKey}
use Rattle.sql_trees.specs.Statements.{OrderTree, item_of, order_of}
use Rattle.sql_trees.specs.Trees.{tree_of}
use Rattle.sql_values.specs.Bound.{bound_tree}
use Rattle.session_queries.specs.Inner.Ordering.{key_bound}
use Rattle.session_queries.proofs.Bindings.{one_at}
use Rattle.session_queries.proofs.keys.keys_of.Goals as goal

pub key_at-requires-clause-bound : goal.key_at-requires-clause-bound
key_at-requires-clause-bound c =
    let items = map item_of c.args.items.now in
    one_at (option_map bound_tree) order_of (λ (k : OrderTree). key_bound c.args.columns.now items k.expr) c.args.bound.now c.args.order.now c.loop-i.i c.index-bound-i.result c.index-order-i.result
    c.requires.bound (omega arith) c.index-bound-i.is c.index-order-i.is
    ∙ ap (λ (k : OrderKey). key_bound c.args.columns.now items (tree_of k.expr)) c.index-order-i.is

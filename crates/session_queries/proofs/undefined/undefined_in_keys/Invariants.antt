use Rattle.std.proofs.Common.{◌≡◌, drop, map}
use Rattle.sql_trees.specs.Statements.{OrderTree, item_of, order_of}
use Rattle.session_queries.specs.Inner.Undefined.{first_of, undefined_in_key}
use Rattle.session_queries.proofs.undefined.undefined_in_keys.Given as goal

abbrev pub invariant-loop-key : goal.invariant-loop-key
invariant-loop-key l =
    let lacks = λ (k : OrderTree). undefined_in_key l.columns (map item_of l.items) k.expr in
    first_of lacks (map order_of l.order) ≡ first_of lacks (map order_of (drop l.key-index l.order))

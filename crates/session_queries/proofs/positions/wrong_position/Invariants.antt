use Rattle.std.proofs.Common.{◌≡◌, drop, length, map}
use Rattle.sql_trees.specs.Statements.{OrderTree, column_of, order_of, select_of}
use Rattle.query_results.specs.Queries.{titles_of}
use Rattle.session_queries.specs.Inner.Undefined.{first_of, unlisted}
use Rattle.session_queries.proofs.positions.wrong_position.Given as goal

abbrev pub invariant-loop-key : goal.invariant-loop-key
invariant-loop-key l =
    let columns = map column_of l.columns in
    let select = select_of l.select in
    let lacks = λ (k : OrderTree). unlisted (length (titles_of columns select.items)) k.expr in
    first_of lacks select.order ≡ first_of lacks (map order_of (drop l.key-index l.select.order.items))

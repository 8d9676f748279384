use Rattle.std.proofs.Common.{◌≡◌, map, take}
use Rattle.sql_trees.specs.Statements.{OrderTree, order_of}
use Rattle.session_queries.proofs.ordering.directions.Given as goal

abbrev pub invariant-loop-key : goal.invariant-loop-key
invariant-loop-key l = l.by.items ≡ map (λ (k : OrderTree). k.dir) (map order_of (take l.key-index l.order))

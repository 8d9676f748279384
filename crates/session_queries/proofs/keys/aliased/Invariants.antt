use Rattle.std.proofs.Common.{◌≡◌, drop, map}
use Rattle.sql_trees.specs.Statements.{item_of, name_of}
use Rattle.session_queries.specs.Inner.Undefined.{aliased}
use Rattle.session_queries.proofs.keys.aliased.Given as goal

abbrev pub invariant-loop-item : goal.invariant-loop-item
invariant-loop-item l = aliased (map item_of l.items) (name_of l.name) ≡ aliased (map item_of (drop l.item-index l.items)) (name_of l.name)

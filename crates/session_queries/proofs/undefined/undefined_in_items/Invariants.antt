use Rattle.std.proofs.Common.{◌≡◌, drop, map}
use Rattle.sql_trees.specs.Statements.{item_of}
use Rattle.session_queries.specs.Inner.Undefined.{first_of, undefined_in_item}
use Rattle.session_queries.proofs.undefined.undefined_in_items.Given as goal

abbrev pub invariant-loop-item : goal.invariant-loop-item
invariant-loop-item l = first_of (undefined_in_item l.columns) (map item_of l.items) ≡ first_of (undefined_in_item l.columns) (map item_of (drop l.item-index l.items))

use Rattle.std.proofs.Common.{◌≡◌, drop, map}
use Rattle.sql_trees.specs.Statements.{item_of}
use Rattle.session_queries.specs.Inner.Answers.{counted}
use Rattle.session_queries.proofs.answer.is_counted.Given as goal

abbrev pub invariant-loop-item : goal.invariant-loop-item
invariant-loop-item l = counted (map item_of l.items) ≡ counted (map item_of (drop l.item-index l.items))

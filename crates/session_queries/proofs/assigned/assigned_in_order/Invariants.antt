use Rattle.std.proofs.Common.{◌≡◌, ◌++◌, drop, map}
use Rattle.sql_trees.specs.Statements.{column_of}
use Rattle.session_queries.specs.Inner.Assigned.{assigned_in_order}
use Rattle.session_queries.proofs.assigned.assigned_in_order.Given as goal

abbrev pub invariant-loop-place : goal.invariant-loop-place
invariant-loop-place l = assigned_in_order 0 (map column_of l.columns) ≡ l.to.items ++ assigned_in_order l.place (map column_of (drop l.place l.columns))

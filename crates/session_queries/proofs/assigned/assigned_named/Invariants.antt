use Rattle.std.proofs.Common.{◌≡◌, drop, map}
use Rattle.sql_trees.specs.Statements.{column_of, name_of}
use Rattle.session_queries.specs.Inner.Assigned.{assigned_from}
use Rattle.session_queries.proofs.assigned.assigned_named.Given as goal

abbrev pub invariant-loop-place : goal.invariant-loop-place
invariant-loop-place l = assigned_from 0 (map column_of l.columns) (name_of l.name) ≡ assigned_from l.place (map column_of (drop l.place l.columns)) (name_of l.name)

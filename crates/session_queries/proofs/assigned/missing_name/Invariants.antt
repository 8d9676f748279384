use Rattle.std.proofs.Common.{◌≡◌, drop, map}
use Rattle.sql_trees.specs.Statements.{column_of, name_of}
use Rattle.session_queries.specs.Inner.Assigned.{missing_name}
use Rattle.session_queries.proofs.assigned.missing_name.Given as goal

abbrev pub invariant-loop-name : goal.invariant-loop-name
invariant-loop-name l = missing_name (map column_of l.columns) (map name_of l.names) ≡ missing_name (map column_of l.columns) (map name_of (drop l.name-index l.names))

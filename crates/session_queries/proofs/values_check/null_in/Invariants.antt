use Rattle.std.proofs.Common.{◌≡◌, drop, map}
use Rattle.sql_trees.specs.Statements.{column_of}
use Rattle.query_results.specs.Queries.{null_in}
use Rattle.session_queries.proofs.values_check.null_in.Given as goal

abbrev pub invariant-loop-column : goal.invariant-loop-column
invariant-loop-column l = null_in (map column_of l.columns) l.values ≡ null_in (map column_of (drop l.column-index l.columns)) l.rest

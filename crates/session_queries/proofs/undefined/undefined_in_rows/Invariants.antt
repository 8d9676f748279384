use Rattle.std.proofs.Common.{◌≡◌, drop, map}
use Rattle.sql_trees.specs.Statements.{exprs_of}
use Rattle.session_queries.specs.Inner.Undefined.{undefined_in_rows}
use Rattle.session_queries.proofs.undefined.undefined_in_rows.Given as goal

abbrev pub invariant-loop-row : goal.invariant-loop-row
invariant-loop-row l = undefined_in_rows (map exprs_of l.rows) ≡ undefined_in_rows (map exprs_of (drop l.row-index l.rows))

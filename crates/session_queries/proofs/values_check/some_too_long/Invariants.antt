use Rattle.std.proofs.Common.{◌≡◌, drop, length, map}
use Rattle.std.specs.Prelude.{nat_lt}
use Rattle.std.specs.List.{list_any}
use Rattle.sql_trees.specs.Statements.{exprs_of}
use Rattle.session_queries.proofs.values_check.some_too_long.Given as goal

abbrev pub invariant-loop-row : goal.invariant-loop-row
invariant-loop-row l = list_any (λ row. nat_lt l.width (length row)) (map exprs_of l.rows) ≡ list_any (λ row. nat_lt l.width (length row)) (map exprs_of (drop l.row-index l.rows))

use Rattle.std.proofs.Common.{◌≡◌, drop, map}
use Rattle.std.specs.List.{list_any}
use Rattle.sql_trees.specs.Statements.{stmt_of}
use Rattle.outcome_verdicts.specs.Failures.{is_end}
use Rattle.outcome_verdicts.proofs.mixed.any_end.Given as goal

abbrev pub invariant-loop-stmt : goal.invariant-loop-stmt
invariant-loop-stmt l =
    list_any is_end (map stmt_of (drop l.stmt-index l.stmts)) ≡ list_any is_end (map stmt_of l.stmts)

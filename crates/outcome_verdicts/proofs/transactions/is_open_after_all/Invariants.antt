use Rattle.std.proofs.Common.{◌≡◌, drop, map}
use Rattle.std.specs.Prelude.{fold}
use Rattle.sql_trees.specs.Statements.{stmt_of}
use Rattle.outcome_verdicts.specs.Transactions.{is_open_after}
use Rattle.outcome_verdicts.proofs.transactions.is_open_after_all.Given as goal

abbrev pub invariant-loop-stmt : goal.invariant-loop-stmt
invariant-loop-stmt l =
    fold is_open_after l.open (map stmt_of (drop l.stmt-index l.stmts)) ≡ fold is_open_after l.begun (map stmt_of l.stmts)

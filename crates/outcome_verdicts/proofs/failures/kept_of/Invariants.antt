use Rattle.std.proofs.Common.{◌≡◌, ◌++◌, drop, map, not}
use Rattle.std.specs.Prelude.{filter}
use Rattle.spec_parser.specs.Trees.{spec_view}
use Rattle.outcome_verdicts.specs.Transactions.{TransactionTree, list_view, transaction_view}
use Rattle.outcome_verdicts.specs.Failures.{has_failed}
use Rattle.outcome_verdicts.proofs.failures.kept_of.Given as goal

abbrev pub invariant-loop-transaction : goal.invariant-loop-transaction
invariant-loop-transaction l =
    list_view l.kept ++ filter (λ (t : TransactionTree). not (has_failed (spec_view l.spec) l.outcome t)) (map transaction_view (drop l.transaction-index l.list))
    ≡ filter (λ (t : TransactionTree). not (has_failed (spec_view l.spec) l.outcome t)) (map transaction_view l.list)

use Rattle.std.proofs.Common.{◌≡◌, ◌++◌, drop, map}
use Rattle.std.specs.Prelude.{filter}
use Rattle.spec_parser.specs.Trees.{spec_view}
use Rattle.outcome_verdicts.specs.Transactions.{list_view, transaction_view}
use Rattle.outcome_verdicts.specs.Failures.{has_failed}
use Rattle.outcome_verdicts.proofs.failures.push_failed.Given as goal

abbrev pub invariant-loop-transaction : goal.invariant-loop-transaction
invariant-loop-transaction l =
    list_view l.failed ++ filter (has_failed (spec_view l.spec) l.outcome) (map transaction_view (drop l.transaction-index l.list))
    ≡ list_view l.fn.failed ++ filter (has_failed (spec_view l.spec) l.outcome) (map transaction_view l.list)

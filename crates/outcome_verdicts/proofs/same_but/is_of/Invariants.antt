use Rattle.std.proofs.Common.{◌≡◌, drop, map}
use Rattle.spec_parser.specs.Trees.{spec_view}
use Rattle.outcome_verdicts.specs.Transactions.{transaction_view}
use Rattle.outcome_verdicts.specs.Failures.{is_of}
use Rattle.outcome_verdicts.proofs.same_but.is_of.Given as goal

abbrev pub invariant-loop-transaction : goal.invariant-loop-transaction
invariant-loop-transaction l =
    is_of (spec_view l.spec) (map transaction_view (drop l.transaction-index l.transactions)) l.number ≡ is_of (spec_view l.spec) (map transaction_view l.transactions) l.number

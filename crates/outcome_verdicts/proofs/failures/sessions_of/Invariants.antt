use Rattle.std.proofs.Common.{◌≡◌, take, map}
use Rattle.outcome_verdicts.specs.Transactions.{TransactionTree, transaction_view}
use Rattle.outcome_verdicts.proofs.failures.sessions_of.Given as goal

abbrev pub invariant-loop-transaction : goal.invariant-loop-transaction
invariant-loop-transaction l =
    l.sessions.items ≡ map (λ (t : TransactionTree). t.session) (map transaction_view (take l.transaction-index l.transactions))

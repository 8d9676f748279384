-- Steps that are cut into transactions, as the code goes through them.
use Rattle.std.specs.Prelude.{ℕ, List, [], ◌∷◌, ◌++◌, map}
use Rattle.outcome_verdicts.specs.declared.transactions.Transaction.{Transaction}
use Rattle.outcome_verdicts.specs.Transactions.{TransactionTree, in_front, of_session, transaction_view}

-- steps before the steps of the first of these transactions
abbrev pub all_in_front : List ℕ → List (List ℕ) → List (List ℕ)
all_in_front [] rest = rest
all_in_front (step ∷ steps) rest = in_front step (all_in_front steps rest)

-- transactions that are over, the steps of the one that goes on, and the transactions of the steps that follow
abbrev pub with_rest : ℕ → List Transaction → List ℕ → List (List ℕ) → List TransactionTree
with_rest session over now rest = map transaction_view over ++ map (of_session session) (all_in_front now rest)

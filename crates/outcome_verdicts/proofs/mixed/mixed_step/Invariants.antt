use Rattle.std.proofs.Common.{◌≡◌, drop, map}
use Rattle.std.specs.List.{list_any}
use Rattle.sql_blocks.specs.Blocks.{blocks_of}
use Rattle.spec_parser.specs.Trees.{spec_view}
use Rattle.outcome_verdicts.specs.Transactions.{TransactionTree, transaction_view}
use Rattle.outcome_verdicts.specs.Failures.{goes_on}
use Rattle.outcome_verdicts.proofs.mixed.mixed_step.Given as goal

abbrev pub invariant-loop-transaction : goal.invariant-loop-transaction
invariant-loop-transaction l =
    list_any (λ (t : TransactionTree). list_any (goes_on (spec_view l.spec) (blocks_of l.blocks) t.session) t.steps) (map transaction_view (drop l.transaction-index l.transactions))
    ≡ list_any (λ (t : TransactionTree). list_any (goes_on (spec_view l.spec) (blocks_of l.blocks) t.session) t.steps) (map transaction_view l.transactions)

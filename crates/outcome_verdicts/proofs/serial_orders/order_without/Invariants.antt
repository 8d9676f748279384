use Rattle.std.proofs.Common.{ℕ, ◌<◌, get_or}
use Rattle.outcome_verdicts.specs.declared.serial_orders.SerialOrder.{SerialOrder}
use Rattle.std.specs.Prelude.{map}
use Rattle.spec_parser.specs.Trees.{spec_view}
use Rattle.outcome_verdicts.specs.Transactions.{transaction_view}
use Rattle.outcome_verdicts.specs.Failures.{SameBut}
use Rattle.outcome_verdicts.proofs.serial_orders.order_without.Given as goal

abbrev pub invariant-loop-order : goal.invariant-loop-order
invariant-loop-order l =
    (k : ℕ) (d : SerialOrder) → k < l.order-index → SameBut (spec_view l.spec) (map transaction_view l.transactions) (get_or l.orders k d).outcome l.outcome → ⊥

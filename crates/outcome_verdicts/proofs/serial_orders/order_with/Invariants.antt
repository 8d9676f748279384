use Rattle.std.proofs.Common.{ℕ, ◌<◌, get_or}
use Rattle.outcome_verdicts.specs.declared.serial_orders.SerialOrder.{SerialOrder}
use Rattle.outcome_counts.specs.Outcomes.{SameOutcome}
use Rattle.outcome_verdicts.proofs.serial_orders.order_with.Given as goal

abbrev pub invariant-loop-order : goal.invariant-loop-order
invariant-loop-order l =
    (k : ℕ) (d : SerialOrder) → k < l.order-index → SameOutcome (get_or l.orders k d).outcome l.outcome → ⊥

use Rattle.outcome_counts.specs.Outcomes.{SameOutcome}
use Rattle.outcome_verdicts.proofs.Found.{found_at}
use Rattle.outcome_verdicts.proofs.serial_orders.order_with.Goals as goal

pub returns-then-same : goal.returns-then-same
returns-then-same c =
    found_at (λ s. SameOutcome s c.args.outcome.now) c.args.orders.now c.loop-order.order-index c.order-item.result c.loop-order-test.true c.order-item.is (c.same.ensures.0 c.if-same.true)

use Rattle.std.proofs.Common.{map}
use Rattle.spec_parser.specs.Trees.{spec_view}
use Rattle.outcome_verdicts.specs.Transactions.{transaction_view}
use Rattle.outcome_verdicts.specs.Failures.{SameBut}
use Rattle.outcome_verdicts.proofs.Found.{found_at}
use Rattle.outcome_verdicts.proofs.serial_orders.order_without.Goals as goal

pub returns-then-same_but : goal.returns-then-same_but
returns-then-same_but c =
    found_at (λ s. SameBut (spec_view c.args.spec.now) (map transaction_view c.args.transactions.now) s c.args.outcome.now) c.args.orders.now c.loop-order.order-index c.order-item.result c.loop-order-test.true c.order-item.is (c.same_but.ensures.0 c.if-same_but.true)

use Rattle.std.specs.Prelude.{[]}
use Rattle.program_tests.proofs.plans.first_order.Goals as goal

pub order_at_first-requires : goal.order_at_first-requires
order_at_first-requires c = c.in_ok-plan.ensures.follows []

use Rattle.permutation_plans.proofs.Next.{next_goes_well}
use Rattle.permutation_plans.proofs.laws.the_next_order_is_due.Goals as goal

pub returns : goal.returns
returns c = next_goes_well

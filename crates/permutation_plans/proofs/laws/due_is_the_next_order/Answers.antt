use Rattle.permutation_plans.proofs.Next.{due_is_next}
use Rattle.permutation_plans.proofs.laws.due_is_the_next_order.Goals as goal

pub returns : goal.returns
returns c = due_is_next

use Rattle.permutation_plans.proofs.Deadlocking.{deadlocked}
use Rattle.permutation_plans.proofs.laws.deadlocked_history.Goals as goal

pub returns : goal.returns
returns c = deadlocked

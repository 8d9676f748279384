use Rattle.permutation_plans.proofs.Working.{worked}
use Rattle.permutation_plans.proofs.laws.worked_history.Goals as goal

pub returns : goal.returns
returns c = worked

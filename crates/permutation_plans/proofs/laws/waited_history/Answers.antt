use Rattle.permutation_plans.proofs.Waiting.{waited}
use Rattle.permutation_plans.proofs.laws.waited_history.Goals as goal

pub returns : goal.returns
returns c = waited

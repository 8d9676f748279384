use Rattle.permutation_plans.proofs.Waiting.{waited_free}
use Rattle.permutation_plans.proofs.laws.waited_free_history.Goals as goal

pub returns : goal.returns
returns c = waited_free

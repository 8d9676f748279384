use Rattle.permutation_plans.proofs.OneHistory.{one_regular}
use Rattle.permutation_plans.proofs.laws.each_has_one_history.Goals as goal

pub returns : goal.returns
returns c = one_regular

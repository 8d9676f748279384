use Rattle.std.proofs.Common.{refl}
use Rattle.permutation_plans.proofs.laws.worked_goes_well.Goals as goal

pub returns : goal.returns
returns c = record { setups = (λ _. refl, tt); entries = λ h. cc; teardowns = (λ _. refl, tt); last = tt }

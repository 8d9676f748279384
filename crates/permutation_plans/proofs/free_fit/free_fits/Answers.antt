use Rattle.std.proofs.Common.{◌↔◌, IsTrue, subst}
use Rattle.permutation_plans.specs.FreeLaunches.{FreeLaunches as Listed}
use Rattle.permutation_plans.specs.FreeRegular.{FreeFits}
use Rattle.permutation_plans.proofs.free_fit.free_fits.Goals as goal

pub returns : goal.returns
returns c = subst (λ (l : Listed). IsTrue c.in_ok-fit.fit ↔ FreeFits l c.args.items.now) c.in_ok-plan.ensures c.in_ok-fit.ensures.fit

use Rattle.std.proofs.Common.{◌↔◌, drop}
use Rattle.permutation_plans.specs.FreeRegular.{IsWhole, FitsFrom, FreeFits}
use Rattle.permutation_plans.proofs.free_fit.setups_fit.Given as goal

abbrev pub invariant-loop-number : goal.invariant-loop-number
invariant-loop-number l = FreeFits l.plan l.segments ↔ FitsFrom (IsWhole l.plan l.segments) l.segments l.number (drop l.number l.plan.before)

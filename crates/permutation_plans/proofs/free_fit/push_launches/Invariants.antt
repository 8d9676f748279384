use Rattle.std.proofs.Common.{◌≡◌, ◌++◌, drop}
use Rattle.permutation_plans.specs.FreeRegular.{launches_in}
use Rattle.permutation_plans.proofs.free_fit.push_launches.Given as goal

abbrev pub invariant-loop-block : goal.invariant-loop-block
invariant-loop-block l = l.events.items ++ launches_in l.session (drop l.block-index l.blocks) ≡ l.fn.events.items ++ launches_in l.session l.blocks

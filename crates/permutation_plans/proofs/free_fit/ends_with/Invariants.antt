use Rattle.std.proofs.Common.{◌≡◌, ◌↔◌, ◌-◌, length, drop}
use Rattle.permutation_plans.specs.FreeRegular.{launches_in}
use Rattle.permutation_plans.proofs.free_fit.ends_with.Given as goal

abbrev pub invariant-loop-block : goal.invariant-loop-block
invariant-loop-block l = (drop (length l.events - length l.after) l.events ≡ launches_in 0 l.after) ↔ (l.rest ≡ launches_in 0 (drop l.block-index l.after))

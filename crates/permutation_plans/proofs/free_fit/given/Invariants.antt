use Rattle.std.proofs.Common.{◌≡◌, ◌++◌, drop}
use Rattle.permutation_plans.specs.FreeRegular.{given}
use Rattle.permutation_plans.proofs.free_fit.given.Given as goal

abbrev pub invariant-loop-item : goal.invariant-loop-item
invariant-loop-item l = l.events.items ++ given (drop l.item-index l.items) ≡ given l.items

use Rattle.std.proofs.Common.{◌≡◌, true, drop}
use Rattle.permutation_plans.specs.FreeRegular.{ends_each, items_of}
use Rattle.permutation_plans.proofs.free_fit.ends_each.Given as goal

abbrev pub invariant-loop-item : goal.invariant-loop-item
invariant-loop-item l = ends_each true (items_of l.session l.items) ≡ ends_each l.over (items_of l.session (drop l.item-index l.items))

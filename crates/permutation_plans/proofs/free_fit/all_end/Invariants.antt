use Rattle.std.proofs.Common.{◌≡◌, ◌<◌, ℕ, true}
use Rattle.permutation_plans.specs.FreeRegular.{ends_each, items_of}
use Rattle.permutation_plans.proofs.free_fit.all_end.Given as goal

abbrev pub invariant-loop-session : goal.invariant-loop-session
invariant-loop-session l = (t : ℕ) → t < l.session → ends_each true (items_of t l.items) ≡ true

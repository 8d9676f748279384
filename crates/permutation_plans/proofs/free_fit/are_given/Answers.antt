use Rattle.std.proofs.Common.{◌≡◌, ◌≢◌, List, [], ◌∷◌, ℕ, map, rules, refl}
use Rattle.std.specs.Global.{Vec}
use Rattle.std.proofs.lemmas.Result.{err_from_is_err_and}
use Rattle.permutation_plans.specs.FreeLaunches.{blocks_in}
use Rattle.permutation_plans.proofs.free_fit.are_given.Goals as goal

no_scripts : (scripts : List (Vec ℕ)) → map blocks_in scripts ≡ [] → scripts ≡ []
no_scripts [] none = refl
no_scripts (s ∷ ss) none = absurd cc

pub returns-in_err-is_given-clause-memory : goal.returns-in_err-is_given-clause-memory
returns-in_err-is_given-clause-memory c =
    let p = err_from_is_err_and c.from_residual.result c.from_residual.ensures.1 in
    let some : c.args.scripts.now ≢ [] = search rules in
    rw p.1 (λ none. some (no_scripts c.args.scripts.now none))

-- A session that has a turn left stands first in some of the lists.
use Rattle.std.proofs.Common.{◌≡◌, ℕ, suc, ◌+◌, Bool, false, List, [], ◌∷◌, ◌++◌, map, ap, arith}
use Rattle.std.specs.Prelude.{◌==◌, if◌then◌else◌}
use Rattle.permutation_lists.specs.Interleavings.{without}
use Rattle.permutation_lists.specs.Inner.Prefixes.{each_first}

pub with_turn : (rest : List ℕ → List (List ℕ)) (counts : List ℕ) (session c : ℕ) (more : List ℕ)
    → each_first rest counts session (suc c ∷ more) ≡ map (λ (list : List ℕ). session ∷ list) (rest (without counts session)) ++ each_first rest counts (session + 1) more
with_turn rest counts session c more =
    let some : (suc c == 0) ≡ false = grind arith in
    ap (λ (none : Bool). (if none then [] else map (λ (list : List ℕ). session ∷ list) (rest (without counts session))) ++ each_first rest counts (session + 1) more) some

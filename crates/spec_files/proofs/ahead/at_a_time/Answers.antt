use Rattle.std.proofs.Common.{◌≡◌, ◌+◌, ◌-◌, ◌*◌, ◌/◌, ◌^◌, ◌<◌, ◌≤◌, ◌⊎◌, ℕ, min, max, inl, inr, refl, sym, subst, arith, rules, le_trans, div-mul-le_self}
use Rattle.std.proofs.Math.Nat.{mul-le-mul_right}
use Rattle.std.proofs.lemmas.Bool.{cases_lt}
use Rattle.spec_files.proofs.ahead.at_a_time.Goals as goal

-- as many crews as have 64 threads together, or one
few_threads : (sessions wanted each fit most : ℕ) → each ≡ min (sessions + 1) (2 ^ 64 - 1) → fit ≡ 64 / each → most ≡ max 1 (min (min fit wanted) 16) → (1 < fit) ⊎ (fit ≤ 1) → (most ≡ 1) ⊎ (most * (sessions + 1) ≤ 64)
few_threads sessions wanted each fit most each_is fit_is most_is (inr one) = inl (omega (arith, most_is, one))
few_threads sessions wanted each fit most each_is fit_is most_is (inl several) =
    let all : fit * each ≤ 64 = subst (λ (n : ℕ). n * each ≤ 64) (sym fit_is) (div-mul-le_self 64 each) in
    let twice : 2 * each ≤ fit * each = mul-le-mul_right each several in
    let same : each ≡ sessions + 1 = omega (arith, each_is, all, twice) in
    let fewer : most ≤ fit = omega (arith, most_is, several) in
    inr (le_trans (subst (λ (n : ℕ). most * n ≤ fit * each) same (mul-le-mul_right each fewer)) all)

pub returns-clause-threads : goal.returns-clause-threads
returns-clause-threads c =
    let each = c.saturating_add-each.result in
    few_threads c.args.sessions c.args.wanted each (64 / each) c.clamp.result c.saturating_add-each.ensures refl (search rules) (cases_lt 1 (64 / each))

-- Who is found, a write after the other.
use Rattle.std.proofs.Common.{◌≡◌, refl, sym, ◌∙◌, ap, subst, Bool, true, false, ◌||◌, ℕ, List, [], ◌∷◌, ◌++◌, eqb-true, eq-eqb}
use Rattle.row_versions.specs.declared.names.TxId.{TxId}
use Rattle.row_versions.specs.Members.{has, same_tx, is_distinct}

pub same_is : (a b : TxId) → same_tx a b ≡ true → a ≡ b
same_is a b h = let mk : ℕ → TxId = λ n. record { 0 = n } in ap mk (eqb-true a.0 b.0 h)

is_same : (a : TxId) → same_tx a a ≡ true
is_same a = eq-eqb a.0 a.0 refl

pub has_last : (xs : List TxId) (t u : TxId) → has (xs ++ t ∷ []) u ≡ (has xs u || same_tx t u)
has_last [] t u = elim (same_tx t u) as (λ v. (v || false) ≡ v) [ true ↦ refl | false ↦ refl ]
has_last (x ∷ xs) t u = elim (same_tx x u) as (λ v. (v || has (xs ++ t ∷ []) u) ≡ ((v || has xs u) || same_tx t u)) [ true ↦ refl | false ↦ has_last xs t u ]

or_none : (p q : Bool) → (p || q) ≡ false → (p ≡ false) × (q ≡ false)
or_none true q h = cc
or_none false q h = (refl, h)

not_back : (a b : TxId) (v : Bool) → same_tx b a ≡ v → same_tx a b ≡ false → v ≡ false
not_back a b false e h = refl
not_back a b true e h = let is = same_is b a e in let k : same_tx b b ≡ false = subst (λ t. same_tx t b ≡ false) (sym is) h in let r = is_same b in cc

pub distinct_last : (xs : List TxId) (t : TxId) → is_distinct xs → has xs t ≡ false → is_distinct (xs ++ t ∷ [])
distinct_last [] t d h = (refl, tt)
distinct_last (x ∷ xs) t d h =
    let p = or_none (same_tx x t) (has xs t) h in
    (has_last xs t x ∙ ap (λ v. v || same_tx t x) d.0 ∙ not_back x t (same_tx t x) refl p.0, distinct_last xs t d.1 p.1)

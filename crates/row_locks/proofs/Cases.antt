-- Tests in two cases, and numbers of transactions.
use Rattle.std.proofs.Common.{◌≡◌, refl, ap, ◌⊎◌, inl, inr, Bool, true, false, ◌||◌, ◌&&◌, ℕ}
use Rattle.std.proofs.lemmas.Bool.{eqb-true, eq-eqb}
use Rattle.row_versions.specs.declared.names.TxId.{TxId}
use Rattle.row_versions.specs.Members.{same_tx}

pub bool_is : (v : Bool) → (v ≡ true) ⊎ (v ≡ false)
bool_is true = inl refl
bool_is false = inr refl

pub or_none : (p q : Bool) → (p || q) ≡ false → (p ≡ false) × (q ≡ false)
or_none true q h = cc
or_none false q h = (refl, h)

pub or_cases : (p q : Bool) → (p || q) ≡ true → (p ≡ true) ⊎ (q ≡ true)
or_cases true q h = inl refl
or_cases false q h = inr h

pub or_left : (p q : Bool) → p ≡ true → (p || q) ≡ true
or_left true q h = refl
or_left false q h = cc

pub or_right : (p q : Bool) → q ≡ true → (p || q) ≡ true
or_right true q h = refl
or_right false q h = h

pub and_both : (p q : Bool) → (p && q) ≡ true → (p ≡ true) × (q ≡ true)
and_both true q h = (refl, h)
and_both false q h = cc

pub both_and : (p q : Bool) → p ≡ true → q ≡ true → (p && q) ≡ true
both_and true q h k = k
both_and false q h k = cc

pub same_is : (a b : TxId) → same_tx a b ≡ true → a ≡ b
same_is a b h = let mk : ℕ → TxId = λ n. record { 0 = n } in ap mk (eqb-true a.0 b.0 h)

pub is_same : (a : TxId) → same_tx a a ≡ true
is_same a = eq-eqb a.0 a.0 refl

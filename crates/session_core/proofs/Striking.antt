-- A transaction is looked for in a list of those who stand in the way, and taken out of it.
use Rattle.std.proofs.Common.{◌≡◌, refl, sym, ◌∙◌, ap, Bool, true, false, cond, not, ◌&&◌, ◌||◌, ◌⊎◌, inl, inr, subst, ℕ, suc, ◌+◌, ◌<◌, List, [], ◌∷◌, ◌++◌, length, remove, arith}
use Rattle.std.specs.Prelude.{Option, Some, None}
use Rattle.std.specs.List.{position_from}
use Rattle.row_versions.specs.declared.names.TxId.{TxId}
use Rattle.row_versions.specs.Members.{has, same_tx}
use Rattle.row_locks.proofs.Cases.{bool_is, same_is}

abbrev pub place_from : TxId → ℕ → List TxId → Option ℕ
place_from tx k xs = position_from (λ other. same_tx other tx) k xs

-- what is left once the one at the place is taken out
pub record OneLess (tx : TxId) (xs : List TxId) (place : ℕ) : Type 0 where
  pub within : place < length xs
  pub fewer : length (remove xs place) < length xs
  pub others : (u : TxId) → same_tx tx u ≡ false → has (remove xs place) u ≡ has xs u

no_place : (p : ℕ) → None ≡ Some p → ⊥
no_place p h = cc

some_place : (p : ℕ) → (let o : Option ℕ = Some p in o ≡ None) → ⊥
some_place p h = cc

same_place : (p q : ℕ) → Some p ≡ Some q → p ≡ q
same_place p q h = cc

found_from : (tx : TxId) (k : ℕ) (xs : List TxId) (p : ℕ) → place_from tx k xs ≡ Some p → (i : ℕ) × (p ≡ k + i) × OneLess tx xs i
found_from tx k [] p h = absurd (no_place p h)
found_from tx k (x ∷ xs) p h = by (found_from tx (k + 1) xs p) (same_tx x tx) refl h where
  here : same_tx x tx ≡ true → OneLess tx (x ∷ xs) 0
  here e = record {
    within = omega arith;
    fewer = omega arith;
    others = λ u ne. sym (ap (λ b. b || has xs u) (ap (λ (t : TxId). same_tx t u) (same_is x tx e) ∙ ne));
  }

  behind : (i : ℕ) → OneLess tx xs i → OneLess tx (x ∷ xs) (suc i)
  behind i less =
      let within = less.within in
      let fewer = less.fewer in
      record {
        within = omega arith;
        fewer = omega arith;
        others = λ u ne. ap (λ b. same_tx x u || b) (less.others u ne);
      }

  by : (place_from tx (k + 1) xs ≡ Some p → (i : ℕ) × (p ≡ (k + 1) + i) × OneLess tx xs i) → (b : Bool) → same_tx x tx ≡ b
      → (let o : Option ℕ = cond b (Some k) (place_from tx (k + 1) xs) in o ≡ Some p) → (i : ℕ) × (p ≡ k + i) × OneLess tx (x ∷ xs) i
  by later true e g = let is = same_place k p g in (0, omega arith, here e)
  by later false e g = let r = later g in let is = r.1 in (suc r.0, omega arith, behind r.0 r.2)

pub found_at : (tx : TxId) (xs : List TxId) (p : ℕ) → place_from tx 0 xs ≡ Some p → OneLess tx xs p
found_at tx xs p h =
    let r = found_from tx 0 xs p h in
    let is : r.0 ≡ p = (let e = r.1 in omega arith) in
    subst (λ n. OneLess tx xs n) is r.2

pub none_at : (tx : TxId) (k : ℕ) (xs : List TxId) → place_from tx k xs ≡ None → has xs tx ≡ false
none_at tx k [] h = refl
none_at tx k (x ∷ xs) h = by (none_at tx (k + 1) xs) (same_tx x tx) refl h where
  by : (place_from tx (k + 1) xs ≡ None → has xs tx ≡ false) → (b : Bool) → same_tx x tx ≡ b → (let o : Option ℕ = cond b (Some k) (place_from tx (k + 1) xs) in o ≡ None) → has (x ∷ xs) tx ≡ false
  by later true e g = absurd (some_place k g)
  by later false e g = ap (λ b. b || has xs tx) e ∙ later g

pub some_at : (tx : TxId) (k : ℕ) (xs : List TxId) (p : ℕ) → place_from tx k xs ≡ Some p → has xs tx ≡ true
some_at tx k [] p h = absurd (no_place p h)
some_at tx k (x ∷ xs) p h = by (some_at tx (k + 1) xs p) (same_tx x tx) refl h where
  or_true : (b : Bool) → (b || true) ≡ true
  or_true true = refl
  or_true false = refl

  by : (place_from tx (k + 1) xs ≡ Some p → has xs tx ≡ true) → (b : Bool) → same_tx x tx ≡ b → cond b (Some k) (place_from tx (k + 1) xs) ≡ Some p → has (x ∷ xs) tx ≡ true
  by later true e g = ap (λ b. b || has xs tx) e
  by later false e g = ap (λ b. same_tx x tx || b) (later g) ∙ or_true (same_tx x tx)

-- who isn't struck is there still
pub record Struck (tx : TxId) (old now : List TxId) : Type 0 where
  pub others : (u : TxId) → same_tx tx u ≡ false → has now u ≡ has old u

pub struck_start : (tx : TxId) (old : List TxId) → Struck tx old old
struck_start tx old = record { others = λ u ne. refl }

pub struck_on : (tx : TxId) (old now later : List TxId) (p : ℕ) → Struck tx old now → place_from tx 0 now ≡ Some p → later ≡ remove now p → Struck tx old later
struck_on tx old now later p s h is = record { others = λ u ne. ap (λ (xs : List TxId). has xs u) is ∙ ((found_at tx now p h).others u ne ∙ s.others u ne) }

pub struck_end : (tx : TxId) (old now : List TxId) → Struck tx old now → place_from tx 0 now ≡ None → (u : TxId) → has now u ≡ (has old u && not (same_tx tx u))
struck_end tx old now s none u = by (bool_is (same_tx tx u)) where
  and_false : (b : Bool) → false ≡ (b && false)
  and_false true = refl
  and_false false = refl

  and_true : (b : Bool) → b ≡ (b && true)
  and_true true = refl
  and_true false = refl

  by : (same_tx tx u ≡ true) ⊎ (same_tx tx u ≡ false) → has now u ≡ (has old u && not (same_tx tx u))
  by (inl e) =
      ap (λ (t : TxId). has now t) (sym (same_is tx u e)) ∙ (none_at tx 0 now none ∙ (and_false (has old u) ∙ ap (λ b. has old u && not b) (sym e)))
  by (inr e) = s.others u e ∙ (and_true (has old u) ∙ ap (λ b. has old u && not b) (sym e))

-- one more
pub has_more : (xs : List TxId) (t u : TxId) → has (xs ++ t ∷ []) u ≡ (has xs u || same_tx t u)
has_more [] t u = or_none (same_tx t u) where
  or_none : (b : Bool) → (b || false) ≡ b
  or_none true = refl
  or_none false = refl
has_more (x ∷ xs) t u = by (has_more xs t u) (same_tx x u) where
  by : has (xs ++ t ∷ []) u ≡ (has xs u || same_tx t u) → (b : Bool) → (b || has (xs ++ t ∷ []) u) ≡ ((b || has xs u) || same_tx t u)
  by later true = refl
  by later false = later

-- who is there already needs no place more
pub there_already : (xs : List TxId) (t u : TxId) (p : ℕ) → place_from t 0 xs ≡ Some p → has xs u ≡ (has xs u || same_tx t u)
there_already xs t u p h = by (bool_is (same_tx t u)) where
  or_false : (b : Bool) → b ≡ (b || false)
  or_false true = refl
  or_false false = refl

  by : (same_tx t u ≡ true) ⊎ (same_tx t u ≡ false) → has xs u ≡ (has xs u || same_tx t u)
  by (inl e) =
      let there : has xs u ≡ true = ap (λ (w : TxId). has xs w) (sym (same_is t u e)) ∙ some_at t 0 xs p h in
      there ∙ sym (ap (λ b. b || same_tx t u) there)
  by (inr e) = or_false (has xs u) ∙ ap (λ b. has xs u || b) (sym e)

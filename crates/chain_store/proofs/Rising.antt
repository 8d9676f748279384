-- Lists of places that rise.
use Rattle.std.proofs.Common.{◌≡◌, ℕ, zero, suc, ◌+◌, ◌<◌, Bool, true, false, not, ◌&&◌, ◌||◌, cond, ◌==◌, List, [], ◌∷◌, ◌++◌, length, get_or, refl, sym, ◌∙◌, ap, subst, inl, inr, arith}
use Rattle.std.specs.Prelude.{filter}
use Rattle.std.specs.List.Sorted.{IsStrictlyIncreasing}
use Rattle.std.proofs.lemmas.Bool.{or_cases, or_left, or_right, eqb-true, eqb-false, eq-eqb, ne_eqb, cases_Bool, cases_lt, false_from_ne_true}
use Rattle.std.proofs.lemmas.List.{append-nil, length-append, get_or_append_left, get_or_at}
use Rattle.std.proofs.lemmas.List.Kept.{AllPairs-from_increasing, IsStrictlyIncreasing-filter}
use Rattle.places.specs.Noted.{has_place, has_no_place_twice, without_last}
use Rattle.places.proofs.Striking.{kept_others}
use Rattle.chain_store.specs.Inner.Linked.{added_for}
use Rattle.chain_store.proofs.Bools.{or_nothing, or_assoc, struck_here, kept_here}

pub eqb_sym : (a b : ℕ) → (a == b) ≡ (b == a)
eqb_sym a b = elim (cases_Bool (a == b)) [
  | inl same ↦ same ∙ sym (eq-eqb b a (sym (eqb-true a b same)))
  | inr other ↦ other ∙ sym (ne_eqb b a (λ e. eqb-false a b other (sym e)))
]

-- a place of the list stands at some index
pub has_index : (xs : List ℕ) (p : ℕ) → has_place xs p ≡ true → (k : ℕ) × (k < length xs) × (get_or xs k 0 ≡ p)
has_index [] p h = cc
has_index (x ∷ xs) p h = elim (or_cases (x == p) (has_place xs p) h) [
  | inl here ↦ (0, omega arith, eqb-true x p here)
  | inr later ↦ let i = has_index xs p later in (suc i.0, omega (arith, i.1), i.2)
]

-- what stands at an index is in the list
pub index_has : (xs : List ℕ) (k : ℕ) → k < length xs → has_place xs (get_or xs k 0) ≡ true
index_has [] k l = absurd (omega arith)
index_has (x ∷ xs) zero l = or_left _ _ (eq-eqb x x refl)
index_has (x ∷ xs) (suc k) l = or_right _ _ (index_has xs k (omega arith))

-- the first of a list that rises is below the rest, which rises
pub below_rest : (x : ℕ) (xs : List ℕ) (p : ℕ) → IsStrictlyIncreasing (x ∷ xs) → has_place xs p ≡ true → x < p
below_rest x xs p rise h =
    let i = has_index xs p h in
    let l : x < get_or xs i.0 0 = AllPairs-from_increasing (x ∷ xs) rise 0 (suc i.0) 0 (omega arith) (omega (arith, i.1)) in
    omega (arith, i.2)

pub rest_rises : (x : ℕ) (xs : List ℕ) → IsStrictlyIncreasing (x ∷ xs) → IsStrictlyIncreasing xs
rest_rises x xs rise k l = AllPairs-from_increasing (x ∷ xs) rise (suc k) (suc (k + 1)) 0 (omega arith) (omega arith)

-- one more place
pub has-append : (xs : List ℕ) (y p : ℕ) → has_place (xs ++ y ∷ []) p ≡ (has_place xs p || (y == p))
has-append [] y p = or_nothing (y == p)
has-append (x ∷ xs) y p = ap (λ b. (x == p) || b) (has-append xs y p) ∙ or_assoc (x == p) (has_place xs p) (y == p)

pub rise-push : (xs : List ℕ) (n : ℕ) → IsStrictlyIncreasing xs → ((p : ℕ) → has_place xs p ≡ true → p < n) → IsStrictlyIncreasing (xs ++ n ∷ [])
rise-push xs n rise below k l =
    let len : length (xs ++ n ∷ []) ≡ length xs + 1 = length-append xs (n ∷ []) in
    let here : get_or (xs ++ n ∷ []) k 0 ≡ get_or xs k 0 = get_or_append_left xs (n ∷ []) 0 k (omega arith) in
    elim (cases_lt (k + 1) (length xs)) [
      | inl inside ↦
          let next : get_or (xs ++ n ∷ []) (k + 1) 0 ≡ get_or xs (k + 1) 0 = get_or_append_left xs (n ∷ []) 0 (k + 1) inside in
          omega (arith, rise k inside)
      | inr last ↦
          let next : get_or (xs ++ n ∷ []) (k + 1) 0 ≡ n = get_or_at xs n [] 0 (k + 1) (omega arith) in
          omega (arith, below (get_or xs k 0) (index_has xs k (omega arith)))
    ]

-- a place that is noted for one number
pub has-added : (number place other : ℕ) (xs : List ℕ) (p : ℕ) → has_place (xs ++ added_for number place other) p ≡ (has_place xs p || ((number == other) && (place == p)))
has-added number place other xs p = by (number == other) where
  by : (b : Bool) → has_place (xs ++ cond b (place ∷ []) []) p ≡ (has_place xs p || (b && (place == p)))
  by true = has-append xs place p
  by false = none xs where
    none : (ys : List ℕ) → has_place (ys ++ []) p ≡ (has_place ys p || false)
    none [] = refl
    none (y ∷ ys) = ap (λ b. (y == p) || b) (none ys) ∙ or_assoc (y == p) (has_place ys p) false

pub rise-added : (number place other : ℕ) (xs : List ℕ) → IsStrictlyIncreasing xs → ((p : ℕ) → has_place xs p ≡ true → p < place) → IsStrictlyIncreasing (xs ++ added_for number place other)
rise-added number place other xs rise below = by (number == other) where
  by : (b : Bool) → IsStrictlyIncreasing (xs ++ cond b (place ∷ []) [])
  by true = rise-push xs place rise below
  by false = subst IsStrictlyIncreasing (sym (append-nil xs)) rise

-- one place struck
distinct : (xs : List ℕ) → IsStrictlyIncreasing xs → has_no_place_twice xs
distinct [] rise = tt
distinct (x ∷ xs) rise = (false_from_ne_true (has_place xs x) (λ h. let l : x < x = below_rest x xs x rise h in omega arith), distinct xs (rest_rises x xs rise))

pub rise-struck : (xs : List ℕ) (p : ℕ) → IsStrictlyIncreasing xs → IsStrictlyIncreasing (without_last p xs)
rise-struck xs p rise = subst IsStrictlyIncreasing (sym (kept_others p xs (distinct xs rise))) (IsStrictlyIncreasing-filter (λ o. not (o == p)) xs rise)

has-filter : (xs : List ℕ) (p q : ℕ) → has_place (filter (λ o. not (o == p)) xs) q ≡ (has_place xs q && not (p == q))
has-filter [] p q = refl
has-filter (x ∷ xs) p q = by (x == p) (has-filter xs p q) (λ e. ap (λ y. y == q) (eqb-true x p e)) (λ e here. ne_eqb p q (λ same. eqb-false x p e (eqb-true x q here ∙ sym same))) where
  by : (a : Bool) → has_place (filter (λ o. not (o == p)) xs) q ≡ (has_place xs q && not (p == q)) → (a ≡ true → (x == q) ≡ (p == q)) → (a ≡ false → (x == q) ≡ true → (p == q) ≡ false)
      → has_place (cond (not a) (x ∷ filter (λ o. not (o == p)) xs) (filter (λ o. not (o == p)) xs)) q ≡ (((x == q) || has_place xs q) && not (p == q))
  by true rest same other = rest ∙ struck_here (x == q) (has_place xs q) (p == q) (same refl)
  by false rest same other = ap (λ b. (x == q) || b) rest ∙ kept_here (x == q) (has_place xs q) (p == q) (other refl)

pub has-struck : (xs : List ℕ) (p q : ℕ) → IsStrictlyIncreasing xs → has_place (without_last p xs) q ≡ (has_place xs q && not (p == q))
has-struck xs p q rise = ap (λ ys. has_place ys q) (kept_others p xs (distinct xs rise)) ∙ has-filter xs p q

-- Slots in a row, some of which have a value.
use Rattle.std.proofs.Common.{◌≡◌, refl, sym, ◌∙◌, ap, subst, inl, inr, true, false, cond, ◌==◌, ℕ, zero, suc, ◌+◌, ◌<◌, List, [], ◌∷◌, ◌++◌, length, set, arith}
use Rattle.std.specs.Prelude.{◌≤◌, Option, Some, None, option_and_then, slice_get, slice_index_or, is_some}
use Rattle.std.specs.Option.{option_to_list}
use Rattle.std.proofs.lemmas.List.{set-get_or}
use Rattle.std.proofs.lemmas.Option.{slice_get-get_or, slice_get_past}
use Rattle.std.proofs.lemmas.Bool.{cases_Bool, eq-eqb, ne_eqb}
use Rattle.ordered_slots.specs.Kept.{filled, has_slot, has_no_slot_twice, value_in, values, with_value, without_slot}

module _ {T : Type 0} where
  -- the value that is so many slots behind the first
  abbrev pub value_at : List (Option T) → ℕ → Option T
  value_at xs k = option_and_then (λ slot. slot) (slice_get xs k)

  -- a value behind the others gets the slot behind them
  pub filled_more : (xs : List (Option T)) (n : ℕ) (value : T) → filled n (xs ++ Some value ∷ []) ≡ filled n xs ++ (n + length xs, value) ∷ []
  filled_more [] n value = ap (λ slot. (slot, value) ∷ []) (omega arith)
  filled_more (None ∷ xs) n value = filled_more xs (suc n) value ∙ ap (λ slot. filled (suc n) xs ++ (slot, value) ∷ []) (omega arith)
  filled_more (Some first ∷ xs) n value = ap (λ others. (n, first) ∷ others) (filled_more xs (suc n) value ∙ ap (λ slot. filled (suc n) xs ++ (slot, value) ∷ []) (omega arith))

  -- an empty slot behind the others is as none
  pub filled_none : (xs : List (Option T)) (n : ℕ) → filled n (xs ++ None ∷ []) ≡ filled n xs
  filled_none [] n = refl
  filled_none (None ∷ xs) n = filled_none xs (suc n)
  filled_none (Some first ∷ xs) n = ap (λ others. (n, first) ∷ others) (filled_none xs (suc n))

  none_before : (xs : List (Option T)) (n slot : ℕ) → slot < n → has_slot (filled n xs) slot ≡ false
  none_before [] n slot l = refl
  none_before (None ∷ xs) n slot l = none_before xs (suc n) slot (omega arith)
  none_before (Some first ∷ xs) n slot l = rw (ne_eqb n slot (λ e. omega arith)) (none_before xs (suc n) slot (omega arith))

  -- slots in a row are apart
  pub filled_apart : (xs : List (Option T)) (n : ℕ) → has_no_slot_twice (filled n xs)
  filled_apart [] n = tt
  filled_apart (None ∷ xs) n = filled_apart xs (suc n)
  filled_apart (Some first ∷ xs) n = (none_before xs (suc n) n (omega arith), filled_apart xs (suc n))

  -- no value is before the first slot
  pub value_before : (xs : List (Option T)) (n slot : ℕ) → slot < n → value_in (filled n xs) slot ≡ None
  value_before [] n slot l = refl
  value_before (None ∷ xs) n slot l = value_before xs (suc n) slot (omega arith)
  value_before (Some first ∷ xs) n slot l = rw (ne_eqb n slot (λ e. omega arith)) (value_before xs (suc n) slot (omega arith))

  pub value_there : (xs : List (Option T)) (n k slot : ℕ) → slot ≡ n + k → value_in (filled n xs) slot ≡ value_at xs k
  value_there [] n k slot e = refl
  value_there (None ∷ xs) n zero slot e = value_before xs (suc n) slot (omega arith)
  value_there (None ∷ xs) n (suc k) slot e = value_there xs (suc n) k slot (omega arith)
  value_there (Some first ∷ xs) n zero slot e = rw (eq-eqb n slot (omega arith)) refl
  value_there (Some first ∷ xs) n (suc k) slot e = rw (ne_eqb n slot (λ f. omega arith)) (value_there xs (suc n) k slot (omega arith))

  -- where the slot has no value, none is taken out, and none is put there
  pub without_none : (pairs : List (ℕ × T)) (slot : ℕ) → value_in pairs slot ≡ None → without_slot slot pairs ≡ pairs
  without_none [] slot h = refl
  without_none (pair ∷ rest) slot h = elim (cases_Bool (pair.0 == slot)) [
    | inl k ↦ let e : Some pair.1 ≡ None = subst (λ b. cond b (Some pair.1) (value_in rest slot) ≡ None) k h in cc
    | inr k ↦ rw k (ap (λ others. pair ∷ others) (without_none rest slot (subst (λ b. cond b (Some pair.1) (value_in rest slot) ≡ None) k h)))
  ]

  pub with_none : (pairs : List (ℕ × T)) (slot : ℕ) (value : T) → value_in pairs slot ≡ None → with_value slot value pairs ≡ pairs
  with_none [] slot value h = refl
  with_none (pair ∷ rest) slot value h = elim (cases_Bool (pair.0 == slot)) [
    | inl k ↦ let e : Some pair.1 ≡ None = subst (λ b. cond b (Some pair.1) (value_in rest slot) ≡ None) k h in cc
    | inr k ↦ rw k (ap (λ others. pair ∷ others) (with_none rest slot value (subst (λ b. cond b (Some pair.1) (value_in rest slot) ≡ None) k h)))
  ]

  -- without its value a slot is empty
  pub without_there : (xs : List (Option T)) (n k slot : ℕ) → slot ≡ n + k → filled n (set xs k None) ≡ without_slot slot (filled n xs)
  without_there [] n k slot e = refl
  without_there (None ∷ xs) n zero slot e = sym (without_none (filled (suc n) xs) slot (value_before xs (suc n) slot (omega arith)))
  without_there (None ∷ xs) n (suc k) slot e = without_there xs (suc n) k slot (omega arith)
  without_there (Some first ∷ xs) n zero slot e = rw (eq-eqb n slot (omega arith)) refl
  without_there (Some first ∷ xs) n (suc k) slot e = rw (ne_eqb n slot (λ f. omega arith)) (ap (λ others. (n, first) ∷ others) (without_there xs (suc n) k slot (omega arith)))

  -- the values are the same from wherever slots are numbered
  pub same_values : (xs : List (Option T)) (n m : ℕ) → values (filled n xs) ≡ values (filled m xs)
  same_values [] n m = refl
  same_values (None ∷ xs) n m = same_values xs (suc n) (suc m)
  same_values (Some first ∷ xs) n m = ap (λ others. first ∷ others) (same_values xs (suc n) (suc m))

  -- a slot that is read by its place
  pub slot_is : (xs : List (Option T)) (k : ℕ) (slot : Option T) → k < length xs → ((d : Option T) → slot ≡ slice_index_or xs k d) → value_at xs k ≡ slot
  slot_is xs k slot l h = ap (option_and_then (λ s. s)) (slice_get-get_or xs k slot l ∙ ap Some (sym (h slot)))

  pub no_slot : (xs : List (Option T)) (k : ℕ) → length xs ≤ k → value_at xs k ≡ None
  no_slot xs k l = ap (option_and_then (λ s. s)) (slice_get_past xs k l)

  pub only_none : (slot : Option T) → is_some slot ≡ false → slot ≡ None
  only_none None h = refl
  only_none (Some value) h = cc

  -- with another value a slot that has one has that, and an empty one stays so
  pub with_slot : (xs : List (Option T)) (n k slot : ℕ) (new : T) (old : Option T) → slot ≡ n + k → value_at xs k ≡ old → is_some old ≡ true → filled n (set xs k (Some new)) ≡ with_value slot new (filled n xs)
  with_slot [] n k slot new old e is some = cc
  with_slot (None ∷ xs) n zero slot new old e is some = cc
  with_slot (None ∷ xs) n (suc k) slot new old e is some = with_slot xs (suc n) k slot new old (omega arith) is some
  with_slot (Some first ∷ xs) n zero slot new old e is some = rw (eq-eqb n slot (omega arith)) refl
  with_slot (Some first ∷ xs) n (suc k) slot new old e is some = rw (ne_eqb n slot (λ f. omega arith)) (ap (λ others. (n, first) ∷ others) (with_slot xs (suc n) k slot new old (omega arith) is some))

  -- what is read at a place and put there again is there
  pub set_same : (xs : List (Option T)) (k : ℕ) (slot : Option T) → ((d : Option T) → slot ≡ slice_index_or xs k d) → set xs k slot ≡ xs
  set_same xs k slot h = ap (set xs k) (h slot) ∙ set-get_or xs k slot

  -- what is popped at the back, where that is an empty slot, is none of the values
  pub popped_none : (xs ys : List (Option T)) (popped : Option (Option T)) (k n : ℕ) → popped ≡ Some (slice_index_or xs k None) → None ≡ slice_index_or xs k None → xs ≡ ys ++ option_to_list popped → filled n ys ≡ filled n xs
  popped_none xs ys popped k n is none parts =
      sym (filled_none ys n) ∙ sym (ap (filled n) (parts ∙ ap (λ slot. ys ++ option_to_list slot) (is ∙ ap Some (sym none))))

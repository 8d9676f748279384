-- A wait whose blockers are set anew keeps its place.
use Rattle.std.proofs.Common.{◌≡◌, refl, sym, ◌∙◌, ap, subst, inl, inr, Bool, true, false, cond, ◌||◌, ◌==◌, ℕ, suc, ◌+◌, ◌<◌, ◌≤◌, List, [], ◌∷◌, length, arith}
use Rattle.std.specs.Prelude.{Some, None, position, slice_get, slice_set}
use Rattle.std.specs.List.{position_or_len}
use Rattle.std.proofs.lemmas.Bool.{eqb-true, eq-eqb, le-ltb, lt-ltb, ltb-false, ltb-true}
use Rattle.std.proofs.Math.Dec.{ltb}
use Rattle.places.specs.declared.places.Places.{Places}
use Rattle.places.specs.Noted.{noted, has_place}
use Rattle.ordered_slots.specs.Kept.{has_no_slot_twice, has_slot, value_in, values, with_value}
use Rattle.row_versions.specs.declared.names.TxId.{TxId}
use Rattle.row_locks.specs.Waiting.{Waiting, is_wait_of, set_wait, with_blockers}
use Rattle.row_locks.specs.Inner.Noting.{AreNoted, slots_of}
use Rattle.row_locks.proofs.Cases.{bool_is}
use Rattle.row_locks.proofs.Noting.{none_kept, noted_has, slots_in, slots_out, value_here, value_there}

-- ---- by slots
renewed_slots : {T : Type 0} (test : T → Bool) (pairs : List (ℕ × T)) (slot : ℕ) (old new : T) → value_in pairs slot ≡ Some old → test old ≡ test new → slots_of test (with_value slot new pairs) ≡ slots_of test pairs
renewed_slots test [] slot old new is same = cc
renewed_slots test (pair ∷ rest) slot old new is same = elim (bool_is (pair.0 == slot)) [
  | inl k ↦
      let e : test pair.1 ≡ test new = ap test (value_here pair rest slot old k is) ∙ same in
      elim (bool_is (test new)) [
        | inl m ↦ rw (k, m, e ∙ m)
        | inr m ↦ rw (k, m, e ∙ m)
      ]
  | inr k ↦
      let others = renewed_slots test rest slot old new (value_there pair rest slot old k is) same in
      elim (bool_is (test pair.1)) [
        | inl m ↦ rw (k, m) (ap (λ kept. pair.0 ∷ kept) others)
        | inr m ↦ rw (k, m) others
      ]
]

noted_renewed : {T : Type 0} (number : T → ℕ) (places : Places) (pairs : List (ℕ × T)) (slot : ℕ) (old new : T) → AreNoted number places pairs → value_in pairs slot ≡ Some old → number old ≡ number new → AreNoted number places (with_value slot new pairs)
noted_renewed number places pairs slot old new are is same n = are n ∙ sym (renewed_slots (λ v. number v == n) pairs slot old new is (ap (λ m. m == n) same))

renewed_has : {T : Type 0} (pairs : List (ℕ × T)) (slot other : ℕ) (new : T) → has_slot (with_value slot new pairs) other ≡ has_slot pairs other
renewed_has [] slot other new = refl
renewed_has (pair ∷ rest) slot other new = elim (bool_is (pair.0 == slot)) [
  | inl k ↦ rw k
  | inr k ↦ rw k (ap (λ b. (pair.0 == other) || b) (renewed_has rest slot other new))
]

renewed_apart : {T : Type 0} (pairs : List (ℕ × T)) (slot : ℕ) (new : T) → has_no_slot_twice pairs → has_no_slot_twice (with_value slot new pairs)
renewed_apart [] slot new apart = tt
renewed_apart (pair ∷ rest) slot new apart = elim (bool_is (pair.0 == slot)) [
  | inl k ↦ rw k apart
  | inr k ↦ rw k (renewed_has rest slot pair.0 new ∙ apart.0, renewed_apart rest slot new apart.1)
]

-- ---- by places
-- the list with another value in place of the first that passes
abbrev renew : {T : Type 0} → (T → Bool) → T → List T → List T
renew test new [] = []
renew test new (first ∷ rest) = cond (test first) (new ∷ rest) (first ∷ renew test new rest)

place_here : {T : Type 0} (test : T → Bool) (first : T) (rest : List T) → test first ≡ true → position test (first ∷ rest) ≡ Some 0
place_here test first rest h = rw (h, lt-ltb 0 (length (first ∷ rest)) (omega arith))

place_later : {T : Type 0} (test : T → Bool) (first : T) (rest : List T) → test first ≡ false → position_or_len test rest < length rest → position test (first ∷ rest) ≡ Some (suc (position_or_len test rest))
place_later test first rest h l = rw (h, lt-ltb (1 + position_or_len test rest) (length (first ∷ rest)) (omega arith)) (ap (λ n. Some n) (omega arith))

place_nowhere : {T : Type 0} (test : T → Bool) (first : T) (rest : List T) → test first ≡ false → length rest ≤ position_or_len test rest → position test (first ∷ rest) ≡ None
place_nowhere test first rest h l = rw (h, le-ltb (1 + position_or_len test rest) (length (first ∷ rest)) (omega arith))

set_is : (test : Waiting → Bool) (new : Waiting) (waits : List Waiting) → set_wait waits new (position test waits) ≡ renew test new waits
set_is test new [] = refl
set_is test new (first ∷ rest) = elim (bool_is (test first)) [
  | inl h ↦ ap (λ o. set_wait (first ∷ rest) new o) (place_here test first rest h) ∙ rw h
  | inr h ↦ elim (bool_is (ltb (position_or_len test rest) (length rest))) [
    | inl k ↦
        let e : position test rest ≡ Some (position_or_len test rest) = rw k in
        let same : slice_set rest (position_or_len test rest) new ≡ renew test new rest = ap (λ o. set_wait rest new o) (sym e) ∙ set_is test new rest in
        ap (λ o. set_wait (first ∷ rest) new o) (place_later test first rest h (ltb-true (position_or_len test rest) (length rest) k)) ∙ ap (λ others. first ∷ others) same ∙ rw h
    | inr k ↦
        let e : position test rest ≡ None = rw k in
        let same : rest ≡ renew test new rest = ap (λ o. set_wait rest new o) (sym e) ∙ set_is test new rest in
        ap (λ o. set_wait (first ∷ rest) new o) (place_nowhere test first rest h (ltb-false (position_or_len test rest) (length rest) k)) ∙ ap (λ others. first ∷ others) same ∙ rw h
  ]
]

first_there : (places : List ℕ) (place : ℕ) → slice_get places 0 ≡ Some place → has_place places place ≡ true
first_there [] place h = cc
first_there (first ∷ rest) place h = let e : first ≡ place = cc in rw (eq-eqb first place e)

renewed_values : {T : Type 0} (test : T → Bool) (pairs : List (ℕ × T)) (slot : ℕ) (new : T) → has_no_slot_twice pairs → slice_get (slots_of test pairs) 0 ≡ Some slot → values (with_value slot new pairs) ≡ renew test new (values pairs)
renewed_values test [] slot new apart h = cc
renewed_values test (pair ∷ rest) slot new apart h = elim (bool_is (test pair.1)) [
  | inl m ↦
      let s : Some pair.0 ≡ Some slot = subst (λ xs. slice_get xs 0 ≡ Some slot) (slots_in test pair rest m) h in
      let e : pair.0 ≡ slot = cc in
      rw (eq-eqb pair.0 slot e, m)
  | inr m ↦
      let later : slice_get (slots_of test rest) 0 ≡ Some slot = subst (λ xs. slice_get xs 0 ≡ Some slot) (slots_out test pair rest m) h in
      elim (bool_is (pair.0 == slot)) [
        | inl k ↦
            let none : has_place (slots_of test rest) slot ≡ false = none_kept test rest slot (subst (λ n. has_slot rest n ≡ false) (eqb-true pair.0 slot k) apart.0) in
            let some = first_there (slots_of test rest) slot later in
            cc
        | inr k ↦ rw (k, m) (ap (λ others. pair.1 ∷ others) (renewed_values test rest slot new apart.1 later))
      ]
]

-- the blockers are set in the first slot whose wait passes
renewed : (test : Waiting → Bool) (pairs : List (ℕ × Waiting)) (slot : ℕ) (new : Waiting) → has_no_slot_twice pairs → slice_get (slots_of test pairs) 0 ≡ Some slot → values (with_value slot new pairs) ≡ set_wait (values pairs) new (position test (values pairs))
renewed test pairs slot new apart h = renewed_values test pairs slot new apart h ∙ sym (set_is test new (values pairs))

none_renewed : (test : Waiting → Bool) (pairs : List (ℕ × Waiting)) (new : Waiting) → slots_of test pairs ≡ [] → values pairs ≡ renew test new (values pairs)
none_renewed test [] new h = refl
none_renewed test (pair ∷ rest) new h = elim (bool_is (test pair.1)) [
  | inl m ↦ let e : pair.0 ∷ slots_of test rest ≡ [] = sym (slots_in test pair rest m) ∙ h in cc
  | inr m ↦ rw m (ap (λ others. pair.1 ∷ others) (none_renewed test rest new (sym (slots_out test pair rest m) ∙ h)))
]

empty : (places : List ℕ) → slice_get places 0 ≡ None → places ≡ []
empty [] h = refl
empty (first ∷ rest) h = cc

-- where no wait passes, none is set
not_renewed : (test : Waiting → Bool) (pairs : List (ℕ × Waiting)) (new : Waiting) → slice_get (slots_of test pairs) 0 ≡ None → values pairs ≡ set_wait (values pairs) new (position test (values pairs))
not_renewed test pairs new h = none_renewed test pairs new (empty (slots_of test pairs) h) ∙ sym (set_is test new (values pairs))

-- a transaction's first wait has other blockers, and all else is as it was
pub record IsSet (waits after : List (ℕ × Waiting)) (by_tx : Places) (tx : TxId) (blockers : List TxId) : Type 0 where
  pub apart : has_no_slot_twice after
  pub noted : AreNoted (λ w. w.tx.0) by_tx after
  pub set : values after ≡ with_blockers tx blockers (values waits)

pub is_set : (waits after : List (ℕ × Waiting)) (by_tx : Places) (tx : TxId) (blockers : List TxId) (slot : ℕ) → has_no_slot_twice waits → AreNoted (λ (w : Waiting). w.tx.0) by_tx waits → Some slot ≡ slice_get (noted by_tx tx.0) 0 → after ≡ with_value slot (record { tx = tx; blockers = blockers }) waits → IsSet waits after by_tx tx blockers
is_set waits after by_tx tx blockers slot apart are first e =
    let new : Waiting = record { tx = tx; blockers = blockers } in
    let at : slice_get (slots_of (is_wait_of tx) waits) 0 ≡ Some slot = ap (λ xs. slice_get xs 0) (sym (are tx.0)) ∙ sym first in
    let old = noted_has (is_wait_of tx) waits slot apart (first_there (slots_of (is_wait_of tx) waits) slot at) in
    record {
      apart = subst (λ ws. has_no_slot_twice ws) (sym e) (renewed_apart waits slot new apart);
      noted = subst (λ ws. AreNoted (λ (w : Waiting). w.tx.0) by_tx ws) (sym e) (noted_renewed (λ (w : Waiting). w.tx.0) by_tx waits slot old.0 new are old.1 (eqb-true old.0.tx.0 tx.0 old.2));
      set = ap (λ (ws : List (ℕ × Waiting)). values ws) e ∙ renewed (is_wait_of tx) waits slot new apart at;
    }

-- where the transaction doesn't wait, nothing is set
pub none_set : (waits : List (ℕ × Waiting)) (by_tx : Places) (tx : TxId) (blockers : List TxId) → AreNoted (λ (w : Waiting). w.tx.0) by_tx waits → slice_get (noted by_tx tx.0) 0 ≡ None → values waits ≡ with_blockers tx blockers (values waits)
none_set waits by_tx tx blockers are none = not_renewed (is_wait_of tx) waits (record { tx = tx; blockers = blockers }) (ap (λ xs. slice_get xs 0) (sym (are tx.0)) ∙ none)

-- Slots that are noted by a number of their values: what a value changes that is added or taken out.
use Rattle.std.proofs.Common.{◌≡◌, refl, sym, ◌∙◌, ap, subst, inl, inr, Bool, true, false, cond, not, ◌==◌, ℕ, suc, ◌+◌, ◌-◌, List, [], ◌∷◌, ◌++◌, length, arith, filter}
use Rattle.std.specs.Prelude.{Some, None, slice_get}
use Rattle.std.proofs.lemmas.Bool.{eqb-true, eqb-false, eq-eqb, ne_eqb}
use Rattle.std.proofs.lemmas.List.{append-nil}
use Rattle.std.proofs.lemmas.List.Folds.{list_any-append}
use Rattle.places.specs.declared.places.Places.{Places}
use Rattle.places.specs.Noted.{noted, has_place, without_last}
use Rattle.ordered_slots.specs.Kept.{has_no_slot_twice, has_slot, slots, value_in, values, without_slot}
use Rattle.row_locks.specs.Inner.Noting.{AreNoted, slots_of}
use Rattle.row_locks.proofs.Cases.{bool_is, or_left, or_none, or_right}

apart_back : (a b : ℕ) → (a == b) ≡ false → (b == a) ≡ false
apart_back a b h = ne_eqb b a (λ e. eqb-false a b h (sym e))

-- ---- one pair at the front
pub slots_in : {T : Type 0} (test : T → Bool) (pair : ℕ × T) (rest : List (ℕ × T)) → test pair.1 ≡ true → slots_of test (pair ∷ rest) ≡ pair.0 ∷ slots_of test rest
slots_in test pair rest m = rw m

pub slots_out : {T : Type 0} (test : T → Bool) (pair : ℕ × T) (rest : List (ℕ × T)) → test pair.1 ≡ false → slots_of test (pair ∷ rest) ≡ slots_of test rest
slots_out test pair rest m = rw m

none_in : {T : Type 0} (pairs : List (ℕ × T)) (slot : ℕ) → has_slot pairs slot ≡ false → value_in pairs slot ≡ None
none_in [] slot h = refl
none_in (pair ∷ rest) slot h = let q = or_none (pair.0 == slot) (has_slot rest slot) h in rw q.0 (none_in rest slot q.1)

-- a slot with a value is another than one that has none
pub other_slot : {T : Type 0} (rest : List (ℕ × T)) (first slot : ℕ) (value : T) → has_slot rest first ≡ false → value_in rest slot ≡ Some value → (first == slot) ≡ false
other_slot rest first slot value none is = elim (bool_is (first == slot)) [
  | inl k ↦
      let e : value_in rest slot ≡ None = subst (λ n. value_in rest n ≡ None) (eqb-true first slot k) (none_in rest first none) in
      cc
  | inr k ↦ k
]

-- ---- one value more
slots_push : {T : Type 0} (test : T → Bool) (pairs : List (ℕ × T)) (slot : ℕ) (value : T) (b : Bool) → test value ≡ b → slots_of test (pairs ++ (slot, value) ∷ []) ≡ slots_of test pairs ++ cond b (slot ∷ []) []
slots_push test [] slot value true h = rw h
slots_push test [] slot value false h = rw h
slots_push test (pair ∷ rest) slot value b h = elim (bool_is (test pair.1)) [
  | inl k ↦ rw k (ap (λ others. pair.0 ∷ others) (slots_push test rest slot value b h))
  | inr k ↦ rw k (slots_push test rest slot value b h)
]

pub noted_more : {T : Type 0} (number : T → ℕ) (places after : Places) (pairs : List (ℕ × T)) (slot : ℕ) (value : T) → AreNoted number places pairs → noted after (number value) ≡ noted places (number value) ++ slot ∷ [] → ((other : ℕ) → (other == number value) ≡ false → noted after other ≡ noted places other) → AreNoted number after (pairs ++ (slot, value) ∷ [])
noted_more number places after pairs slot value are at others n = elim (bool_is (n == number value)) [
  | inl k ↦
      let e : n ≡ number value = eqb-true n (number value) k in
      ap (λ m. noted after m) e ∙ at ∙ ap (λ m. noted places m ++ slot ∷ []) (sym e) ∙ ap (λ xs. xs ++ slot ∷ []) (are n) ∙ sym (slots_push (λ v. number v == n) pairs slot value true (eq-eqb (number value) n (sym e)))
  | inr k ↦ others n k ∙ are n ∙ sym (append-nil (slots_of (λ v. number v == n) pairs)) ∙ sym (slots_push (λ v. number v == n) pairs slot value false (apart_back n (number value) k))
]

has_pushed : (places : List ℕ) (place : ℕ) → has_place (places ++ place ∷ []) place ≡ true
has_pushed [] place = rw (eq-eqb place place refl)
has_pushed (first ∷ rest) place = or_right (first == place) (has_place (rest ++ place ∷ []) place) (has_pushed rest place)

struck_pushed : (places : List ℕ) (place : ℕ) → without_last place (places ++ place ∷ []) ≡ places
struck_pushed [] place = rw (eq-eqb place place refl)
struck_pushed (first ∷ rest) place = rw (has_pushed rest place) (ap (λ others. first ∷ others) (struck_pushed rest place))

-- what is noted and struck again is as it was
pub as_before : (places mid after : Places) (number slot : ℕ) → noted mid number ≡ noted places number ++ slot ∷ [] → ((other : ℕ) → (other == number) ≡ false → noted mid other ≡ noted places other)
    → noted after number ≡ without_last slot (noted mid number) → ((other : ℕ) → (other == number) ≡ false → noted after other ≡ noted mid other) → (n : ℕ) → noted after n ≡ noted places n
as_before places mid after number slot added others struck back n = elim (bool_is (n == number)) [
  | inl k ↦
      let e : n ≡ number = eqb-true n number k in
      ap (λ m. noted after m) e ∙ struck ∙ ap (λ xs. without_last slot xs) added ∙ struck_pushed (noted places number) slot ∙ ap (λ m. noted places m) (sym e)
  | inr k ↦ back n k ∙ others n k
]

-- ---- one value less
absent_same : (places : List ℕ) (place : ℕ) → has_place places place ≡ false → without_last place places ≡ places
absent_same [] place h = refl
absent_same (first ∷ rest) place h = let q = or_none (first == place) (has_place rest place) h in rw (q.1, q.0)

struck_head : (first slot : ℕ) (rest : List ℕ) → (first == slot) ≡ false → without_last slot (first ∷ rest) ≡ first ∷ without_last slot rest
struck_head first slot rest k = elim (bool_is (has_place rest slot)) [
  | inl h ↦ rw h
  | inr h ↦ rw (h, k) (ap (λ others. first ∷ others) (sym (absent_same rest slot h)))
]

pub none_kept : {T : Type 0} (test : T → Bool) (pairs : List (ℕ × T)) (slot : ℕ) → has_slot pairs slot ≡ false → has_place (slots_of test pairs) slot ≡ false
none_kept test [] slot h = refl
none_kept test (pair ∷ rest) slot h =
    let q = or_none (pair.0 == slot) (has_slot rest slot) h in
    elim (bool_is (test pair.1)) [
      | inl k ↦ rw (k, q.0) (none_kept test rest slot q.1)
      | inr k ↦ rw k (none_kept test rest slot q.1)
    ]

pub value_here : {T : Type 0} (pair : ℕ × T) (rest : List (ℕ × T)) (slot : ℕ) (value : T) → (pair.0 == slot) ≡ true → value_in (pair ∷ rest) slot ≡ Some value → pair.1 ≡ value
value_here pair rest slot value k is = let s : Some pair.1 ≡ Some value = rw k at is in cc

pub value_there : {T : Type 0} (pair : ℕ × T) (rest : List (ℕ × T)) (slot : ℕ) (value : T) → (pair.0 == slot) ≡ false → value_in (pair ∷ rest) slot ≡ Some value → value_in rest slot ≡ Some value
value_there pair rest slot value k is = rw k at is

struck_slots : {T : Type 0} (test : T → Bool) (pairs : List (ℕ × T)) (slot : ℕ) (value : T) → has_no_slot_twice pairs → value_in pairs slot ≡ Some value → test value ≡ true → slots_of test (without_slot slot pairs) ≡ without_last slot (slots_of test pairs)
struck_slots test [] slot value apart is h = cc
struck_slots test (pair ∷ rest) slot value apart is h = elim (bool_is (pair.0 == slot)) [
  | inl k ↦
      let passes : test pair.1 ≡ true = ap test (value_here pair rest slot value k is) ∙ h in
      let none : has_place (slots_of test rest) slot ≡ false = none_kept test rest slot (subst (λ n. has_slot rest n ≡ false) (eqb-true pair.0 slot k) apart.0) in
      rw (passes, none, k)
  | inr k ↦
      let same = struck_slots test rest slot value apart.1 (value_there pair rest slot value k is) h in
      elim (bool_is (test pair.1)) [
        | inl m ↦ rw (k, m) (ap (λ others. pair.0 ∷ others) same ∙ sym (struck_head pair.0 slot (slots_of test rest) k))
        | inr m ↦ rw (k, m) same
      ]
]

struck_others : {T : Type 0} (test : T → Bool) (pairs : List (ℕ × T)) (slot : ℕ) (value : T) → value_in pairs slot ≡ Some value → test value ≡ false → filter (λ (pair : ℕ × T). test pair.1) (without_slot slot pairs) ≡ filter (λ (pair : ℕ × T). test pair.1) pairs
struck_others test [] slot value is h = cc
struck_others test (pair ∷ rest) slot value is h = elim (bool_is (pair.0 == slot)) [
  | inl k ↦
      let fails : test pair.1 ≡ false = ap test (value_here pair rest slot value k is) ∙ h in
      rw (k, fails)
  | inr k ↦
      let same = struck_others test rest slot value (value_there pair rest slot value k is) h in
      elim (bool_is (test pair.1)) [
        | inl m ↦ rw (k, m) (ap (λ others. pair ∷ others) same)
        | inr m ↦ rw (k, m) same
      ]
]

pub noted_less : {T : Type 0} (number : T → ℕ) (places after : Places) (pairs : List (ℕ × T)) (slot : ℕ) (value : T) → AreNoted number places pairs → has_no_slot_twice pairs → value_in pairs slot ≡ Some value → noted after (number value) ≡ without_last slot (noted places (number value)) → ((other : ℕ) → (other == number value) ≡ false → noted after other ≡ noted places other) → AreNoted number after (without_slot slot pairs)
noted_less number places after pairs slot value are apart is at others n = elim (bool_is (n == number value)) [
  | inl k ↦
      let e : n ≡ number value = eqb-true n (number value) k in
      ap (λ m. noted after m) e ∙ at ∙ ap (λ m. without_last slot (noted places m)) (sym e) ∙ ap (λ xs. without_last slot xs) (are n) ∙ sym (struck_slots (λ v. number v == n) pairs slot value apart is (eq-eqb (number value) n (sym e)))
  | inr k ↦ others n k ∙ are n ∙ sym (ap (λ kept. slots kept) (struck_others (λ v. number v == n) pairs slot value is (apart_back n (number value) k)))
]

-- the value that was added last is taken out again
pub without_pushed : {T : Type 0} (pairs : List (ℕ × T)) (slot : ℕ) (value : T) → has_no_slot_twice (pairs ++ (slot, value) ∷ []) → without_slot slot (pairs ++ (slot, value) ∷ []) ≡ pairs
without_pushed [] slot value apart = rw (eq-eqb slot slot refl)
without_pushed (pair ∷ rest) slot value apart =
    let q = or_none (has_slot rest pair.0) (has_slot ((slot, value) ∷ []) pair.0) (sym (list_any-append (λ other. other.0 == pair.0) rest ((slot, value) ∷ [])) ∙ apart.0) in
    let r = or_none (slot == pair.0) false q.1 in
    rw (apart_back slot pair.0 r.0) (ap (λ others. pair ∷ others) (without_pushed rest slot value apart.1))

-- ---- what a slot that is noted holds
pub noted_has : {T : Type 0} (test : T → Bool) (pairs : List (ℕ × T)) (slot : ℕ) → has_no_slot_twice pairs → has_place (slots_of test pairs) slot ≡ true → (value : T) × (value_in pairs slot ≡ Some value) × (test value ≡ true)
noted_has test [] slot apart h = cc
noted_has test (pair ∷ rest) slot apart h = elim (bool_is (pair.0 == slot)) [
  | inl k ↦ elim (bool_is (test pair.1)) [
    | inl m ↦ (pair.1, rw k, m)
    | inr m ↦
        let none : has_place (slots_of test rest) slot ≡ false = none_kept test rest slot (subst (λ n. has_slot rest n ≡ false) (eqb-true pair.0 slot k) apart.0) in
        let some : has_place (slots_of test rest) slot ≡ true = rw m at h in
        cc
  ]
  | inr k ↦
      let some : has_place (slots_of test rest) slot ≡ true = elim (bool_is (test pair.1)) [
        | inl m ↦ rw k at (rw m at h)
        | inr m ↦ rw m at h
      ] in
      let r = noted_has test rest slot apart.1 some in
      (r.0, rw k r.1, r.2)
]

pub has_noted : {T : Type 0} (test : T → Bool) (pairs : List (ℕ × T)) (slot : ℕ) (value : T) → value_in pairs slot ≡ Some value → test value ≡ true → has_place (slots_of test pairs) slot ≡ true
has_noted test [] slot value is h = cc
has_noted test (pair ∷ rest) slot value is h = elim (bool_is (pair.0 == slot)) [
  | inl k ↦
      let m : test pair.1 ≡ true = ap test (value_here pair rest slot value k is) ∙ h in
      subst (λ xs. has_place xs slot ≡ true) (sym (slots_in test pair rest m)) (or_left (pair.0 == slot) (has_place (slots_of test rest) slot) k)
  | inr k ↦
      let r = has_noted test rest slot value (value_there pair rest slot value k is) h in
      elim (bool_is (test pair.1)) [
        | inl m ↦ subst (λ xs. has_place xs slot ≡ true) (sym (slots_in test pair rest m)) (or_right (pair.0 == slot) (has_place (slots_of test rest) slot) r)
        | inr m ↦ subst (λ xs. has_place xs slot ≡ true) (sym (slots_out test pair rest m)) r
      ]
]

pub one_fewer : {T : Type 0} (pairs : List (ℕ × T)) (slot : ℕ) (value : T) → value_in pairs slot ≡ Some value → length (without_slot slot pairs) + 1 ≡ length pairs
one_fewer [] slot value is = cc
one_fewer (pair ∷ rest) slot value is = elim (bool_is (pair.0 == slot)) [
  | inl k ↦ rw k (omega arith)
  | inr k ↦ rw k (let r = one_fewer rest slot value (value_there pair rest slot value k is) in omega arith)
]

-- ---- values that pass a test
pub filter_values : {T : Type 0} (test : T → Bool) (pairs : List (ℕ × T)) → filter test (values pairs) ≡ values (filter (λ pair. test pair.1) pairs)
filter_values test [] = refl
filter_values test (pair ∷ rest) = elim (bool_is (test pair.1)) [
  | inl m ↦ rw m (ap (λ others. pair.1 ∷ others) (filter_values test rest))
  | inr m ↦ rw m (filter_values test rest)
]

-- to take out a value that fails changes nothing of those that pass
pub filter_less : {T : Type 0} (test : T → Bool) (pairs : List (ℕ × T)) (slot : ℕ) (value : T) → value_in pairs slot ≡ Some value → test value ≡ false → filter test (values (without_slot slot pairs)) ≡ filter test (values pairs)
filter_less test pairs slot value is h = filter_values test (without_slot slot pairs) ∙ ap (λ kept. values kept) (struck_others test pairs slot value is h) ∙ sym (filter_values test pairs)

-- where no slot passes, all values fail
pub all_fail : {T : Type 0} (test : T → Bool) (pairs : List (ℕ × T)) → slots_of test pairs ≡ [] → filter (λ value. not (test value)) (values pairs) ≡ values pairs
all_fail test [] h = refl
all_fail test (pair ∷ rest) h = elim (bool_is (test pair.1)) [
  | inl m ↦ let e : pair.0 ∷ slots_of test rest ≡ [] = rw m at h in cc
  | inr m ↦ rw m (ap (λ others. pair.1 ∷ others) (all_fail test rest (rw m at h)))
]

-- the last place that is noted is there
pub last_there : (places : List ℕ) (place : ℕ) → slice_get places (length places - 1) ≡ Some place → has_place places place ≡ true
last_there [] place h = cc
last_there (first ∷ []) place h = let e : first ≡ place = cc in rw (eq-eqb first place e)
last_there (first ∷ second ∷ rest) place h =
    let e : length (first ∷ second ∷ rest) - 1 ≡ suc (length (second ∷ rest) - 1) = omega arith in
    or_right (first == place) (has_place (second ∷ rest) place) (last_there (second ∷ rest) place (subst (λ i. slice_get (first ∷ second ∷ rest) i ≡ Some place) e h))

-- a value that was added and taken out again leaves all as it was
pub taken_back : {T : Type 0} (pairs after back : List (ℕ × T)) (slot : ℕ) (value : T) → after ≡ pairs ++ (slot, value) ∷ [] → has_no_slot_twice after → back ≡ without_slot slot after → back ≡ pairs
taken_back pairs after back slot value added apart taken = taken ∙ ap (λ kept. without_slot slot kept) added ∙ without_pushed pairs slot value (subst (λ kept. has_no_slot_twice kept) added apart)

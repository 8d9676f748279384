-- The interleavings are the lists in which each session occurs as often as it has steps.
use Rattle.std.proofs.Common.{◌≡◌, ◌≢◌, ◌⊎◌, ℕ, zero, suc, ◌+◌, ◌-◌, ◌<◌, List, [], ◌∷◌, ◌++◌, map, sum, length, Bool, cond, refl, sym, ap, subst, ◌∙◌, arith, inl, inr, get_or, get_or-set_same, get_or-set_other}
use Rattle.std.specs.Prelude.{◌↔◌, ◌==◌, Contains, count_by, slice_index_or}
use Rattle.std.proofs.lemmas.List.Sums.{sum_by-cons}
use Rattle.std.proofs.lemmas.Bool.Decides.{eqb_tells}
use Rattle.permutation_lists.specs.Inner.Prefixes.{each_first}
use Rattle.permutation_lists.proofs.First.{with_turn}
use Rattle.permutation_lists.specs.Interleavings.{without, of_length, interleavings, IsInterleaving}
use Rattle.permutation_lists.proofs.Places.{sum_cons, sum_less}

-- a list is one of some, by recursion
abbrev pub Has : List (List ℕ) → List ℕ → Type 0
Has [] l = ⊥
Has (m ∷ ms) l = (m ≡ l) ⊎ Has ms l

pub contains_from_has : (ms : List (List ℕ)) (l : List ℕ) → Has ms l → Contains ms l
contains_from_has [] l h = absurd h
contains_from_has (m ∷ ms) l (inl same) = (0, omega arith, same)
contains_from_has (m ∷ ms) l (inr h) = let r = contains_from_has ms l h in (suc r.0, omega (arith, r.1), r.2)

has_at : (ms : List (List ℕ)) (l : List ℕ) (k : ℕ) → k < length ms → slice_index_or ms k l ≡ l → Has ms l
has_at [] l k less same = absurd (omega arith)
has_at (m ∷ ms) l zero less same = inl same
has_at (m ∷ ms) l (suc k) less same = inr (has_at ms l k (omega arith) same)

pub has_from_contains : (ms : List (List ℕ)) (l : List ℕ) → Contains ms l → Has ms l
has_from_contains ms l h = has_at ms l h.0 h.1 h.2

-- the list begins with a session, and one of these goes on
record Begins (session : ℕ) (rests : List (List ℕ)) (list : List ℕ) : Type 0 where
  rest : List ℕ
  is : list ≡ session ∷ rest
  of : Has rests rest

-- a list of those with one session in front, or of the others
begins : (x : ℕ) (ms more : List (List ℕ)) (l : List ℕ) → Has (map (λ (xs : List ℕ). x ∷ xs) ms ++ more) l → Begins x ms l ⊎ Has more l
begins x [] more l h = inr h
begins x (m ∷ ms) more l (inl same) = inl (record { rest = m; is = sym same; of = inl refl })
begins x (m ∷ ms) more l (inr h) = elim (begins x ms more l h) [ inl b ↦ inl (record { rest = b.rest; is = b.is; of = inr b.of }) | inr h ↦ inr h ]

has_first : (x : ℕ) (ms more : List (List ℕ)) (l : List ℕ) → Has ms l → Has (map (λ (xs : List ℕ). x ∷ xs) ms ++ more) (x ∷ l)
has_first x [] more l h = absurd h
has_first x (m ∷ ms) more l (inl same) = inl (ap (λ (xs : List ℕ). x ∷ xs) same)
has_first x (m ∷ ms) more l (inr h) = inr (has_first x ms more l h)

has_later : (x : ℕ) (ms more : List (List ℕ)) (l : List ℕ) → Has more l → Has (map (λ (xs : List ℕ). x ∷ xs) ms ++ more) l
has_later x [] more l h = h
has_later x (m ∷ ms) more l h = inr (has_later x ms more l h)

-- a list begins with a session that has a turn left, at a distance from the first one looked at
record Splits (rest : List ℕ → List (List ℕ)) (counts : List ℕ) (from : ℕ) (cs list : List ℕ) : Type 0 where
  far : ℕ
  some : 0 < get_or cs far 0
  tail : List ℕ
  is : list ≡ (from + far) ∷ tail
  of : Has (rest (without counts (from + far))) tail

further : (rest : List ℕ → List (List ℕ)) (counts : List ℕ) (i c : ℕ) (cs l : List ℕ) → Splits rest counts (i + 1) cs l → Splits rest counts i (c ∷ cs) l
further rest counts i c cs l s =
    let e : i + 1 + s.far ≡ i + suc s.far = omega arith in
    record {
      far = suc s.far;
      some = s.some;
      tail = s.tail;
      is = s.is ∙ ap (λ (k : ℕ). k ∷ s.tail) e;
      of = subst (λ (k : ℕ). Has (rest (without counts k)) s.tail) e s.of;
    }

-- each list is a session that has a turn left and a list of the turns then left
splits : (rest : List ℕ → List (List ℕ)) (counts : List ℕ) (i : ℕ) (cs l : List ℕ) → Has (each_first rest counts i cs) l → Splits rest counts i cs l
splits rest counts i [] l h = absurd h
splits rest counts i (zero ∷ cs) l h = further rest counts i zero cs l (splits rest counts (i + 1) cs l h)
splits rest counts i (suc c ∷ cs) l h =
    elim (begins i (rest (without counts i)) (each_first rest counts (i + 1) cs) l (subst (λ lists. Has lists l) (with_turn rest counts i c cs) h)) [
      | inl b ↦ let e : i ≡ i + 0 = omega arith in record {
        far = 0;
        some = omega arith;
        tail = b.rest;
        is = b.is ∙ ap (λ (k : ℕ). k ∷ b.rest) e;
        of = subst (λ (k : ℕ). Has (rest (without counts k)) b.rest) e b.of;
      }
      | inr h ↦ further rest counts i (suc c) cs l (splits rest counts (i + 1) cs l h)
    ]

-- a session that has a turn left and a list of the turns then left is one of the lists
joins : (rest : List ℕ → List (List ℕ)) (counts : List ℕ) (i x k : ℕ) (cs l : List ℕ) → x ≡ i + k → 0 < get_or cs k 0 → Has (rest (without counts x)) l
    → Has (each_first rest counts i cs) (x ∷ l)
joins rest counts i x k [] l e some h = absurd (omega arith)
joins rest counts i x zero (zero ∷ cs) l e some h = absurd (omega arith)
joins rest counts i x (suc k) (zero ∷ cs) l e some h = joins rest counts (i + 1) x k cs l (omega arith) some h
joins rest counts i x zero (suc c ∷ cs) l e some h =
    let same : i ≡ x = omega arith in
    subst (λ lists. Has lists (x ∷ l)) (sym (with_turn rest counts i c cs))
    (subst (λ (j : ℕ). Has (map (λ (xs : List ℕ). j ∷ xs) (rest (without counts j)) ++ each_first rest counts (i + 1) cs) (x ∷ l)) (sym same)
    (has_first x (rest (without counts x)) (each_first rest counts (i + 1) cs) l h))
joins rest counts i x (suc k) (suc c ∷ cs) l e some h =
    subst (λ lists. Has lists (x ∷ l)) (sym (with_turn rest counts i c cs))
    (has_later i (rest (without counts i)) (each_first rest counts (i + 1) cs) (x ∷ l) (joins rest counts (i + 1) x k cs l (omega arith) some h))

-- how often a number occurs in a list
abbrev times : ℕ → List ℕ → ℕ
times s l = count_by (λ x. x == s) l

times_same : (s : ℕ) (l : List ℕ) → times s (s ∷ l) ≡ times s l + 1
times_same s l =
    let e = sum_by-cons (λ (x : ℕ). cond (x == s) 1 0) s l in
    elim (eqb_tells s s) [
      | inl equal ↦ e ∙ ap (λ (b : Bool). cond b 1 0 + times s l) equal.0 ∙ (let f : 1 + times s l ≡ times s l + 1 = omega arith in f)
      | inr differ ↦ absurd (differ.1 refl)
    ]

times_other : (s x : ℕ) (l : List ℕ) → s ≢ x → times s (x ∷ l) ≡ times s l
times_other s x l other =
    let e = sum_by-cons (λ (y : ℕ). cond (y == s) 1 0) x l in
    elim (eqb_tells x s) [
      | inl equal ↦ absurd (other (sym equal.1))
      | inr differ ↦ e ∙ ap (λ (b : Bool). cond b 1 0 + times s l) differ.0 ∙ (let f : 0 + times s l ≡ times s l = omega arith in f)
    ]

-- each number occurs as often as its count says
abbrev Keeps : List ℕ → List ℕ → Type 0
Keeps counts l = (s : ℕ) → times s l ≡ get_or counts s 0

-- a number that has a turn left is one of the counts
within : (counts : List ℕ) (x : ℕ) → 0 < get_or counts x 0 → x < length counts
within [] x some = absurd (omega arith)
within (c ∷ counts) zero some = omega arith
within (c ∷ counts) (suc x) some = let h = within counts x some in omega (arith, h)

same_or_other : (s x : ℕ) → (s ≡ x) ⊎ (s ≢ x)
same_or_other s x = elim (eqb_tells s x) [ inl equal ↦ inl equal.1 | inr differ ↦ inr differ.1 ]

-- one more in front of a list of the turns that are left
keeps_cons : (counts : List ℕ) (x : ℕ) (l : List ℕ) → 0 < get_or counts x 0 → Keeps (without counts x) l → Keeps counts (x ∷ l)
keeps_cons counts x l some h s =
    elim (same_or_other s x) [
      | inl same ↦
          let here : times x l ≡ get_or counts x 0 - 1 = h x ∙ get_or-set_same counts x (get_or counts x 0 - 1) 0 (within counts x some) in
          let all : times x (x ∷ l) ≡ get_or counts x 0 = times_same x l ∙ (omega (arith, here)) in
          subst (λ (k : ℕ). times k (x ∷ l) ≡ get_or counts k 0) (sym same) all
      | inr other ↦ times_other s x l other ∙ h s ∙ get_or-set_other counts x s (get_or counts x 0 - 1) 0 other
    ]

-- the rest of a list keeps the turns that are left
keeps_tail : (counts : List ℕ) (x : ℕ) (l : List ℕ) → 0 < get_or counts x 0 → Keeps counts (x ∷ l) → Keeps (without counts x) l
keeps_tail counts x l some h s =
    elim (same_or_other s x) [
      | inl same ↦
          let one : times x l + 1 ≡ get_or counts x 0 = sym (times_same x l) ∙ h x in
          let here : times x l ≡ get_or (without counts x) x 0 =
          (let e : times x l ≡ get_or counts x 0 - 1 = omega (arith, one) in e) ∙ sym (get_or-set_same counts x (get_or counts x 0 - 1) 0 (within counts x some)) in
          subst (λ (k : ℕ). times k l ≡ get_or (without counts x) k 0) (sym same) here
      | inr other ↦ sym (times_other s x l other) ∙ h s ∙ sym (get_or-set_other counts x s (get_or counts x 0 - 1) 0 other)
    ]

-- the first of a list had a turn left
keeps_some : (counts : List ℕ) (x : ℕ) (l : List ℕ) → Keeps counts (x ∷ l) → 0 < get_or counts x 0
keeps_some counts x l h = let one : times x l + 1 ≡ get_or counts x 0 = sym (times_same x l) ∙ h x in omega (arith, one)

-- counts whose sum is 0 are all 0
all_none : (counts : List ℕ) → sum counts ≡ 0 → (s : ℕ) → get_or counts s 0 ≡ 0
all_none [] none s = refl
all_none (c ∷ counts) none zero = omega (arith, sum_cons c counts, none)
all_none (c ∷ counts) none (suc s) = all_none counts (omega (arith, sum_cons c counts, none)) s

none_all : (counts : List ℕ) → ((s : ℕ) → get_or counts s 0 ≡ 0) → sum counts ≡ 0
none_all [] h = refl
none_all (c ∷ counts) h = let first : c ≡ 0 = h 0 in let more : sum counts ≡ 0 = none_all counts (λ s. h (suc s)) in omega (arith, sum_cons c counts, first, more)

-- each of the lists keeps the counts
keeps : (n : ℕ) (counts l : List ℕ) → sum counts ≡ n → Has (of_length n counts) l → Keeps counts l
keeps zero counts l long (inl same) s = subst (λ (m : List ℕ). times s m ≡ get_or counts s 0) same (sym (all_none counts long s))
keeps zero counts l long (inr h) s = absurd h
keeps (suc n) counts l long h s =
    let p = splits (of_length n) counts 0 counts l h in
    let x : ℕ = 0 + p.far in
    let at : p.far ≡ x = omega arith in
    let some : 0 < get_or counts x 0 = subst (λ (k : ℕ). 0 < get_or counts k 0) at p.some in
    let less : sum (without counts x) ≡ n = (let e = sum_less counts x (within counts x some) some in omega (arith, e, long)) in
    let all : Keeps counts (x ∷ p.tail) = keeps_cons counts x p.tail some (keeps n (without counts x) p.tail less p.of) in
    subst (λ (m : List ℕ). times s m ≡ get_or counts s 0) (sym p.is) (all s)

-- each list that keeps the counts is one of the lists
has : (n : ℕ) (counts l : List ℕ) → sum counts ≡ n → Keeps counts l → Has (of_length n counts) l
has zero counts [] long h = inl refl
has zero counts (x ∷ l) long h = let none = all_none counts long x in let some = keeps_some counts x l h in absurd (omega (arith, none, some))
has (suc n) counts [] long h = let none = none_all counts (λ s. sym (h s)) in absurd (omega (arith, none, long))
has (suc n) counts (x ∷ l) long h =
    let some = keeps_some counts x l h in
    let less : sum (without counts x) ≡ n = (let e = sum_less counts x (within counts x some) some in omega (arith, e, long)) in
    joins (of_length n) counts 0 x x counts l (omega arith) some (has n (without counts x) l less (keeps_tail counts x l some h))

pub interleavings_keep_counts : (counts list : List ℕ) → Contains (interleavings counts) list ↔ IsInterleaving counts list
interleavings_keep_counts counts list = (
  λ h. keeps (sum counts) (0 ∷ counts) list refl (has_from_contains (interleavings counts) list h),
  λ h. contains_from_has (interleavings counts) list (has (sum counts) (0 ∷ counts) list refl h),
)

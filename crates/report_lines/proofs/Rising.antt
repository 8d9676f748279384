-- Rising lists of numbers, such as the waiting list.
use Rattle.std.proofs.Common.{◌≡◌, subst, ℕ, zero, suc, ◌+◌, ◌<◌, ◌≤◌, List, [], ◌∷◌, ◌++◌, length, drop, refl, ap, sym, ◌∙◌, arith, true, false, Bool, not, cond, ◌==◌, Some, slice_get, add-one}
use Rattle.std.specs.List.{filter, fold, range_with_len}
use Rattle.report_lines.specs.Inner.Trying.{instances}

-- the numbers rise from low on, and stay below high
abbrev pub Between : ℕ → ℕ → List ℕ → Type 0
Between low high [] = low ≤ high
Between low high (x ∷ xs) = (low ≤ x) × Between (x + 1) high xs

between_top : (low high : ℕ) (xs : List ℕ) → Between low high xs → low ≤ high
between_top low high [] h = h
between_top low high (x ∷ xs) h = let top = between_top (x + 1) high xs h.1 in let at : low ≤ x = h.0 in omega arith

between_low : (a b high : ℕ) (xs : List ℕ) → a ≤ b → Between b high xs → Between a high xs
between_low a b high [] le h = omega arith
between_low a b high (x ∷ xs) le h = (let at : b ≤ x = h.0 in omega arith, h.1)

between_more : (low high : ℕ) (xs : List ℕ) → Between low high xs → Between low (suc high) (xs ++ high ∷ [])
between_more low high [] h = (h, omega arith)
between_more low high (x ∷ xs) h = (h.0, between_more (x + 1) high xs h.1)

range_more : (a n : ℕ) → range_with_len a (suc n) ≡ range_with_len a n ++ (a + n) ∷ []
range_more a zero = let e : a ≡ a + 0 = omega arith in ap (λ k. k ∷ []) e
range_more a (suc n) =
    let e : a + 1 + n ≡ a + suc n = omega arith in
    ap (λ xs. a ∷ xs) (range_more (a + 1) n ∙ ap (λ k. range_with_len (a + 1) n ++ k ∷ []) e)

pub instances_more : (n : ℕ) → instances (suc n) ≡ instances n ++ n ∷ []
instances_more n = let e : 0 + n ≡ n = omega arith in range_more 0 n ∙ ap (λ k. instances n ++ k ∷ []) e

pub between_instances : (n : ℕ) → Between 0 n (instances n)
between_instances zero = omega arith
between_instances (suc n) = subst (Between 0 (suc n)) (sym (instances_more n)) (between_more 0 n (instances n) (between_instances n))

pub between_filter : (p : ℕ → Bool) (low high : ℕ) (xs : List ℕ) → Between low high xs → Between low high (filter p xs)
between_filter p low high [] h = h
between_filter p low high (x ∷ xs) h =
    let rest : Between (x + 1) high (filter p xs) = between_filter p (x + 1) high xs h.1 in
    let at : low ≤ x = h.0 in
    elim (p x) as (λ b. Between low high (cond b (x ∷ filter p xs) (filter p xs))) [ true ↦ (at, rest) | false ↦ between_low low (x + 1) high (filter p xs) (omega arith) rest ]

pub between_at : (low high : ℕ) (xs : List ℕ) (k e : ℕ) → Between low high xs → slice_get xs k ≡ Some e → (low ≤ e) × (e < high)
between_at low high [] k e h is = cc
between_at low high (x ∷ xs) zero e h is =
    let same : x ≡ e = cc in
    let at : low ≤ x = h.0 in
    let top : x + 1 ≤ high = between_top (x + 1) high xs h.1 in
    (omega arith, omega arith)
between_at low high (x ∷ xs) (suc k) e h is =
    let rest = between_at (x + 1) high xs k e h.1 is in
    let at : low ≤ x = h.0 in
    let above : x + 1 ≤ e = rest.0 in
    (omega arith, rest.1)

between_keep : (low high j : ℕ) (xs : List ℕ) → Between low high xs → j < low → filter (λ i. not (i == j)) xs ≡ xs
between_keep low high j [] h less = refl
between_keep low high j (x ∷ xs) h less =
    let at : low ≤ x = h.0 in
    let differs : (x == j) ≡ false = grind arith in
    rw differs (ap (λ (w : List ℕ). x ∷ w) (between_keep (x + 1) high j xs h.1 (omega arith)))

pub between_length : (low high : ℕ) (xs : List ℕ) → Between low high xs → length xs + low ≤ high
between_length low high [] h = omega arith
between_length low high (x ∷ xs) h = let rest = between_length (x + 1) high xs h.1 in let at : low ≤ x = h.0 in omega arith

-- where a number leaves the list, those behind it follow at its place
pub between_leave : (low high : ℕ) (xs : List ℕ) (k j : ℕ) → Between low high xs → slice_get xs k ≡ Some j → drop k (filter (λ i. not (i == j)) xs) ≡ drop (k + 1) xs
between_leave low high [] k j h is = cc
between_leave low high (x ∷ xs) zero j h is =
    let same : x ≡ j = cc in
    let equal : (x == j) ≡ true = grind arith in
    rw equal (between_keep (x + 1) high j xs h.1 (omega arith))
between_leave low high (x ∷ xs) (suc k) j h is =
    let above : x + 1 ≤ j = (between_at (x + 1) high xs k j h.1 is).0 in
    let differs : (x == j) ≡ false = grind arith in
    rw (differs, add-one) (between_leave (x + 1) high xs k j h.1 is ∙ rw add-one refl)

filter_case : (p : ℕ → Bool) (x : ℕ) (ys : List ℕ) (e : ℕ) → ((k : ℕ) → slice_get ys k ≡ Some e → p e ≡ true) → (b : Bool) → p x ≡ b → (k : ℕ) → slice_get (cond b (x ∷ ys) ys) k ≡ Some e → p e ≡ true
filter_case p x ys e rest true is zero h = let same : x ≡ e = cc in ap p (sym same) ∙ is
filter_case p x ys e rest true is (suc k) h = rest k h
filter_case p x ys e rest false is k h = rest k h

-- an element of a filtered list passes the test
pub filter_at : (p : ℕ → Bool) (xs : List ℕ) (e k : ℕ) → slice_get (filter p xs) k ≡ Some e → p e ≡ true
filter_at p [] e k h = cc
filter_at p (x ∷ xs) e k h = filter_case p x (filter p xs) e (filter_at p xs e) (p x) refl k h

pub fold_at : {A : Type 0} (g : A → ℕ → A) (a : A) (xs : List ℕ) (k e : ℕ) → slice_get xs k ≡ Some e → fold g a (drop k xs) ≡ fold g (g a e) (drop (k + 1) xs)
fold_at g a [] k e h = cc
fold_at g a (x ∷ xs) zero e h = let same : x ≡ e = cc in rw same refl
fold_at g a (x ∷ xs) (suc k) e h = rw add-one (fold_at g a xs k e h ∙ rw add-one refl)

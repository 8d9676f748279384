-- Elements of a list by their place.
use Rattle.std.proofs.Common.{◌≡◌, ℕ, zero, suc, ◌+◌, ◌<◌, Bool, true, false, cond, ◌⊎◌, inl, inr, List, [], ◌∷◌, ◌++◌, length, get_or, drop, set, Some, slice_get, All, AllPairs, Contains, refl, ap, arith}
use Rattle.std.proofs.lemmas.List.Kept.{AllPairs-cons}

pub get-append_left : {X : Type 0} (xs ys : List X) (k : ℕ) → k < length xs → slice_get (xs ++ ys) k ≡ slice_get xs k
get-append_left [] ys k l = absurd (omega arith)
get-append_left (x ∷ xs) ys zero l = refl
get-append_left (x ∷ xs) ys (suc k) l = get-append_left xs ys k (omega arith)

pub get-append_last : {X : Type 0} (xs : List X) (y : X) → slice_get (xs ++ y ∷ []) (length xs) ≡ Some y
get-append_last [] y = refl
get-append_last (x ∷ xs) y = get-append_last xs y

pub get-drop : {X : Type 0} (n : ℕ) (xs : List X) (k m : ℕ) → m ≡ n + k → slice_get (drop n xs) k ≡ slice_get xs m
get-drop zero xs k m e = let same : k ≡ m = omega arith in ap (slice_get xs) same
get-drop (suc n) [] k m e = refl
get-drop (suc n) (x ∷ xs) k zero e = absurd (omega arith)
get-drop (suc n) (x ∷ xs) k (suc m) e = get-drop n xs k m (omega arith)

pub get-set_same : {X : Type 0} (xs : List X) (k : ℕ) (x y : X) → slice_get xs k ≡ Some x → slice_get (set xs k y) k ≡ Some y
get-set_same [] k x y e = cc
get-set_same (z ∷ xs) zero x y e = refl
get-set_same (z ∷ xs) (suc k) x y e = get-set_same xs k x y e

-- a member of a list that may begin with one more element
cons_cases : {X : Type 0} (x : X) (rest : List X) (y : X) (k : ℕ) → k < length (x ∷ rest) → get_or (x ∷ rest) k y ≡ y → (x ≡ y) ⊎ Contains rest y
cons_cases x rest y zero l e = inl e
cons_cases x rest y (suc k) l e = inr (k, omega arith, e)

pub member_cases : {X : Type 0} (b : Bool) (x : X) (rest : List X) (y : X) → Contains (cond b (x ∷ rest) rest) y → ((b ≡ true) × (x ≡ y)) ⊎ Contains rest y
member_cases true x rest y h = elim (cons_cases x rest y h.0 h.1 h.2) [ inl e ↦ inl (refl, e) | inr later ↦ inr later ]
member_cases false x rest y h = inr h

pub member_first : {X : Type 0} (b : Bool) (x : X) (rest : List X) (y : X) → b ≡ true → x ≡ y → Contains (cond b (x ∷ rest) rest) y
member_first true x rest y t e = (0, omega arith, e)
member_first false x rest y t e = cc

pub member_later : {X : Type 0} (b : Bool) (x : X) (rest : List X) (y : X) → Contains rest y → Contains (cond b (x ∷ rest) rest) y
member_later true x rest y h = (suc h.0, omega (arith, h.1), h.2)
member_later false x rest y h = h

pub AllPairs-cond : {X : Type 0} (R : X → X → Type 0) (b : Bool) (x : X) (rest : List X) → All (R x) rest → AllPairs R rest → AllPairs R (cond b (x ∷ rest) rest)
AllPairs-cond R true x rest all pairs = AllPairs-cons R x rest all pairs
AllPairs-cond R false x rest all pairs = pairs

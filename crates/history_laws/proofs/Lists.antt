-- Lists of which each element is so, and what a list has at a place.
use Rattle.std.proofs.Common.{◌≡◌, refl, sym, Bool, true, false, ◌||◌, ℕ, zero, suc, ◌<◌, List, [], ◌∷◌, ◌++◌, length, map, take, drop, arith}
use Rattle.std.specs.Prelude.{Some, slice_get, flat_map}
use Rattle.std.specs.List.{AllByRecursion, list_any}

pub each_append : {A : Type 0} (P : A → Type 0) (xs ys : List A) → AllByRecursion P xs → AllByRecursion P ys → AllByRecursion P (xs ++ ys)
each_append P [] ys h k = k
each_append P (x ∷ xs) ys h k = (h.0, each_append P xs ys h.1 k)

pub each_left : {A : Type 0} (P : A → Type 0) (xs ys : List A) → AllByRecursion P (xs ++ ys) → AllByRecursion P xs
each_left P [] ys h = tt
each_left P (x ∷ xs) ys h = (h.0, each_left P xs ys h.1)

pub each_right : {A : Type 0} (P : A → Type 0) (xs ys : List A) → AllByRecursion P (xs ++ ys) → AllByRecursion P ys
each_right P [] ys h = h
each_right P (x ∷ xs) ys h = each_right P xs ys h.1

pub each_map : {A B : Type 0} (P : B → Type 0) (f : A → B) (xs : List A) → AllByRecursion (λ x. P (f x)) xs → AllByRecursion P (map f xs)
each_map P f [] h = tt
each_map P f (x ∷ xs) h = (h.0, each_map P f xs h.1)

pub each_unmap : {A B : Type 0} (P : B → Type 0) (f : A → B) (xs : List A) → AllByRecursion P (map f xs) → AllByRecursion (λ x. P (f x)) xs
each_unmap P f [] h = tt
each_unmap P f (x ∷ xs) h = (h.0, each_unmap P f xs h.1)

pub each_of : {A : Type 0} (P Q : A → Type 0) → ((x : A) → P x → Q x) → (xs : List A) → AllByRecursion P xs → AllByRecursion Q xs
each_of P Q f [] h = tt
each_of P Q f (x ∷ xs) h = (f x h.0, each_of P Q f xs h.1)

pub each_flat : {A B : Type 0} (P : B → Type 0) (f : A → List B) (xs : List A) → AllByRecursion P (flat_map f xs) → AllByRecursion (λ x. AllByRecursion P (f x)) xs
each_flat P f [] h = tt
each_flat P f (x ∷ xs) h = (each_left P (f x) (flat_map f xs) h, each_flat P f xs (each_right P (f x) (flat_map f xs) h))

same_element : {A : Type 0} (P : A → Type 0) (x y : A) → Some x ≡ Some y → P x → P y
same_element P x y h p = go (same h) p where
  same : Some x ≡ Some y → x ≡ y
  same e = cc

  go : x ≡ y → P x → P y
  go e q = rw (sym e) q

pub each_at : {A : Type 0} (P : A → Type 0) (xs : List A) (k : ℕ) (x : A) → AllByRecursion P xs → slice_get xs k ≡ Some x → P x
each_at P [] k x h e = cc
each_at P (y ∷ ys) zero x h e = same_element P y x e h.0
each_at P (y ∷ ys) (suc k) x h e = each_at P ys k x h.1 e

pub there : {A : Type 0} (xs : List A) (k : ℕ) → k < length xs → (x : A) × (slice_get xs k ≡ Some x)
there [] k h = absurd (omega arith)
there (x ∷ xs) zero h = (x, refl)
there (x ∷ xs) (suc k) h = there xs k (omega arith)

-- ---- whether some element passes

or_true : (b c : Bool) → (b ≡ true → (b || c) ≡ true)
or_true true c h = refl
or_true false c h = cc

or_else : (b c : Bool) → c ≡ true → (b || c) ≡ true
or_else true c h = refl
or_else false c h = h

or_of : (b c d : Bool) → (c ≡ true → d ≡ true) → (b || c) ≡ true → (b || d) ≡ true
or_of true c d f h = refl
or_of false c d f h = f h

-- some of the first ones
pub any_taken : {A : Type 0} (p : A → Bool) (n : ℕ) (xs : List A) → list_any p (take n xs) ≡ true → list_any p xs ≡ true
any_taken p zero [] h = h
any_taken p zero (x ∷ xs) h = cc
any_taken p (suc n) [] h = h
any_taken p (suc n) (x ∷ xs) h = or_of (p x) (list_any p (take n xs)) (list_any p xs) (any_taken p n xs) h

pub any_behind : {A : Type 0} (p : A → Bool) (x : A) (xs : List A) → list_any p xs ≡ true → list_any p (x ∷ xs) ≡ true
any_behind p x xs h = or_else (p x) (list_any p xs) h

pub any_right : {A : Type 0} (p : A → Bool) (xs ys : List A) → list_any p ys ≡ true → list_any p (xs ++ ys) ≡ true
any_right p [] ys h = h
any_right p (x ∷ xs) ys h = or_else (p x) (list_any p (xs ++ ys)) (any_right p xs ys h)

pub any_left : {A : Type 0} (p : A → Bool) (xs ys : List A) → list_any p xs ≡ true → list_any p (xs ++ ys) ≡ true
any_left p [] ys h = cc
any_left p (x ∷ xs) ys h = or_of (p x) (list_any p xs) (list_any p (xs ++ ys)) (any_left p xs ys) h

pub drop_behind : {A : Type 0} (xs ys : List A) → drop (length xs) (xs ++ ys) ≡ ys
drop_behind [] ys = refl
drop_behind (x ∷ xs) ys = drop_behind xs ys

-- Sums and counts over sessions of which one changes.
use Rattle.std.proofs.Common.{◌≡◌, refl, sym, ◌∙◌, ap, subst, Bool, true, false, cond, ℕ, zero, suc, ◌<◌, ◌≤◌, ◌+◌, List, [], ◌∷◌, length, set, fold, sum_by, count_by, arith}
use Rattle.std.specs.Prelude.{Some, None, slice_get}

fold_from : {A : Type 0} (f : A → ℕ) (n : ℕ) (xs : List A) → fold (λ a x. a + f x) n xs ≡ n + sum_by f xs
fold_from f n [] = omega arith
fold_from f n (x ∷ xs) =
    let a = fold_from f (n + f x) xs in
    let b = fold_from f (0 + f x) xs in
    let c : sum_by f (x ∷ xs) ≡ (0 + f x) + sum_by f xs = b in
    omega arith

sum_cons : {A : Type 0} (f : A → ℕ) (x : A) (xs : List A) → sum_by f (x ∷ xs) ≡ f x + sum_by f xs
sum_cons f x xs = let b : sum_by f (x ∷ xs) ≡ (0 + f x) + sum_by f xs = fold_from f (0 + f x) xs in omega arith

none_some : {A : Type 0} (x : A) → None ≡ Some x → ⊥
none_some x h = cc

same_some : {A : Type 0} (x y : A) → Some x ≡ Some y → x ≡ y
same_some x y h = cc

-- one changes by so much
pub sum_set : {A : Type 0} (f : A → ℕ) (xs : List A) (i : ℕ) (s u : A) → slice_get xs i ≡ Some s → sum_by f (set xs i u) + f s ≡ sum_by f xs + f u
sum_set f [] i s u h = absurd (none_some s h)
sum_set f (x ∷ xs) zero s u h =
    let a = sum_cons f u xs in
    let b = sum_cons f x xs in
    let c : f x ≡ f s = ap f (same_some x s h) in
    omega arith
sum_set f (x ∷ xs) (suc i) s u h =
    let a = sum_cons f x (set xs i u) in
    let b = sum_cons f x xs in
    let c = sum_set f xs i s u h in
    omega arith

pub sum_less : {A : Type 0} (f g : A → ℕ) (xs : List A) → ((x : A) → f x ≤ g x) → sum_by f xs ≤ sum_by g xs
sum_less f g [] h = omega arith
sum_less f g (x ∷ xs) h =
    let a = sum_cons f x xs in
    let b = sum_cons g x xs in
    let c = sum_less f g xs h in
    let d = h x in
    omega arith

one_less : (b c : Bool) → (b ≡ true → c ≡ true) → cond b 1 0 ≤ cond c 1 0
one_less true c h = subst (λ (y : Bool). 1 ≤ cond y 1 0) (sym (h refl)) (omega arith)
one_less false c h = omega arith

-- fewer pass, where one that passed doesn't any more
pub count_set : {A : Type 0} (q p : A → Bool) (xs : List A) (i : ℕ) (s u : A) → slice_get xs i ≡ Some s → ((x : A) → q x ≡ true → p x ≡ true) → p s ≡ true → q u ≡ false
    → count_by q (set xs i u) < count_by p xs
count_set q p [] i s u at less before after = absurd (none_some s at)
count_set {A} q p (x ∷ xs) zero s u at less before after =
    let one : A → ℕ = λ y. cond (p y) 1 0 in
    let now : A → ℕ = λ y. cond (q y) 1 0 in
    let a = sum_cons now u xs in
    let b = sum_cons one x xs in
    let c = sum_less now one xs (λ y. one_less (q y) (p y) (less y)) in
    let d : now u ≡ 0 = ap (λ (y : Bool). cond y 1 0) after in
    let e : one x ≡ 1 = ap one (same_some x s at) ∙ ap (λ (y : Bool). cond y 1 0) before in
    omega arith
count_set {A} q p (x ∷ xs) (suc i) s u at less before after =
    let one : A → ℕ = λ y. cond (p y) 1 0 in
    let now : A → ℕ = λ y. cond (q y) 1 0 in
    let a = sum_cons now x (set xs i u) in
    let b = sum_cons one x xs in
    let c = count_set q p xs i s u at less before after in
    let d = one_less (q x) (p x) (less x) in
    omega arith

-- no more pass than there are
pub count_most : {A : Type 0} (p : A → Bool) (xs : List A) → count_by p xs ≤ length xs
count_most p [] = omega arith
count_most {A} p (x ∷ xs) =
    let one : A → ℕ = λ y. cond (p y) 1 0 in
    let b = sum_cons one x xs in
    let c = count_most p xs in
    let d = one_less (p x) true (λ e. refl) in
    omega arith

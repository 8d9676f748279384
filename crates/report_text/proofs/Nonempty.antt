-- Texts of which something is there.
use Rattle.std.proofs.Common.{◌≡◌, ◌≢◌, ℕ, zero, suc, ◌<◌, ◌≤◌, List, [], ◌∷◌, ◌++◌, length, length-append, get_or, refl, ap, ◌∙◌, arith}
use Rattle.std.specs.Prelude.{map, flat_map, OnErr, Result, Ok, Err}

-- what holds anyway holds where memory is refused
pub on_err : {T E P : Type 0} (r : Result T E) → P → OnErr r P
on_err (Ok x) p = tt
on_err (Err e) p = p

pub none_first : (xs ys : List ℕ) → xs ++ ys ≡ [] → xs ≡ []
none_first [] ys h = refl
none_first (x ∷ xs) ys h = cc

none_behind : (xs ys : List ℕ) → xs ++ ys ≡ [] → ys ≡ []
none_behind [] ys h = h
none_behind (x ∷ xs) ys h = cc

-- one of the pieces has something
pub some_of : {A B : Type 0} (g : A → B) (f : B → List ℕ) (xs : List A) (k : ℕ) (x d : A) → k < length xs → x ≡ get_or xs k d → f (g x) ≢ [] → flat_map f (map g xs) ≢ []
some_of g f [] k x d less at some = absurd (omega arith)
some_of g f (y ∷ ys) zero x d less at some = λ none. some (ap (λ z. f (g z)) at ∙ none_first (f (g y)) (flat_map f (map g ys)) none)
some_of g f (y ∷ ys) (suc k) x d less at some = λ none. some_of g f ys k x d (omega arith) at some (none_behind (f (g y)) (flat_map f (map g ys)) none)

-- the same of a list as it is
pub some_in : {A : Type 0} (f : A → List ℕ) (xs : List A) (k : ℕ) (x d : A) → k < length xs → x ≡ get_or xs k d → f x ≢ [] → flat_map f xs ≢ []
some_in f [] k x d less at some = absurd (omega arith)
some_in f (y ∷ ys) zero x d less at some = λ none. some (ap f at ∙ none_first (f y) (flat_map f ys) none)
some_in f (y ∷ ys) (suc k) x d less at some = λ none. some_in f ys k x d (omega arith) at some (none_behind (f y) (flat_map f ys) none)

-- what is still to be pushed has something, so all has
pub rest_some : (a b rest all : List ℕ) → a ++ rest ≡ b ++ all → length b ≤ length a → rest ≢ [] → all ≢ []
rest_some a b [] all same long some = λ none. some refl
rest_some a b (x ∷ rest) [] same long some = λ none.
    let counted = ap length same in
    let left = length-append a (x ∷ rest) in
    let right = length-append b [] in
    omega (arith, counted, left, right, long)
rest_some a b (x ∷ rest) (y ∷ all) same long some = λ none. cc

-- The first place that passes a test, in a list of images.
use Rattle.std.proofs.Common.{◌≡◌, ◌+◌, Bool, List, [], ◌∷◌, map, cond, refl, ap, not}
use Rattle.std.proofs.lemmas.List.{length-map}
use Rattle.std.specs.List.{position, prefix_len}

prefix_len_map : {A B : Type 0} (f : A → B) (p : B → Bool) (xs : List A) → prefix_len p (map f xs) ≡ prefix_len (λ x. p (f x)) xs
prefix_len_map f p [] = refl
prefix_len_map f p (x ∷ xs) = ap (λ n. cond (p (f x)) (1 + n) 0) (prefix_len_map f p xs)

pub position_map : {A B : Type 0} (f : A → B) (p : B → Bool) (xs : List A) → position p (map f xs) ≡ position (λ x. p (f x)) xs
position_map f p xs =
    rw (length-map xs f, prefix_len_map f (λ x. not (p x)) xs) refl

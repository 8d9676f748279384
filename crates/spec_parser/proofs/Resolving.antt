-- The loops over what is looked up.
use Rattle.std.proofs.Common.{◌≡◌, ℕ, suc, ◌+◌, ◌<◌, List, [], ◌∷◌, ◌++◌, length, drop, get_or, Result, Ok, Err, refl, sym, ap, ◌∙◌, arith, append_assoc, drop-cons}
use Rattle.spec_parser.specs.declared.fault.SpecFault.{SpecFault}
use Rattle.iso_lexer.specs.Results.{if_ok}

abbrev pub prepend : {B : Type 0} → List B → Result (List B) SpecFault → Result (List B) SpecFault
prepend front (Ok ys) = Ok (front ++ ys)
prepend front (Err e) = Err e

pub prepend_nothing : {B : Type 0} (r : Result (List B) SpecFault) → prepend [] r ≡ r
prepend_nothing (Ok ys) = refl
prepend_nothing (Err e) = refl

pub prepend_one : {B : Type 0} (front : List B) (y : B) (r : Result (List B) SpecFault) → prepend front (if_ok r (λ ys. Ok (y ∷ ys))) ≡ prepend (front ++ y ∷ []) r
prepend_one front y (Ok ys) = ap Ok (sym (append_assoc front (y ∷ []) ys))
prepend_one front y (Err e) = refl

-- the list from place i on
pub at_next : {A : Type 0} (xs : List A) (i : ℕ) (d : A) → i < length xs → drop i xs ≡ get_or xs i d ∷ drop (i + 1) xs
at_next xs i d lt = let same : suc i ≡ i + 1 = omega arith in drop-cons xs i d lt ∙ ap (λ k. get_or xs i d ∷ drop k xs) same

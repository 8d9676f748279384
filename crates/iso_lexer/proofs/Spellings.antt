-- What stands beside bytes, whichever of two texts is compared with the other.
use Rattle.std.proofs.Common.{◌≡◌, ℕ, Bool, List, [], ◌∷◌, sym, refl, ap, inl, inr, eq-eqb}
use Rattle.std.specs.Prelude.{◌==◌, ◌&&◌, bytes_eq}
use Rattle.std.proofs.lemmas.Bool.{ne_eqb, cases_eq}
use Rattle.iso_lexer.specs.Bytes.{row_of}
use Rattle.iso_lexer.specs.Inner.Runs.{spelled}

either_way : (a b : ℕ) → (a == b) ≡ (b == a)
either_way a b =
    elim (cases_eq a b) [
      | inl is ↦ rw (eq-eqb a b is, eq-eqb b a (sym is)) refl
      | inr ne ↦ rw (ne_eqb a b ne, ne_eqb b a (λ e. ne (sym e))) refl
    ]

bytes_either_way : (xs ys : List ℕ) → bytes_eq xs ys ≡ bytes_eq ys xs
bytes_either_way [] [] = refl
bytes_either_way [] (y ∷ ys) = refl
bytes_either_way (x ∷ xs) [] = refl
bytes_either_way (x ∷ xs) (y ∷ ys) = (λ i. either_way x y i && bytes_either_way xs ys i)

pub spelled_is : {A : Type 0} (rows : List (List ℕ × A)) (text : List ℕ) → row_of bytes_eq rows text ≡ spelled rows text
spelled_is rows text = ap (λ (same : List ℕ → List ℕ → Bool). row_of same rows text) (λ i key bytes. bytes_either_way key bytes i)

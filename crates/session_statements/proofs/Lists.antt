-- Lists that are gone through one element after the other.
use Rattle.std.proofs.Common.{◌≡◌, ℕ, ◌<◌, ◌+◌, List, ◌∷◌, length, drop, suc, get_or, ap, sym, ◌∙◌, arith}
use Rattle.std.proofs.Math.Seq.{drop-cons}

-- from an element on a list is that element, and the list from the next one on
pub drop_at : {X : Type 0} (xs : List X) (i : ℕ) (x : X) → i < length xs → x ≡ get_or xs i x → drop i xs ≡ x ∷ drop (i + 1) xs
drop_at xs i x h at =
    let next : suc i ≡ i + 1 = omega arith in
    drop-cons xs i x h ∙ ap (λ y. y ∷ drop (suc i) xs) (sym at) ∙ ap (λ n. x ∷ drop n xs) next

-- Two lists with the same members that rise by an order which tells all members apart are one.
use Rattle.std.proofs.Common.{◌≡◌, ℕ, suc, Bool, true, false, List, [], ◌∷◌, length, refl, sym, ap, ◌∙◌, arith, add-one}
use Rattle.std.specs.List.{sum_by, AllAdjacentBelow}
use Rattle.std.specs.Cmp.{IsTotalOrder}
use Rattle.std.specs.Ordering.{is_gt, ordering_reverse}
use Rattle.std.specs.declared.cmp.Ordering.{Ordering}
use Rattle.std.specs.declared.cmp.Ordering.TheVariants.{Less, Equal, Greater}
use Rattle.std.proofs.lemmas.Bool.{false≢true}
use Rattle.std.proofs.lemmas.Cmp.{upto, tied_itself}
use Rattle.std.proofs.lemmas.List.Sums.{sum_by-cons}

module _ {X : Type 0} (R : X → X → Ordering) (o : IsTotalOrder R) where
  -- no member stands before x
  abbrev pub IsLeast : X → List X → Type 0
  IsLeast x [] = Unit {0}
  IsLeast x (y ∷ ys) = (is_gt (R x y) ≡ false) × IsLeast x ys

  abbrev pub Rises : List X → Type 0
  Rises [] = Unit {0}
  Rises (x ∷ xs) = IsLeast x xs × Rises xs

  least_below : (x y : X) (ys : List X) → is_gt (R x y) ≡ false → IsLeast y ys → IsLeast x ys
  least_below x y [] h k = tt
  least_below x y (z ∷ zs) h k = (upto o x y z h k.0, least_below x y zs h k.1)

  pub rises : (xs : List X) → AllAdjacentBelow (λ x y. is_gt (R x y) ≡ false) xs (length xs) → Rises xs
  rises [] h = tt
  rises (x ∷ []) h = (tt, tt)
  rises (x ∷ y ∷ ys) h =
      let rest : Rises (y ∷ ys) = rises (y ∷ ys) (λ k d less. rw (add-one k) (rw (add-one (suc k)) at (h (suc k) d (omega arith)))) in
      let first : is_gt (R x y) ≡ false = h 0 x (omega arith) in
      ((first, least_below x y ys first rest.0), rest)

  abbrev one_if : Bool → ℕ
  one_if true = 1
  one_if false = 0

  -- 1 where y stands before x
  abbrev before : X → X → ℕ
  before x y = one_if (is_gt (R x y))

  none_before : (x : X) (xs : List X) → IsLeast x xs → sum_by (before x) xs ≡ 0
  none_before x [] h = refl
  none_before x (y ∷ ys) h =
      let this : before x y ≡ 0 = rw h.0 refl in
      let rest = none_before x ys h.1 in
      let all = sum_by-cons (before x) y ys in
      omega arith

  zero_is_not : (b : Bool) → one_if b ≡ 0 → b ≡ false
  zero_is_not true h = absurd (omega (arith, h))
  zero_is_not false h = refl

  abbrev pub Same : List X → List X → Type 0
  Same xs ys = (f : X → ℕ) → sum_by f xs ≡ sum_by f ys

  first_is_least : (x y : X) (xs ys : List X) → IsLeast x xs → Same (x ∷ xs) (y ∷ ys) → is_gt (R x y) ≡ false
  first_is_least x y xs ys h same =
      let itself : before x x ≡ 0 = rw (tied_itself o x) refl in
      let none = none_before x xs h in
      let one = sum_by-cons (before x) x xs in
      let other = sum_by-cons (before x) y ys in
      let both = same (before x) in
      zero_is_not (is_gt (R x y)) (omega arith)

  neither : (r s : Ordering) → r ≡ ordering_reverse s → is_gt r ≡ false → is_gt s ≡ false → r ≡ Equal
  neither r Less e h k = absurd (false≢true (sym h ∙ ap is_gt e))
  neither r Equal e h k = e
  neither r Greater e h k = absurd (false≢true (sym k))

  pub one_list : ((x y : X) → R x y ≡ Equal → x ≡ y) → (xs ys : List X) → Rises xs → Rises ys → Same xs ys → xs ≡ ys
  one_list tells [] [] h k same = refl
  one_list tells [] (y ∷ ys) h k same =
      let more = sum_by-cons (λ _. 1) y ys in
      let both = same (λ _. 1) in
      absurd (omega arith)
  one_list tells (x ∷ xs) [] h k same =
      let more = sum_by-cons (λ _. 1) x xs in
      let both = same (λ _. 1) in
      absurd (omega arith)
  one_list tells (x ∷ xs) (y ∷ ys) h k same =
      let up = first_is_least x y xs ys h.0 same in
      let down = first_is_least y x ys xs k.0 (λ f. sym (same f)) in
      let first : x ≡ y = tells x y (neither (R x y) (R y x) (o.antisymm x y) up down) in
      let rest : xs ≡ ys = one_list tells xs ys h.1 k.1 (λ f.
      let one = sum_by-cons f x xs in
      let other = sum_by-cons f y ys in
      let both = same f in
      let this : f x ≡ f y = ap f first in
      omega arith) in
      cc

-- Two strictly rising lists of the same members are one.
use Rattle.std.proofs.Common.{◌≡◌, ℕ, suc, ◌<◌, List, [], ◌∷◌, sum, length, refl, sym, subst, ◌∙◌, arith, inl, inr}
use Rattle.std.specs.Prelude.{◌↔◌, AllPairs, Contains, slice_index_or}
use Rattle.permutation_lists.specs.Interleavings.{interleavings, IsInterleaving}
use Rattle.permutation_lists.specs.Order.{IsBelow}
use Rattle.permutation_lists.proofs.Members.{Has, contains_from_has, has_from_contains, interleavings_keep_counts}
use Rattle.permutation_lists.proofs.Rising.{IsBelowAll, IsRising, rising, not_below_itself}

-- no two lists come before each other
below_both : (xs ys : List ℕ) → IsBelow xs ys → IsBelow ys xs → ⊥
below_both xs [] h k = h
below_both [] (y ∷ ys) h k = k
below_both (x ∷ xs) (y ∷ ys) (inl h) (inl k) = omega arith
below_both (x ∷ xs) (y ∷ ys) (inl h) (inr k) = let e = k.0 in omega arith
below_both (x ∷ xs) (y ∷ ys) (inr h) (inl k) = let e = h.0 in omega arith
below_both (x ∷ xs) (y ∷ ys) (inr h) (inr k) = below_both xs ys h.1 k.1

all_from : (l : List ℕ) (ls : List (List ℕ)) → ((j : ℕ) (d : List ℕ) → j < length ls → IsBelow l (slice_index_or ls j d)) → IsBelowAll l ls
all_from l [] h = tt
all_from l (m ∷ ls) h = (h 0 [] (omega arith), all_from l ls (λ j d less. h (suc j) d (omega arith)))

-- each comes before each later one, by recursion
rising_from : (ls : List (List ℕ)) → AllPairs IsBelow ls → IsRising ls
rising_from [] h = tt
rising_from (l ∷ ls) h = (
  all_from l ls (λ j d less. h 0 (suc j) d (omega arith) (omega arith)),
  rising_from ls (λ i j d before less. h (suc i) (suc j) d (omega arith) (omega arith)),
)

below_has : (l : List ℕ) (ls : List (List ℕ)) (m : List ℕ) → IsBelowAll l ls → Has ls m → IsBelow l m
below_has l [] m h k = absurd k
below_has l (o ∷ ls) m h (inl same) = subst (IsBelow l) same h.0
below_has l (o ∷ ls) m h (inr k) = below_has l ls m h.1 k

-- the members of one are members of the other
abbrev IsIn : List (List ℕ) → List (List ℕ) → Type 0
IsIn xs ys = (l : List ℕ) → Has xs l → Has ys l

-- their first lists are one
same_first : (x y : List ℕ) (xs ys : List (List ℕ)) → IsBelowAll x xs → IsBelowAll y ys → Has (x ∷ xs) y → Has (y ∷ ys) x → x ≡ y
same_first x y xs ys h k (inl same) of_x = same
same_first x y xs ys h k (inr of_y) (inl same) = sym same
same_first x y xs ys h k (inr of_y) (inr of_x) = absurd (below_both x y (below_has x xs y h of_y) (below_has y ys x k of_x))

-- behind their first lists they have the same members
in_rest : (x y l : List ℕ) (xs ys : List (List ℕ)) → x ≡ y → IsBelowAll x xs → Has xs l → Has (y ∷ ys) l → Has ys l
in_rest x y l xs ys same h of (inl e) = absurd (not_below_itself l (subst (λ (m : List ℕ). IsBelow m l) (same ∙ e) (below_has x xs l h of)))
in_rest x y l xs ys same h of (inr k) = k

-- two rising lists with the same members are one
same_rising : (xs ys : List (List ℕ)) → IsRising xs → IsRising ys → IsIn xs ys → IsIn ys xs → xs ≡ ys
same_rising [] [] h k to from = refl
same_rising [] (y ∷ ys) h k to from = absurd (from y (inl refl))
same_rising (x ∷ xs) [] h k to from = absurd (to x (inl refl))
same_rising (x ∷ xs) (y ∷ ys) h k to from =
    let first : x ≡ y = same_first x y xs ys h.0 k.0 (from y (inl refl)) (to x (inl refl)) in
    let rest : xs ≡ ys = same_rising xs ys h.1 k.1
    (λ l of. in_rest x y l xs ys first h.0 of (to l (inr of)))
    (λ l of. in_rest y x l ys xs (sym first) k.0 of (from l (inr of))) in
    cc

pub no_other_interleavings : (counts : List ℕ) (lists : List (List ℕ)) → AllPairs IsBelow lists
    → ((list : List ℕ) → Contains lists list ↔ IsInterleaving counts list) → lists ≡ interleavings counts
no_other_interleavings counts lists rise keep =
    let all = interleavings counts in
    same_rising lists all (rising_from lists rise) (rising (sum counts) (0 ∷ counts))
    (λ l of. has_from_contains all l ((interleavings_keep_counts counts l).1 ((keep l).0 (contains_from_has lists l of))))
    (λ l of. has_from_contains lists l ((keep l).1 ((interleavings_keep_counts counts l).0 (contains_from_has all l of))))

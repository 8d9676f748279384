-- Insertion sorts.
use Rattle.std.proofs.Common.{◌≡◌, ℕ, zero, suc, ◌+◌, ◌<◌, ◌≤◌, Bool, true, false, List, [], ◌∷◌, ◌++◌, length, refl, sym, ap, ◌∙◌, subst, arith, add-one, append-nil, append_assoc, if◌then◌else◌}
use Rattle.std.specs.Prelude.{⊤, All, fold, slice_index_or}
use Rattle.std.specs.List.{range_with_len, AllAdjacentBelow}
use Rattle.std.specs.List.Sorted.{IsPermutation}
use Rattle.std.specs.BTreeSet.{insert_key}
use Rattle.std.specs.Cmp.{nat_cmp_is}
use Rattle.std.specs.Ordering.{is_lt, match_ordering, nat_cmp, ordering_reverse, ordering_then, MatchOrdering}
use Rattle.std.specs.declared.cmp.Ordering.{Ordering}
use Rattle.std.specs.declared.cmp.Ordering.TheVariants.{Less, Equal, Greater}
use Rattle.std.proofs.lemmas.List.FromFn.{get_or-range_with_len, length-range_with_len}
use Rattle.std.proofs.lemmas.List.Sorted.{IsPermutation-refl, IsPermutation-cons, IsPermutation-append_left, IsPermutation-append_comm, IsPermutation-trans, All-permutation}
use Rattle.sql_trees.specs.declared.kind.Dir.{Dir}
use Rattle.sql_values.specs.declared.value.Value.{Value}
use Rattle.sql_values.specs.Sorting.{keys_at, row_order, MayPrecede, IsSortedOrder}
use Rattle.query_results.specs.Ordering.{sorted_places}
use Rattle.query_results.specs.Inner.Insertion.{put_in, put_all}

-- two rows stand the other way round where they are exchanged
abbrev pub Turns : Type 0
Turns = (by : List Dir) (a b : List Value) → row_order 0 by b a ≡ ordering_reverse (row_order 0 by a b)

-- the place may stand in front of the list
abbrev MayLead : List Dir → List (List Value) → ℕ → List ℕ → Type 0
MayLead by keys p [] = Unit {0}
MayLead by keys p (q ∷ qs) = MayPrecede by keys p q

-- each place may stand in front of those behind it
abbrev InTurn : List Dir → List (List Value) → List ℕ → Type 0
InTurn by keys [] = Unit {0}
InTurn by keys (p ∷ ps) = MayLead by keys p ps × InTurn by keys ps

-- no place is above p
abbrev NoneAbove : ℕ → List ℕ → Type 0
NoneAbove p [] = Unit {0}
NoneAbove p (q ∷ qs) = (q ≤ p) × NoneAbove p qs

abbrev stands : List Dir → List (List Value) → ℕ → ℕ → Ordering
stands by keys p q = row_order 0 by (keys_at keys p) (keys_at keys q)

may_lead_by : (by : List Dir) (keys : List (List Value)) (b : Bool) (s p q : ℕ) (qs rest : List ℕ) → MayPrecede by keys s p → MayPrecede by keys s q → MayLead by keys s (if b then p ∷ q ∷ qs else q ∷ rest)
may_lead_by by keys true s p q qs rest h k = h
may_lead_by by keys false s p q qs rest h k = k

may_lead : (by : List Dir) (keys : List (List Value)) (s p : ℕ) (qs : List ℕ) → MayPrecede by keys s p → MayLead by keys s qs → MayLead by keys s (put_in by keys qs p)
may_lead by keys s p [] h k = h
may_lead by keys s p (q ∷ qs) h k = may_lead_by by keys (is_lt (stands by keys p q)) s p q qs (put_in by keys qs p) h k

-- a row that stands before the other may go first; else the other may, whose place is the earlier one
may_pass : (r : Ordering) (p q : ℕ) → is_lt r ≡ true → MatchOrdering r ⊤ (p ≤ q) ⊥
may_pass Less p q h = tt
may_pass Equal p q h = absurd cc
may_pass Greater p q h = absurd cc

may_stay : (r s : Ordering) (p q : ℕ) → s ≡ ordering_reverse r → is_lt r ≡ false → q ≤ p → MatchOrdering s ⊤ (q ≤ p) ⊥
may_stay r Less p q turned h low = tt
may_stay r Equal p q turned h low = low
may_stay Less Greater p q turned h low = absurd cc
may_stay Equal Greater p q turned h low = absurd cc
may_stay Greater Greater p q turned h low = absurd cc

in_turn_by : (turns : Turns) (by : List Dir) (keys : List (List Value)) (b : Bool) (p q : ℕ) (qs rest : List ℕ) → b ≡ is_lt (stands by keys p q) → q ≤ p → (MayPrecede by keys q p → MayLead by keys q rest) → InTurn by keys rest → InTurn by keys (q ∷ qs) → InTurn by keys (if b then p ∷ q ∷ qs else q ∷ rest)
in_turn_by turns by keys true p q qs rest is low lead h k = (may_pass (stands by keys p q) p q (sym is), k)
in_turn_by turns by keys false p q qs rest is low lead h k =
    (lead (may_stay (stands by keys p q) (stands by keys q p) p q (turns by (keys_at keys p) (keys_at keys q)) (sym is) low), h)

in_turn : (turns : Turns) (by : List Dir) (keys : List (List Value)) (p : ℕ) (qs : List ℕ) → NoneAbove p qs → InTurn by keys qs → InTurn by keys (put_in by keys qs p)
in_turn turns by keys p [] low h = (tt, tt)
in_turn turns by keys p (q ∷ qs) low h =
    in_turn_by turns by keys (is_lt (stands by keys p q)) p q qs (put_in by keys qs p) refl low.0
    (λ may. may_lead by keys q p qs may h.0) (in_turn turns by keys p qs low.1 h.1) h

none_above_by : (b : Bool) (a p q : ℕ) (qs rest : List ℕ) → p ≤ a → NoneAbove a (q ∷ qs) → NoneAbove a rest → NoneAbove a (if b then p ∷ q ∷ qs else q ∷ rest)
none_above_by true a p q qs rest low h k = (low, h)
none_above_by false a p q qs rest low h k = (h.0, k)

none_above_put : (by : List Dir) (keys : List (List Value)) (a p : ℕ) (qs : List ℕ) → p ≤ a → NoneAbove a qs → NoneAbove a (put_in by keys qs p)
none_above_put by keys a p [] low h = (low, tt)
none_above_put by keys a p (q ∷ qs) low h =
    none_above_by (is_lt (stands by keys p q)) a p q qs (put_in by keys qs p) low h (none_above_put by keys a p qs low h.1)

none_above_next : (a : ℕ) (qs : List ℕ) → NoneAbove a qs → NoneAbove (a + 1) qs
none_above_next a [] h = tt
none_above_next a (q ∷ qs) h = let low = h.0 in (omega arith, none_above_next a qs h.1)

-- places that are put in from k on, behind sorted ones up to k
range_in_turn : (turns : Turns) (by : List Dir) (keys : List (List Value)) (k n : ℕ) (sorted : List ℕ) → NoneAbove k sorted → InTurn by keys sorted
    → InTurn by keys (fold (put_in by keys) sorted (range_with_len k n))
range_in_turn turns by keys k zero sorted low h = h
range_in_turn turns by keys k (suc n) sorted low h =
    range_in_turn turns by keys (k + 1) n (put_in by keys sorted k)
    (none_above_next k (put_in by keys sorted k) (none_above_put by keys k k sorted (omega arith) low)) (in_turn turns by keys k sorted low h)

adjacent : (by : List Dir) (keys : List (List Value)) (ps : List ℕ) → InTurn by keys ps → AllAdjacentBelow (MayPrecede by keys) ps (length ps)
adjacent by keys [] h k d less = absurd (omega arith)
adjacent by keys (p ∷ []) h k d less = absurd (omega arith)
adjacent by keys (p ∷ q ∷ qs) h zero d less = h.0
adjacent by keys (p ∷ q ∷ qs) h (suc k) d less =
    let rest : AllAdjacentBelow (MayPrecede by keys) (q ∷ qs) (length (q ∷ qs)) = adjacent by keys (q ∷ qs) h.1 in
    rw (add-one (suc k)) (rw (add-one k) at (rest k d (omega arith)))

exchanged : (p q : ℕ) (qs : List ℕ) → IsPermutation (p ∷ q ∷ qs) (q ∷ p ∷ qs)
exchanged p q qs = IsPermutation-append_left qs (p ∷ q ∷ []) (q ∷ p ∷ []) (IsPermutation-append_comm (p ∷ []) (q ∷ []))

put_by : (b : Bool) (p q : ℕ) (qs rest : List ℕ) → IsPermutation (p ∷ qs) rest → IsPermutation (p ∷ q ∷ qs) (if b then p ∷ q ∷ qs else q ∷ rest)
put_by true p q qs rest h = IsPermutation-refl (p ∷ q ∷ qs)
put_by false p q qs rest h = IsPermutation-trans (p ∷ q ∷ qs) (q ∷ p ∷ qs) (q ∷ rest) (exchanged p q qs) (IsPermutation-cons q (p ∷ qs) rest h)

put_once : (by : List Dir) (keys : List (List Value)) (p : ℕ) (qs : List ℕ) → IsPermutation (p ∷ qs) (put_in by keys qs p)
put_once by keys p [] = IsPermutation-refl (p ∷ [])
put_once by keys p (q ∷ qs) = put_by (is_lt (stands by keys p q)) p q qs (put_in by keys qs p) (put_once by keys p qs)

each_once : (by : List Dir) (keys : List (List Value)) (sorted ps : List ℕ) → IsPermutation (sorted ++ ps) (fold (put_in by keys) sorted ps)
each_once by keys sorted [] = rw (append-nil sorted) (IsPermutation-refl sorted)
each_once by keys sorted (p ∷ ps) =
    let next : List ℕ = put_in by keys sorted p in
    let one : IsPermutation (sorted ++ p ∷ []) next = IsPermutation-trans (sorted ++ p ∷ []) (p ∷ sorted) next (IsPermutation-append_comm sorted (p ∷ [])) (put_once by keys p sorted) in
    let this : IsPermutation (sorted ++ (p ∷ ps)) (next ++ ps) =
    subst (λ (all : List ℕ). IsPermutation all (next ++ ps)) (append_assoc sorted (p ∷ []) ps) (IsPermutation-append_left ps (sorted ++ p ∷ []) next one) in
    IsPermutation-trans (sorted ++ (p ∷ ps)) (next ++ ps) (fold (put_in by keys) next ps) this (each_once by keys next ps)

all_in_order : (turns : Turns) (by : List Dir) (keys : List (List Value)) → IsSortedOrder by keys (put_all by keys)
all_in_order turns by keys = record {
  each_once = each_once by keys [] (range_with_len 0 (length keys));
  in_order = adjacent by keys (put_all by keys) (range_in_turn turns by keys 0 (length keys) [] tt tt);
}

-- each place is below p
abbrev Below : ℕ → List ℕ → Type 0
Below p [] = Unit {0}
Below p (q ∷ qs) = (q < p) × Below p qs

none_above : (p : ℕ) (qs : List ℕ) → Below p qs → NoneAbove p qs
none_above p [] h = tt
none_above p (q ∷ qs) h = let low = h.0 in (omega arith, none_above p qs h.1)

below_next : (p : ℕ) (qs : List ℕ) → NoneAbove p qs → Below (p + 1) qs
below_next p [] h = tt
below_next p (q ∷ qs) h = let low = h.0 in (omega arith, below_next p qs h.1)

-- places are compared by their rows' keys, and then as numbers
abbrev in_turn_with : List Dir → List (List Value) → ℕ → ℕ → Ordering
in_turn_with by keys p q = ordering_then (stands by keys p q) (nat_cmp p q)

inserted_by : (r n : Ordering) (p q : ℕ) (qs these those : List ℕ) → n ≡ Greater → these ≡ those
    → match_ordering (ordering_then r n) (p ∷ q ∷ qs) (q ∷ qs) (q ∷ these) ≡ (if is_lt r then p ∷ q ∷ qs else q ∷ those)
inserted_by Less n p q qs these those behind same = refl
inserted_by Equal n p q qs these those behind same = ap (λ o. match_ordering o (p ∷ q ∷ qs) (q ∷ qs) (q ∷ these)) behind ∙ ap (λ xs. q ∷ xs) same
inserted_by Greater n p q qs these those behind same = ap (λ xs. q ∷ xs) same

-- behind places that are all below it, a place goes by its row's keys alone
inserted : (by : List Dir) (keys : List (List Value)) (p : ℕ) (qs : List ℕ) → Below p qs → insert_key (in_turn_with by keys) qs p ≡ put_in by keys qs p
inserted by keys p [] low = refl
inserted by keys p (q ∷ qs) low =
    inserted_by (stands by keys p q) (nat_cmp p q) p q qs (insert_key (in_turn_with by keys) qs p) (put_in by keys qs p)
    (sym (nat_cmp_is p q Greater low.0)) (inserted by keys p qs low.1)

inserted_from : (by : List Dir) (keys : List (List Value)) (k n : ℕ) (sorted : List ℕ) → Below k sorted
    → fold (insert_key (in_turn_with by keys)) sorted (range_with_len k n) ≡ fold (put_in by keys) sorted (range_with_len k n)
inserted_from by keys k zero sorted low = refl
inserted_from by keys k (suc n) sorted low =
    ap (λ s. fold (insert_key (in_turn_with by keys)) s (range_with_len (k + 1) n)) (inserted by keys k sorted low)
    ∙ inserted_from by keys (k + 1) n (put_in by keys sorted k) (below_next k (put_in by keys sorted k) (none_above_put by keys k k sorted (omega arith) (none_above k sorted low)))

pub all_inserted : (by : List Dir) (keys : List (List Value)) → sorted_places by keys ≡ put_all by keys
all_inserted by keys = inserted_from by keys 0 (length keys) [] tt

pub insertion_sorts : (turns : Turns) (by : List Dir) (keys : List (List Value)) → IsSortedOrder by keys (sorted_places by keys)
insertion_sorts turns by keys = subst (IsSortedOrder by keys) (sym (all_inserted by keys)) (all_in_order turns by keys)

range_within : (n : ℕ) → All (λ i. i < n) (range_with_len 0 n)
range_within n k d less =
    let long = length-range_with_len 0 n in
    let this : slice_index_or (range_with_len 0 n) k d ≡ 0 + k = get_or-range_with_len 0 n k d (omega arith) in
    omega arith

-- each place in sorted order is one of a row
pub order_within : (by : List Dir) (keys : List (List Value)) (sorted : List ℕ) (n : ℕ) → IsSortedOrder by keys sorted → length keys ≡ n → All (λ i. i < n) sorted
order_within by keys sorted n h long =
    rw (← long) (All-permutation (λ i. i < length keys) (range_with_len 0 (length keys)) sorted h.each_once (range_within (length keys)))

pub places_within : (by : List Dir) (keys : List (List Value)) (n : ℕ) → length keys ≡ n → All (λ i. i < n) (sorted_places by keys)
places_within by keys n long =
    subst (All (λ i. i < n)) (sym (all_inserted by keys))
    (rw (← long) (All-permutation (λ i. i < length keys) (range_with_len 0 (length keys)) (put_all by keys) (each_once by keys [] (range_with_len 0 (length keys))) (range_within (length keys))))

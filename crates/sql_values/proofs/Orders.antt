-- The orders of values, keys and rows are total, and what a stable sort by one of rows gives.
use Rattle.std.proofs.Common.{◌≡◌, ℕ, zero, suc, add-zero, add-one, ◌++◌, ◌+◌, ◌≤◌, ℤ, pos, Bool, true, false, not, ◌&&◌, List, [], ◌∷◌, length, get_or, refl, sym, ap, ◌∙◌, arith, ltb, if◌then◌else◌}
use borrow.Author.Tests.{ltb-false, le-ltb}
use Rattle.std.specs.Prelude.{⊤}
use Rattle.std.specs.Cmp.{IsTotalOrder, IsStrictWeakOrder}
use Rattle.std.specs.Cmp.Lexicographic.{slice_cmp, nat_list_cmp_total}
use Rattle.std.specs.List.{range_with_len, AllAdjacentBelow}
use Rattle.std.specs.List.Sorted.{IsSortedBy, IsStableBy}
use Rattle.std.specs.Ordering.{nat_cmp, int_cmp, bool_cmp, ordering_then, ordering_reverse, then_cmp, on, is_lt, MatchOrdering}
use Rattle.std.specs.declared.cmp.Ordering.{Ordering}
use Rattle.std.specs.declared.cmp.Ordering.TheVariants.{Less, Equal, Greater}
use Rattle.std.proofs.lemmas.Bool.{false≢true}
use Rattle.std.proofs.lemmas.Cmp.{nat_cmp_total, int_cmp_total, on_total, then_total, back_total}
use Rattle.std.proofs.lemmas.List.FromFn.{get_or-range_with_len, length-range_with_len}
use Rattle.std.proofs.lemmas.List.Sorted.{IsStrictWeakOrder-flip, ranks_by, ties_stay_sorted, IsStrictWeakOrder-by_number}
use Rattle.sql_trees.specs.declared.kind.Dir.{Dir}
use Rattle.sql_values.specs.declared.value.Value.{Value}
use Rattle.sql_values.specs.declared.value.Value.TheVariants.{Null, Int, Big, Text, Bool as Boolean}
use Rattle.sql_values.specs.Inner.Extremes.{beats}
use Rattle.sql_values.specs.Sorting.{kind_rank, full_order, key_order, key, row_order, keys_at, MayPrecede}
use Rattle.sql_values.specs.Inner.Sortable.{null_place}
use Rattle.sql_values.specs.Values.{is_null}

-- an order that answers as a total one is total
total_by : {K : Type 0} {R S : K → K → Ordering} → IsTotalOrder S → ((x y : K) → R x y ≡ S x y) → IsTotalOrder R
total_by o h = record {
  antisymm = λ x y. h x y ∙ o.antisymm x y ∙ sym (ap ordering_reverse (h y x));
  trans = λ x y z p q. h x z ∙ o.trans x y z (sym (h x y) ∙ p) (sym (h y z) ∙ q);
  congr = λ x y z p. h x z ∙ o.congr x y z (sym (h x y) ∙ p) ∙ sym (h y z);
}

-- a value by parts: its number, its text
abbrev number_in : Value → ℤ
number_in Null = pos 0
number_in (Int z) = z
number_in (Big z) = z
number_in (Text s) = pos 0
number_in (Boolean true) = pos 1
number_in (Boolean false) = pos 0

abbrev text_in : Value → List ℕ
text_in Null = []
text_in (Int z) = []
text_in (Big z) = []
text_in (Text s) = s
text_in (Boolean b) = []

abbrev by_parts : Value → Value → Ordering
by_parts = then_cmp (on kind_rank nat_cmp) (then_cmp (on number_in int_cmp) (on text_in (slice_cmp nat_cmp)))

then_equal : (o : Ordering) → o ≡ ordering_then o Equal
then_equal Less = refl
then_equal Equal = refl
then_equal Greater = refl

parts : (a b : Value) → full_order a b ≡ by_parts a b
parts Null Null = refl
parts Null (Int b) = refl
parts Null (Big b) = refl
parts Null (Text b) = refl
parts Null (Boolean b) = refl
parts (Int a) Null = refl
parts (Int a) (Int b) = then_equal (int_cmp a b)
parts (Int a) (Big b) = then_equal (int_cmp a b)
parts (Int a) (Text b) = refl
parts (Int a) (Boolean b) = refl
parts (Big a) Null = refl
parts (Big a) (Int b) = then_equal (int_cmp a b)
parts (Big a) (Big b) = then_equal (int_cmp a b)
parts (Big a) (Text b) = refl
parts (Big a) (Boolean b) = refl
parts (Text a) Null = refl
parts (Text a) (Int b) = refl
parts (Text a) (Big b) = refl
parts (Text a) (Text b) = refl
parts (Text a) (Boolean b) = refl
parts (Boolean a) Null = refl
parts (Boolean a) (Int b) = refl
parts (Boolean a) (Big b) = refl
parts (Boolean a) (Text b) = refl
parts (Boolean false) (Boolean false) = refl
parts (Boolean false) (Boolean true) = refl
parts (Boolean true) (Boolean false) = refl
parts (Boolean true) (Boolean true) = refl

pub full_total : IsTotalOrder full_order
full_total =
    total_by (then_total (on_total kind_rank nat_cmp_total) (then_total (on_total number_in int_cmp_total) (on_total text_in nat_list_cmp_total))) parts

-- whether a value beats another one
pub beats_rank : (greatest : Bool) → IsStrictWeakOrder (beats greatest)
beats_rank true = IsStrictWeakOrder-flip (λ x y. is_lt (full_order x y)) (ranks_by full_total (λ v. v))
beats_rank false = ranks_by full_total (λ v. v)

-- as it is, or turned
turned_total : (desc : Bool) → IsTotalOrder (λ a b. if desc then full_order b a else full_order a b)
turned_total true = back_total full_total
turned_total false = full_total

placed : (first a b : Bool) → (if first then bool_cmp b a else bool_cmp a b)
    ≡ nat_cmp (if a then (if first then 0 else 2) else 1) (if b then (if first then 0 else 2) else 1)
placed true true true = refl
placed true true false = refl
placed true false true = refl
placed true false false = refl
placed false true true = refl
placed false true false = refl
placed false false true = refl
placed false false false = refl

-- NULLs stand as their places do
pub nulls_placed : (dir : Dir) (a b : Value) → (if dir.nulls_first then bool_cmp (is_null b) (is_null a) else bool_cmp (is_null a) (is_null b)) ≡ nat_cmp (null_place dir a) (null_place dir b)
nulls_placed dir a b = placed dir.nulls_first (is_null a) (is_null b)

key_total : (dir : Dir) → IsTotalOrder (key_order dir)
key_total dir = then_total (total_by (on_total (null_place dir) nat_cmp_total) (nulls_placed dir)) (turned_total dir.desc)

pub row_total : (k : ℕ) (by : List Dir) → IsTotalOrder (row_order k by)
row_total k [] = record { antisymm = λ x y. refl; trans = λ x y z p q. p; congr = λ x y z p. refl }
row_total k (dir ∷ by) = then_total (on_total (key k) (key_total dir)) (row_total (k + 1) by)

-- whether the row at p stands before the row at q by its keys
abbrev pub stands_before : List Dir → List (List Value) → ℕ → ℕ → Bool
stands_before by keys p q = is_lt (row_order 0 by (keys_at keys p) (keys_at keys q))

pub rows_rank : (by : List Dir) (keys : List (List Value)) → IsStrictWeakOrder (stands_before by keys)
rows_rank by keys = ranks_by (row_total 0 by) (keys_at keys)

may : (o r : Ordering) (p q : ℕ) → r ≡ ordering_reverse o → is_lt r ≡ false → ((not (is_lt o) && not (is_lt r)) ≡ true → ltb q p ≡ false) → MatchOrdering o ⊤ (p ≤ q) ⊥
may Less r p q e n t = tt
may Equal r p q e n t = ltb-false q p (t (ap not n))
may Greater r p q e n t = absurd (false≢true (sym n ∙ ap is_lt e))

range_next : (a n : ℕ) → range_with_len a (suc n) ≡ range_with_len a n ++ (a + n) ∷ []
range_next a zero = rw (add-zero a) refl
range_next a (suc n) =
    let step : (a + 1) + n ≡ a + suc n = omega arith in
    ap (λ r. a ∷ r) (range_next (a + 1) n ∙ ap (λ m. range_with_len (a + 1) n ++ m ∷ []) step)

pub range_more : (n : ℕ) → range_with_len 0 (n + 1) ≡ range_with_len 0 n ++ n ∷ []
range_more n =
    let same : 0 + n ≡ n = omega arith in
    rw (add-one n) (range_next 0 n ∙ ap (λ m. range_with_len 0 n ++ m ∷ []) same)

range_rises : (n : ℕ) → IsSortedBy (λ x y. ltb x y) (range_with_len 0 n)
range_rises n k d low h =
    let long = length-range_with_len 0 n in
    let this : get_or (range_with_len 0 n) k d ≡ 0 + k = get_or-range_with_len 0 n k d (omega arith) in
    let next : get_or (range_with_len 0 n) (k + 1) d ≡ 0 + (k + 1) = get_or-range_with_len 0 n (k + 1) d (omega arith) in
    le-ltb _ _ (omega arith)

pub in_order : (by : List Dir) (keys : List (List Value)) (n : ℕ) (ys : List ℕ) → IsSortedBy (stands_before by keys) ys → IsStableBy (stands_before by keys) (range_with_len 0 n) ys → AllAdjacentBelow (MayPrecede by keys) ys (length ys)
in_order by keys n ys sorted stable k d h =
    let o = row_total 0 by in
    may _ _ _ _ (o.antisymm _ _) (sorted k d (omega arith) h) (ties_stay_sorted (λ x y. ltb x y) (stands_before by keys) (IsStrictWeakOrder-by_number (λ x. x)) (rows_rank by keys) (range_with_len 0 n) ys (range_rises n) stable k d h)

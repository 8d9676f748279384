-- To be believed. The order in which rows are sorted (PostgreSQL manual, 7.5).
use Rattle.std.specs.Prelude.{ℕ, ◌+◌, ◌≤◌, ⊤, Bool, ◌||◌, List, [], ◌∷◌, length, is_some, unwrap_or, slice_get, slice_index_or, if◌then◌else◌}
use Rattle.std.specs.List.{list_all, range_with_len, AllAdjacentBelow}
use Rattle.std.specs.List.Sorted.{IsPermutation}
use Rattle.std.specs.Ordering.{nat_cmp, bool_cmp, ordering_then, MatchOrdering}
use Rattle.std.specs.declared.cmp.Ordering.{Ordering}
use Rattle.std.specs.declared.cmp.Ordering.TheVariants.{Equal}
use Rattle.sql_trees.specs.declared.kind.Dir.{Dir}
use Rattle.sql_values.specs.declared.value.Value.{Value}
use Rattle.sql_values.specs.declared.value.Value.TheVariants.{Null, Text, Bool as Boolean}
use Rattle.sql_values.specs.Values.{is_null, compare}

-- kinds that don't compare stand in this order; nothing shows it, since sorting and aggregates refuse to mix them
abbrev pub kind_rank : Value → ℕ
kind_rank v = elim v [ Null ↦ 0 | Text s ↦ 2 | Boolean b ↦ 3 | number ↦ 1 ]

-- the order of two values, for all of them
abbrev pub full_order : Value → Value → Ordering
full_order a b = unwrap_or (compare a b) (nat_cmp (kind_rank a) (kind_rank b))

-- how a key sorted in this direction orders two values: NULLs stand first or last, and what isn't NULL rises or falls
abbrev pub key_order : Dir → Value → Value → Ordering
key_order dir a b =
    ordering_then (if dir.nulls_first then bool_cmp (is_null b) (is_null a) else bool_cmp (is_null a) (is_null b)) (if dir.desc then full_order b a else full_order a b)

-- the value of key k of a row
abbrev pub key : ℕ → List Value → Value
key k row = unwrap_or (slice_get row k) Null

-- from key k on, the first key that tells two rows apart orders them
abbrev pub row_order : ℕ → List Dir → List Value → List Value → Ordering
row_order k [] a b = Equal
row_order k (dir ∷ by) a b = ordering_then (key_order dir (key k a) (key k b)) (row_order (k + 1) by a b)

-- the keys of the row at that place
abbrev pub keys_at : List (List Value) → ℕ → List Value
keys_at keys p = slice_index_or keys p []

-- the row at p may stand before the row at q: by its keys, or where these are equal by its old place
abbrev pub MayPrecede : List Dir → List (List Value) → ℕ → ℕ → Type 0
MayPrecede by keys p q = MatchOrdering (row_order 0 by (keys_at keys p) (keys_at keys q)) ⊤ (p ≤ q) ⊥

-- the places of the rows in sorted order: each place once, and each where it may stand before the next
pub record IsSortedOrder (by : List Dir) (keys : List (List Value)) (places : List ℕ) : Type 0 where
  pub each_once : IsPermutation (range_with_len 0 (length keys)) places
  pub in_order : AllAdjacentBelow (MayPrecede by keys) places (length places)

-- the rows can be sorted by this many keys: of each, any two values compare that aren't NULL
abbrev pub can_sort : List Dir → List (List Value) → Bool
can_sort by keys =
    list_all (λ k. list_all (λ a. list_all (λ b. is_null (key k a) || is_null (key k b) || is_some (compare (key k a) (key k b))) keys) keys) (range_with_len 0 (length by))

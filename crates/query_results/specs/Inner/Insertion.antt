-- How places are sorted by insertion.
use Rattle.std.specs.Prelude.{ℕ, List, [], ◌∷◌, length, fold, if◌then◌else◌}
use Rattle.std.specs.List.{range_with_len}
use Rattle.std.specs.Ordering.{is_lt}
use Rattle.sql_trees.specs.declared.kind.Dir.{Dir}
use Rattle.sql_values.specs.declared.value.Value.{Value}
use Rattle.sql_values.specs.Sorting.{keys_at, row_order}

-- a place is put in among sorted ones: before the first whose row stands behind its row by their keys, or at the end
abbrev pub put_in : List Dir → List (List Value) → List ℕ → ℕ → List ℕ
put_in by keys [] p = p ∷ []
put_in by keys (q ∷ qs) p = if is_lt (row_order 0 by (keys_at keys p) (keys_at keys q)) then p ∷ q ∷ qs else q ∷ put_in by keys qs p

-- one after the other is put in, so that rows with equal keys stay in their order
abbrev pub put_all : List Dir → List (List Value) → List ℕ
put_all by keys = fold (put_in by keys) [] (range_with_len 0 (length keys))

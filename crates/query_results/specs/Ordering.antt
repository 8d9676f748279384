-- To be believed. How rows are sorted by their keys, as a function (PostgreSQL manual, 7.5).
use Rattle.std.specs.Prelude.{ℕ, List, [], length, map, fold, slice_index_or}
use Rattle.std.specs.List.{range_with_len}
use Rattle.std.specs.BTreeSet.{insert_key}
use Rattle.std.specs.Ordering.{nat_cmp, ordering_then}
use Rattle.sql_trees.specs.declared.kind.Dir.{Dir}
use Rattle.sql_values.specs.declared.value.Value.{Value}
use Rattle.sql_values.specs.Sorting.{keys_at, row_order}

-- the rows at these places
abbrev pub rows_at : List (List Value) → List ℕ → List (List Value)
rows_at rows places = map (λ p. slice_index_or rows p []) places

-- the places of the rows with these keys, from 0, as they are sorted: each is put in by its row's keys, and where these are equal by itself
abbrev pub sorted_places : List Dir → List (List Value) → List ℕ
sorted_places by keys = fold (insert_key (λ p q. ordering_then (row_order 0 by (keys_at keys p) (keys_at keys q)) (nat_cmp p q))) [] (range_with_len 0 (length keys))

-- Whether and how rows are sorted, as the code finds it.
use Rattle.std.specs.Prelude.{ℕ, Bool, true, List, [], ◌∷◌, length, map, is_some, if◌then◌else◌}
use Rattle.std.specs.List.{list_all, range_with_len}
use Rattle.sql_trees.specs.declared.kind.Dir.{Dir}
use Rattle.sql_values.specs.declared.value.Value.{Value}
use Rattle.sql_values.specs.Values.{is_null, compare}
use Rattle.sql_values.specs.Sorting.{key}
use Rattle.sql_values.specs.Inner.Extremes.{without_nulls}

-- where NULLs stand among the values
abbrev pub null_place : Dir → Value → ℕ
null_place dir v = if is_null v then (if dir.nulls_first then 0 else 2) else 1

-- they compare with the first of them
abbrev pub all_compare : List Value → Bool
all_compare [] = true
all_compare (v ∷ vs) = list_all (λ w. is_some (compare v w)) vs

-- of each key, the values that aren't NULL compare with the first of them
abbrev pub all_with_first : List Dir → List (List Value) → Bool
all_with_first by keys = list_all (λ k. all_compare (without_nulls (map (key k) keys))) (range_with_len 0 (length by))

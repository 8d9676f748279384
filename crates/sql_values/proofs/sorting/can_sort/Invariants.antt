use Rattle.std.proofs.Common.{◌≡◌, ◌-◌, length, map}
use Rattle.std.specs.List.{list_all, range_with_len}
use Rattle.sql_values.specs.Sorting.{key, can_sort}
use Rattle.sql_values.specs.Inner.Sortable.{all_compare}
use Rattle.sql_values.specs.Inner.Extremes.{without_nulls}
use Rattle.sql_values.proofs.sorting.can_sort.Given as goal

abbrev pub invariant-loop-k : goal.invariant-loop-k
invariant-loop-k l =
    can_sort l.by l.keys ≡ list_all (λ k. all_compare (without_nulls (map (key k) l.keys))) (range_with_len l.k (length l.by - l.k))

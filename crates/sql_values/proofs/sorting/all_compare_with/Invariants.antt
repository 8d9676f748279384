use Rattle.std.proofs.Common.{◌≡◌, drop, map}
use Rattle.std.specs.Prelude.{is_some}
use Rattle.std.specs.List.{list_all}
use Rattle.sql_values.specs.declared.value.Value.TheVariants.{Null}
use Rattle.sql_values.specs.Values.{compare}
use Rattle.sql_values.specs.Sorting.{key}
use Rattle.sql_values.specs.Inner.Extremes.{without_nulls}
use Rattle.sql_values.proofs.sorting.all_compare_with.Given as goal

abbrev pub invariant-loop-row : goal.invariant-loop-row
invariant-loop-row l =
    let goes_with = list_all (λ w. is_some (compare l.value w)) in
    record {
      nothing : l.null ≡ Null;
      goes_on : goes_with (without_nulls (map (key l.k) l.keys)) ≡ goes_with (without_nulls (map (key l.k) (drop l.row-index l.keys)));
    }

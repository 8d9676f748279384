use Rattle.std.proofs.Common.{◌≡◌, drop, map}
use Rattle.sql_values.specs.declared.value.Value.TheVariants.{Null}
use Rattle.sql_values.specs.Sorting.{key}
use Rattle.sql_values.specs.Inner.Extremes.{without_nulls}
use Rattle.sql_values.proofs.sorting.all_compare.Given as goal

abbrev pub invariant-loop-i : goal.invariant-loop-i
invariant-loop-i l = record {
  nothing : l.null ≡ Null;
  goes_on : without_nulls (map (key l.k) l.keys) ≡ without_nulls (map (key l.k) (drop l.i l.keys));
}

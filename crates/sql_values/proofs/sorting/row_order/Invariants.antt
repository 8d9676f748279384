use Rattle.std.proofs.Common.{◌≡◌, drop}
use Rattle.sql_values.specs.declared.value.Value.TheVariants.{Null}
use Rattle.sql_values.specs.Sorting.{row_order}
use Rattle.sql_values.proofs.sorting.row_order.Given as goal

abbrev pub invariant-loop-k : goal.invariant-loop-k
invariant-loop-k l =
    record { nothing : l.null ≡ Null; goes_on : row_order 0 l.by l.a l.b ≡ row_order l.k (drop l.k l.by) l.a l.b }

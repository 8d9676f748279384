use Rattle.std.proofs.Common.{◌≡◌, ◌*◌, drop, pos, neg_ℤ, ◌≤ℤ◌}
use Rattle.sql_values.specs.Aggregates.{total}
use Rattle.sql_values.proofs.Gathered.{summed}
use Rattle.sql_values.proofs.aggregation.sum.Given as goal

abbrev pub invariant-loop-value : goal.invariant-loop-value
invariant-loop-value l = record {
  so_far : total l.values ≡ summed l.total (total (drop l.value-index l.values));
  low : neg_ℤ (pos (2147483648 * l.value-index)) ≤ℤ l.total;
  high : l.total ≤ℤ pos (2147483648 * l.value-index);
}

use Rattle.std.proofs.Common.{◌≡◌, drop, map}
use Rattle.sql_trees.specs.Trees.{tree_of}
use Rattle.sql_values.specs.Inner.Extremes.{values}
use Rattle.sql_values.proofs.Gathered.{gathered}
use Rattle.sql_values.proofs.aggregation.values_of.Given as goal

abbrev pub invariant-loop-row : goal.invariant-loop-row
invariant-loop-row l =
    let one = values (tree_of l.bound.expr) l.bound.columns in
    one (map (λ row. row.now) l.rows) ≡ gathered l.found.items (one (map (λ row. row.now) (drop l.row-index l.rows)))

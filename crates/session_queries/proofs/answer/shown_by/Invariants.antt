use Rattle.std.proofs.Common.{◌≡◌, drop, map}
use Rattle.sql_trees.specs.Statements.{item_of}
use Rattle.sql_values.specs.Values.{each}
use Rattle.query_results.specs.Queries.{row_values}
use Rattle.session_queries.specs.Inner.Fronts.{in_front}
use Rattle.session_queries.proofs.answer.shown_by.Given as goal

abbrev pub invariant-loop-row : goal.invariant-loop-row
invariant-loop-row l =
    let one = row_values l.columns (map item_of l.items) in
    each one (map (λ row. row.now) l.rows) ≡ in_front l.shown.items (each one (map (λ row. row.now) (drop l.row-index l.rows)))

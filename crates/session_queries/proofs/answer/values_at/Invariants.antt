use Rattle.std.proofs.Common.{◌≡◌, drop, map}
use Rattle.sql_trees.specs.Statements.{item_of}
use Rattle.query_results.specs.Queries.{row_values}
use Rattle.session_queries.specs.Inner.Answers.{row_by_items}
use Rattle.session_queries.specs.Inner.Fronts.{in_front}
use Rattle.session_queries.proofs.answer.values_at.Given as goal

abbrev pub invariant-loop-item : goal.invariant-loop-item
invariant-loop-item l =
    row_values l.columns (map item_of l.items) l.row ≡ in_front l.values.items (row_by_items l.columns (map item_of (drop l.item-index l.items)) l.row)

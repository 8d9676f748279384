use Rattle.std.proofs.Common.{◌≡◌, drop, map}
use Rattle.sql_trees.specs.Statements.{item_of}
use Rattle.query_results.specs.Queries.{row_values}
use Rattle.session_queries.specs.Inner.Answers.{row_by_items}
use Rattle.session_queries.specs.Inner.Fronts.{in_front}
use Rattle.session_queries.proofs.answer.bound_values.Given as goal

abbrev pub invariant-loop-i : goal.invariant-loop-i
invariant-loop-i l =
    row_values l.columns (map item_of l.items) l.row ≡ in_front l.values.items (row_by_items l.columns (map item_of (drop l.i l.items)) l.row)

use Rattle.std.proofs.Common.{◌≡◌, drop, length, map}
use Rattle.std.specs.Prelude.{nat_lt}
use Rattle.sql_trees.specs.Statements.{column_of, item_of}
use Rattle.query_results.specs.Queries.{titles_of}
use Rattle.session_queries.proofs.positions.is_shown.Given as goal

abbrev pub invariant-loop-item : goal.invariant-loop-item
invariant-loop-item l =
    let columns = map column_of l.columns in
    nat_lt l.fn.place (length (titles_of columns (map item_of l.items))) ≡ nat_lt l.place (length (titles_of columns (map item_of (drop l.item-index l.items))))

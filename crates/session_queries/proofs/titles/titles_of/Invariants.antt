use Rattle.std.proofs.Common.{◌≡◌, ◌++◌, map, drop}
use Rattle.sql_trees.specs.Statements.{column_of, item_of}
use Rattle.query_results.specs.Queries.{titles_of}
use Rattle.session_queries.proofs.titles.titles_of.Given as goal

abbrev pub invariant-loop-item : goal.invariant-loop-item
invariant-loop-item l =
    let columns = map column_of l.columns in
    titles_of columns (map item_of l.items) ≡ l.titles.items ++ titles_of columns (map item_of (drop l.item-index l.items))

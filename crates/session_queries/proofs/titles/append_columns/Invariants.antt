use Rattle.std.proofs.Common.{◌≡◌, ◌++◌, map, take}
use Rattle.sql_trees.specs.Statements.{All, column_of}
use Rattle.query_results.specs.Queries.{item_titles}
use Rattle.session_queries.proofs.titles.append_columns.Given as goal

abbrev pub invariant-loop-column : goal.invariant-loop-column
invariant-loop-column l = l.titles.items ≡ l.fn.titles.items ++ item_titles (map column_of (take l.column-index l.columns)) All

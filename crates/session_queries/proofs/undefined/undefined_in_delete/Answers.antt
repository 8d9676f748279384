use Rattle.std.proofs.Common.{map, rules}
use Rattle.sql_trees.specs.Statements.{column_of, delete_of}
use Rattle.query_results.specs.Queries.{cols_of}
use Rattle.session_queries.proofs.ColumnLists.{known_columns}
use Rattle.session_queries.proofs.ColumnsNamed.{delete_answer}
use Rattle.session_queries.proofs.undefined.undefined_in_delete.Goals as goal

pub returns-in-Some : goal.returns-in-Some
returns-in-Some c = delete_answer (cols_of (map column_of c.args.columns.now)) (delete_of c.args.delete.now) _ (search (rules, known_columns))

pub returns-in-None : goal.returns-in-None
returns-in-None c = delete_answer (cols_of (map column_of c.args.columns.now)) (delete_of c.args.delete.now) _ (search (rules, known_columns))

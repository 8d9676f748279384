use Rattle.std.proofs.Common.{◌≡◌, ◌++◌, length, map}
use Rattle.sql_parser.specs.Tables.{completed}
use Rattle.sql_parser.specs.Code.Views.{key_text_of}
use Rattle.sql_trees.specs.Statements.{column_of}
use Rattle.sql_parser.proofs.table_keys.completed.Given as goal

abbrev pub invariant-loop-columns : goal.invariant-loop-columns
invariant-loop-columns l = map column_of l.all.items ++ map (completed (map key_text_of l.keys)) (map column_of l.columns) ≡ map (completed (map key_text_of l.keys)) (map column_of l.fn.columns)

abbrev pub decreases-loop-columns : goal.decreases-loop-columns
decreases-loop-columns l = length l.columns

use Rattle.std.proofs.Common.{◌≡◌, ◌++◌, length, map}
use Rattle.sql_trees.specs.Inner.KeyNames.{underscored}
use Rattle.sql_parser.specs.Tables.{placed_names}
use Rattle.sql_parser.specs.Code.Views.{placed_of}
use Rattle.sql_parser.proofs.table_keys.push_columns.Given as goal

abbrev pub invariant-loop-columns : goal.invariant-loop-columns
invariant-loop-columns l = l.text.items ++ underscored (placed_names (map placed_of l.columns)) ≡ l.fn.text.items ++ underscored (placed_names (map placed_of l.fn.columns))

abbrev pub decreases-loop-columns : goal.decreases-loop-columns
decreases-loop-columns l = length l.columns

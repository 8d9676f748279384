use Rattle.std.proofs.Common.{◌≡◌, length, map}
use Rattle.sql_blocks.specs.Parts.{column_names}
use Rattle.sql_parser.specs.Inner.Tables.{first_lacking}
use Rattle.sql_parser.specs.Code.Views.{placed_of}
use Rattle.sql_trees.specs.Statements.{column_of}
use Rattle.sql_parser.proofs.table_keys.first_lacking.Given as goal

abbrev pub invariant-loop-names : goal.invariant-loop-names
invariant-loop-names l = first_lacking (column_names (map column_of l.columns)) (map placed_of l.names) ≡ first_lacking (column_names (map column_of l.columns)) (map placed_of l.fn.names)

abbrev pub decreases-loop-names : goal.decreases-loop-names
decreases-loop-names l = length l.names

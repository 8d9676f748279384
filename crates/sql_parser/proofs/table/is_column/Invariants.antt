use Rattle.std.proofs.Common.{◌≡◌, length, map}
use Rattle.sql_blocks.specs.Parts.{column_names}
use Rattle.sql_parser.specs.Tables.{has_name}
use Rattle.sql_trees.specs.Statements.{column_of, name_of}
use Rattle.sql_parser.proofs.table.is_column.Given as goal

abbrev pub invariant-loop-columns : goal.invariant-loop-columns
invariant-loop-columns l = has_name (name_of l.name) (column_names (map column_of l.columns)) ≡ has_name (name_of l.name) (column_names (map column_of l.fn.columns))

abbrev pub decreases-loop-columns : goal.decreases-loop-columns
decreases-loop-columns l = length l.columns

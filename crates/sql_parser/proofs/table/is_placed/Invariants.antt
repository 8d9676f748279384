use Rattle.std.proofs.Common.{◌≡◌, length, map}
use Rattle.sql_parser.specs.Tables.{has_name, placed_names}
use Rattle.sql_parser.specs.Code.Views.{placed_of}
use Rattle.sql_trees.specs.Statements.{name_of}
use Rattle.sql_parser.proofs.table.is_placed.Given as goal

abbrev pub invariant-loop-names : goal.invariant-loop-names
invariant-loop-names l = has_name (name_of l.name) (placed_names (map placed_of l.names)) ≡ has_name (name_of l.name) (placed_names (map placed_of l.fn.names))

abbrev pub decreases-loop-names : goal.decreases-loop-names
decreases-loop-names l = length l.names

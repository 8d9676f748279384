use Rattle.std.proofs.Common.{◌≡◌, length, map}
use Rattle.sql_blocks.specs.Parts.{set_columns}
use Rattle.sql_parser.specs.Tables.{has_name}
use Rattle.sql_trees.specs.Statements.{name_of, set_of}
use Rattle.sql_parser.proofs.change.is_set.Given as goal

abbrev pub invariant-loop-sets : goal.invariant-loop-sets
invariant-loop-sets l = has_name (name_of l.name) (set_columns (map set_of l.sets)) ≡ has_name (name_of l.name) (set_columns (map set_of l.fn.sets))

abbrev pub decreases-loop-sets : goal.decreases-loop-sets
decreases-loop-sets l = length l.sets

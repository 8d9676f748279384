use Rattle.std.proofs.Common.{◌≡◌, length, map}
use Rattle.std.specs.Prelude.{◌+◌}
use Rattle.sql_blocks.specs.Parts.{column_names}
use Rattle.sql_parser.specs.Inner.Tables.{place_among}
use Rattle.sql_trees.specs.Statements.{column_of, name_of}
use Rattle.sql_parser.proofs.table_keys.place_in.Given as goal

abbrev pub invariant-loop-columns : goal.invariant-loop-columns
invariant-loop-columns l = record {
  exact : l.place + place_among (column_names (map column_of l.columns)) (name_of l.name) ≡ place_among (column_names (map column_of l.fn.columns)) (name_of l.name);
  within : l.place + length l.columns ≡ length l.fn.columns;
}

abbrev pub decreases-loop-columns : goal.decreases-loop-columns
decreases-loop-columns l = length l.columns

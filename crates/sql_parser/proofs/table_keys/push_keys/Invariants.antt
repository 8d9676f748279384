use Rattle.std.proofs.Common.{◌≡◌, ◌++◌, length, map}
use Rattle.sql_blocks.specs.Parts.{column_names}
use Rattle.sql_parser.specs.Inner.Pieces.{resolved_keys}
use Rattle.sql_parser.specs.Code.Views.{key_text_of}
use Rattle.sql_trees.specs.Statements.{column_of, key_of}
use Rattle.sql_parser.proofs.table_keys.push_keys.Given as goal

abbrev pub invariant-loop-keys : goal.invariant-loop-keys
invariant-loop-keys l = map key_of l.all.items ++ resolved_keys l.primary (column_names (map column_of l.columns)) (map key_text_of l.keys) ≡ map key_of l.fn.all.items ++ resolved_keys l.primary (column_names (map column_of l.columns)) (map key_text_of l.fn.keys)

abbrev pub decreases-loop-keys : goal.decreases-loop-keys
decreases-loop-keys l = length l.keys

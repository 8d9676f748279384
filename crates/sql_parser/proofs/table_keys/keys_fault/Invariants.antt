use Rattle.std.proofs.Common.{◌≡◌, [], length, map}
use Rattle.sql_blocks.specs.Parts.{column_names}
use Rattle.sql_parser.specs.Inner.Tables.{keys_fault}
use Rattle.sql_parser.specs.Code.Views.{key_text_of}
use Rattle.sql_trees.specs.Statements.{column_of, name_of}
use Rattle.sql_parser.proofs.table_keys.keys_fault.Given as goal

abbrev pub invariant-loop-keys : goal.invariant-loop-keys
invariant-loop-keys l = keys_fault (name_of l.table) (column_names (map column_of l.columns)) (map (λ v. v.items) l.made.items) (map key_text_of l.keys) ≡ keys_fault (name_of l.table) (column_names (map column_of l.columns)) [] (map key_text_of l.fn.keys)

abbrev pub decreases-loop-keys : goal.decreases-loop-keys
decreases-loop-keys l = length l.keys

use Rattle.std.proofs.Common.{◌≡◌, length, map}
use Rattle.std.specs.List.{list_any}
use Rattle.std.specs.Prelude.{◌&&◌}
use Rattle.sql_parser.specs.Tables.{has_name, placed_names}
use Rattle.sql_parser.specs.Code.Views.{key_text_of}
use Rattle.sql_trees.specs.Statements.{name_of}
use Rattle.sql_parser.proofs.table_keys.in_primary.Given as goal

abbrev pub invariant-loop-keys : goal.invariant-loop-keys
invariant-loop-keys l = list_any (λ k. k.primary && has_name (name_of l.name) (placed_names k.columns)) (map key_text_of l.keys) ≡ list_any (λ k. k.primary && has_name (name_of l.name) (placed_names k.columns)) (map key_text_of l.fn.keys)

abbrev pub decreases-loop-keys : goal.decreases-loop-keys
decreases-loop-keys l = length l.keys

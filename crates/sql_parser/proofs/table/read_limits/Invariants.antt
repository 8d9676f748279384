use Rattle.std.proofs.Common.{◌≤◌, length, map, false}
use Rattle.sql_parser.specs.Inner.Tables.{constraints_at}
use Rattle.sql_parser.specs.Code.Views.{placed_of, key_text_of}
use Rattle.sql_trees.specs.Tokens.{tok_views}
use Rattle.sql_parser.proofs.Going.{Going}
use Rattle.sql_parser.proofs.table.read_limits.Given as goal

abbrev pub invariant-loop-parser : goal.invariant-loop-parser
invariant-loop-parser l = record {
  going : Going l.parser.text_len (placed_of l.column) (record { not_null = l.not_null; keys = map key_text_of l.keys.items }) (tok_views l.rest) (constraints_at l.parser.text_len (placed_of l.column) (length (tok_views l.initial.rest)) (record { not_null = false; keys = map key_text_of l.fn.keys.items }) (tok_views l.initial.rest));
  shorter : length l.rest ≤ length l.fn.tokens;
}

abbrev pub decreases-loop-parser : goal.decreases-loop-parser
decreases-loop-parser l = length l.rest

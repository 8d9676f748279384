use Rattle.std.proofs.Common.{◌≡◌, length}
use Rattle.std.specs.Prelude.{◌+◌}
use Rattle.sql_parser.specs.Inner.Pieces.{piece_len}
use Rattle.sql_trees.specs.Tokens.{tok_views}
use Rattle.sql_parser.proofs.block.piece_len.Given as goal

abbrev pub invariant-loop-tokens : goal.invariant-loop-tokens
invariant-loop-tokens l = record {
  exact : l.n + piece_len (tok_views l.tokens) ≡ piece_len (tok_views l.fn.tokens);
  within : l.n + length l.tokens ≡ length l.fn.tokens;
}

abbrev pub decreases-loop-tokens : goal.decreases-loop-tokens
decreases-loop-tokens l = length l.tokens

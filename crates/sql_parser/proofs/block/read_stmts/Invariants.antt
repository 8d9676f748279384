use Rattle.std.proofs.Common.{◌≡◌, ◌≤◌, length, map}
use Rattle.std.proofs.Common.{vec_len}
use Rattle.iso_lexer.specs.declared.limits.TheConstants.{MAX_STMTS}
use Rattle.sql_parser.specs.Inner.Blocks.{block_at}
use Rattle.sql_parser.specs.Inner.Pieces.{block_from}
use Rattle.sql_trees.specs.Statements.{stmt_of}
use Rattle.sql_trees.specs.Tokens.{tok_views}
use Rattle.sql_parser.proofs.block.read_stmts.Given as goal

abbrev pub invariant-loop-piece : goal.invariant-loop-piece
invariant-loop-piece l = record {
  same : block_from l.parser.text_len l.role (map stmt_of l.stmts.items) (tok_views l.rest) ≡ block_at l.parser.text_len l.role (tok_views l.fn.tokens);
  shorter : length l.rest ≤ length l.fn.tokens;
  few : vec_len l.stmts ≤ MAX_STMTS;
}

abbrev pub decreases-loop-piece : goal.decreases-loop-piece
decreases-loop-piece l = length l.rest

use Rattle.std.proofs.Common.{arith}
use Rattle.std.proofs.lemmas.List.{length-map}
use Rattle.sql_trees.specs.Tokens.{tok_at}
use Rattle.sql_parser.proofs.BlocksKept.{block_kept}
use Rattle.sql_parser.proofs.block.parse_tokens.Goals as goal

pub new-requires-clause-few : goal.new-requires-clause-few
new-requires-clause-few c = c.in_ok-stmts.ensures.few

pub new-requires-clause-kept : goal.new-requires-clause-kept
new-requires-clause-kept c = block_kept _ _ _ _ c.in_ok-stmts.ensures.exact (omega (arith, c.requires, length-map c.args.tokens.now tok_at))

use Rattle.std.proofs.Common.{◌≡◌, take, map}
use Rattle.iso_lexer.specs.SqlTokens.{sql_at_views}
use Rattle.sql_trees.specs.Tokens.{classify_at, tok_views}
use Rattle.sql_trees.proofs.token.classified.Given as goal

abbrev pub invariant-loop-token : goal.invariant-loop-token
invariant-loop-token l = tok_views l.all.items ≡ map classify_at (sql_at_views (take l.token-index l.tokens))

use Rattle.std.proofs.Common.{rules}
use Rattle.iso_lexer.proofs.SqlRules.{sql_rules}
use Rattle.iso_lexer.proofs.sql_text.sql_tokens.Goals as goal

pub tokens-requires : goal.tokens-requires
tokens-requires c = search (rules, sql_rules)

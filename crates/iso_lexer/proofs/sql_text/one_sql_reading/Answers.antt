use Rattle.std.proofs.Common.{length}
use Rattle.iso_lexer.specs.SqlText.{sql_front}
use Rattle.iso_lexer.proofs.Lexing.{one_reading}
use Rattle.iso_lexer.proofs.SqlRules.{sql_rules}
use Rattle.iso_lexer.proofs.sql_text.one_sql_reading.Goals as goal

pub returns : goal.returns
returns c = λ text x y. one_reading sql_front (length text) text x y sql_rules.nothing

use Rattle.std.specs.Prelude.{false}
use Rattle.iso_lexer.specs.SqlTokens.{string}
use Rattle.iso_lexer.specs.Inner.Quotes.{quoted_from}
use Rattle.iso_lexer.specs.declared.fault.FaultKind.TheVariants.{UnterminatedString}
use Rattle.iso_lexer.proofs.QuoteEnds.{made_of_quoted}
use Rattle.iso_lexer.proofs.sql_front.string_front.Goals as goal

pub returns-in-Gap : goal.returns-in-Gap
returns-in-Gap c = made_of_quoted string UnterminatedString (quoted_from 39 false false c.args.text.now) c.args.text.now _ c.in-Gap.ensures

pub returns-in-Token : goal.returns-in-Token
returns-in-Token c = made_of_quoted string UnterminatedString (quoted_from 39 false false c.args.text.now) c.args.text.now _ c.in-Token.ensures

pub returns-in-Fault : goal.returns-in-Fault
returns-in-Fault c = made_of_quoted string UnterminatedString (quoted_from 39 false false c.args.text.now) c.args.text.now _ c.in-Fault.ensures

use Rattle.std.specs.Prelude.{false, true}
use Rattle.iso_lexer.specs.Names.{quoted}
use Rattle.iso_lexer.specs.SpecTokens.{name}
use Rattle.iso_lexer.specs.Inner.Quotes.{quoted_from}
use Rattle.iso_lexer.specs.declared.fault.FaultKind.TheVariants.{UnterminatedName}
use Rattle.iso_lexer.proofs.QuoteEnds.{made_of_quoted}
use Rattle.iso_lexer.proofs.front.name_front.Goals as goal

pub returns-in-Gap : goal.returns-in-Gap
returns-in-Gap c = made_of_quoted (λ s. name (quoted s)) UnterminatedName (quoted_from 34 true false c.args.text.now) c.args.text.now _ c.in-Gap.ensures

pub returns-in-Token : goal.returns-in-Token
returns-in-Token c = made_of_quoted (λ s. name (quoted s)) UnterminatedName (quoted_from 34 true false c.args.text.now) c.args.text.now _ c.in-Token.ensures

pub returns-in-Fault : goal.returns-in-Fault
returns-in-Fault c = made_of_quoted (λ s. name (quoted s)) UnterminatedName (quoted_from 34 true false c.args.text.now) c.args.text.now _ c.in-Fault.ensures

use Rattle.iso_lexer.proofs.SpecRules.{one_lexing}
use Rattle.iso_lexer.proofs.spec_text.one_reading.Goals as goal

pub returns : goal.returns
returns c = one_lexing

use Rattle.iso_lexer.proofs.Closings.{computed_quotes}
use Rattle.iso_lexer.proofs.quoted.quotes_go_on.Goals as goal

pub returns : goal.returns
returns c = computed_quotes

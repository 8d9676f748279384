use Rattle.iso_lexer.proofs.TokenCount.{few_tokens}
use Rattle.iso_lexer.proofs.spec_text.tokens_are_few.Goals as goal

pub returns : goal.returns
returns c = few_tokens

use Rattle.iso_lexer.proofs.SpecSlices.{are_slices}
use Rattle.iso_lexer.proofs.spec_text.tokens_are_slices.Goals as goal

pub returns : goal.returns
returns c = are_slices

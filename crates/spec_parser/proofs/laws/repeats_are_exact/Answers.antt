use Rattle.spec_parser.proofs.Exact.{reads_are_repeats, repeats_are_read}
use Rattle.spec_parser.proofs.laws.repeats_are_exact.Goals as goal

pub returns : goal.returns
returns c = λ text at. (reads_are_repeats text at, repeats_are_read text at)

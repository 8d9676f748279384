use Rattle.spec_parser.proofs.Exact.{reads_are_specs, specs_are_read}
use Rattle.spec_parser.proofs.laws.specs_are_exact.Goals as goal

pub returns : goal.returns
returns c = λ text s. (reads_are_specs text s, specs_are_read text s)

use Rattle.spec_parser.proofs.Exact.{reads_are_specs}
use Rattle.spec_parser.proofs.Standing.{specs_stand}
use Rattle.spec_parser.proofs.laws.specs_stand.Goals as goal

pub returns : goal.returns
returns c = λ text s h. specs_stand text s (reads_are_specs text s h)

use Rattle.spec_parser.proofs.Exact.{files_in}
use Rattle.spec_parser.proofs.laws.files_are_read.Goals as goal

pub returns : goal.returns
returns c = files_in

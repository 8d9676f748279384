use Rattle.spec_parser.proofs.Exact.{reads_in}
use Rattle.spec_parser.proofs.laws.reads_are_files.Goals as goal

pub returns : goal.returns
returns c = reads_in

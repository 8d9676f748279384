use Rattle.spec_parser.proofs.Exact.{faults_first, stops_are_first}
use Rattle.spec_parser.proofs.laws.faults_are_first.Goals as goal

pub returns : goal.returns
returns c = record { tokens = faults_first; texts = stops_are_first }

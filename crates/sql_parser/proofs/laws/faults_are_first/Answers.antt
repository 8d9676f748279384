use Rattle.sql_parser.proofs.FirstFaults.{faults_are_first}
use Rattle.sql_parser.proofs.laws.faults_are_first.Goals as goal

pub returns : goal.returns
returns c = faults_are_first

use Rattle.sql_parser.proofs.BlockFaults.{block_faults_are_first}
use Rattle.sql_parser.proofs.laws.block_faults_are_first.Goals as goal

pub returns : goal.returns
returns c = block_faults_are_first

use Rattle.sql_expressions.proofs.FirstFaults.{refusals_are_first}
use Rattle.sql_expressions.proofs.laws.faults_are_first.Goals as goal

pub returns : goal.returns
returns c = refusals_are_first

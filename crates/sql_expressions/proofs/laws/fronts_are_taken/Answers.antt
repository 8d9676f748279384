use Rattle.sql_expressions.proofs.FirstFaults.{fronts_are_taken}
use Rattle.sql_expressions.proofs.laws.fronts_are_taken.Goals as goal

pub returns : goal.returns
returns c = fronts_are_taken

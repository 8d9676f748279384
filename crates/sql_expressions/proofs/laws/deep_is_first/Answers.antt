use Rattle.sql_expressions.proofs.FirstFaults.{deep_is_first}
use Rattle.sql_expressions.proofs.laws.deep_is_first.Goals as goal

pub returns : goal.returns
returns c = deep_is_first

use Rattle.sql_expressions.proofs.FirstFaults.{expressions_are_read}
use Rattle.sql_expressions.proofs.laws.expressions_are_read.Goals as goal

pub returns : goal.returns
returns c = expressions_are_read

use Rattle.std.proofs.Common.{arith}
use Rattle.std.proofs.lemmas.Grind.{common_steps}
use Rattle.result_tables.proofs.ColumnLemmas.{columns_more, length-columns_of}
use Rattle.result_tables.proofs.column.measured_columns.Goals as goal

pub loop-k-preserved : goal.loop-k-preserved
loop-k-preserved c = grind (arith, common_steps, columns_more)

pub returns : goal.returns
returns c = let l = length-columns_of c.args.set.now in grind (arith, common_steps)

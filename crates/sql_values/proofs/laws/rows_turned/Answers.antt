use Rattle.sql_values.proofs.Orders.{row_total}
use Rattle.sql_values.proofs.laws.rows_turned.Goals as goal

pub returns : goal.returns
returns c = λ by a b. let order = row_total 0 by in order.antisymm b a

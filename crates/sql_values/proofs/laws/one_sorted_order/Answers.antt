use Rattle.sql_values.proofs.OneOrder.{one_order as law}
use Rattle.sql_values.proofs.laws.one_sorted_order.Goals as goal

pub returns : goal.returns
returns c = law

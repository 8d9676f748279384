use Rattle.wait_laws.proofs.Ending.{transactions_end_themselves}
use Rattle.wait_laws.proofs.laws.transactions_end_themselves.Goals as goal

pub returns : goal.returns
returns c = transactions_end_themselves

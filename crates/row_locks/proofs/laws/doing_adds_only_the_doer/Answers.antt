use Rattle.row_locks.proofs.Holding.{only_the_doer}
use Rattle.row_locks.proofs.laws.doing_adds_only_the_doer.Goals as goal

pub returns : goal.returns
returns c = only_the_doer

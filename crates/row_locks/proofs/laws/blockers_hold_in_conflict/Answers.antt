use Rattle.row_locks.proofs.Holding.{blockers_hold}
use Rattle.row_locks.proofs.laws.blockers_hold_in_conflict.Goals as goal

pub returns : goal.returns
returns c = blockers_hold

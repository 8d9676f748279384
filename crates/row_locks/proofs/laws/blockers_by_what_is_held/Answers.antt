use Rattle.row_locks.proofs.Holding.{by_what_is_held}
use Rattle.row_locks.proofs.laws.blockers_by_what_is_held.Goals as goal

pub returns : goal.returns
returns c = by_what_is_held

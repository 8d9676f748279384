use Rattle.row_locks.proofs.Holding.{locks_held}
use Rattle.row_locks.proofs.laws.locks_are_held.Goals as goal

pub returns : goal.returns
returns c = locks_held

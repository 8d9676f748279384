use Rattle.wait_laws.proofs.Deadlocks.{deadlock_is_exact}
use Rattle.wait_laws.proofs.laws.deadlock_is_exact.Goals as goal

pub returns : goal.returns
returns c = deadlock_is_exact

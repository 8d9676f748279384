use Rattle.wait_laws.proofs.Told.{deadlock_is_answered}
use Rattle.wait_laws.proofs.laws.deadlock_is_answered.Goals as goal

pub returns : goal.returns
returns c = deadlock_is_answered

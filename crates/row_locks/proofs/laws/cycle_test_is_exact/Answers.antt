use Rattle.row_locks.proofs.Waiting.{closes_says}
use Rattle.row_locks.proofs.laws.cycle_test_is_exact.Goals as goal

pub returns : goal.returns
returns c = closes_says

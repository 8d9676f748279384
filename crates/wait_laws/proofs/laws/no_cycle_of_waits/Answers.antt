use Rattle.wait_laws.proofs.Cycles.{no_cycle_of_waits}
use Rattle.wait_laws.proofs.laws.no_cycle_of_waits.Goals as goal

pub returns : goal.returns
returns c = no_cycle_of_waits

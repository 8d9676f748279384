use Rattle.wait_laws.proofs.Mending.{blockers_stay_to_their_end}
use Rattle.wait_laws.proofs.laws.blockers_stay_to_their_end.Goals as goal

pub returns : goal.returns
returns c = blockers_stay_to_their_end

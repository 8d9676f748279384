use Rattle.update_recheck.proofs.Stopping.{same_outcomes}
use Rattle.update_recheck.proofs.laws.outcomes_by_what_is_held.Goals as goal

pub returns : goal.returns
returns c = same_outcomes

use Rattle.update_recheck.proofs.Stopping.{waits_matter}
use Rattle.update_recheck.proofs.laws.waits_matter_to_the_blocked.Goals as goal

pub returns : goal.returns
returns c = waits_matter

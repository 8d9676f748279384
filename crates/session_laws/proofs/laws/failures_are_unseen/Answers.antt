use Rattle.session_laws.proofs.Unseen.{failures_are_unseen}
use Rattle.session_laws.proofs.laws.failures_are_unseen.Goals as goal

pub returns : goal.returns
returns c = failures_are_unseen

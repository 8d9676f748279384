use Rattle.session_laws.proofs.Unseen.{snapshots_stay}
use Rattle.session_laws.proofs.laws.snapshots_stay.Goals as goal

pub returns : goal.returns
returns c = snapshots_stay

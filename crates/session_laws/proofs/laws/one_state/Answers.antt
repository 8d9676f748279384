use Rattle.session_laws.proofs.Replaying.{one_run}
use Rattle.session_laws.proofs.laws.one_state.Goals as goal

pub returns : goal.returns
returns c = one_run

use Rattle.session_laws.proofs.Working.{worked_states}
use Rattle.session_laws.proofs.laws.worked_states.Goals as goal

pub returns : goal.returns
returns c = worked_states

use Rattle.session_laws.proofs.Working.{worked}
use Rattle.session_laws.proofs.laws.worked_history.Goals as goal

pub returns : goal.returns
returns c = worked

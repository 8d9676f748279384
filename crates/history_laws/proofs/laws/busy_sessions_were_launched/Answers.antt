use Rattle.history_laws.proofs.Busy.{busy_sessions_were_launched}
use Rattle.history_laws.proofs.laws.busy_sessions_were_launched.Goals as goal

pub returns : goal.returns
returns c = busy_sessions_were_launched

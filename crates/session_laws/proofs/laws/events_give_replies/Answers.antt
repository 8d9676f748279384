use Rattle.session_machine.specs.Machine.{opening}
use Rattle.session_laws.proofs.Replaying.{same_events}
use Rattle.session_laws.proofs.laws.events_give_replies.Goals as goal

pub returns : goal.returns
returns c = λ blocks count mode items others h k e. same_events blocks mode (opening count) items others h.0 k.0 h.1 k.1 e

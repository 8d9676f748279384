use Rattle.session_laws.proofs.Positive.{own_writes_are_seen}
use Rattle.session_laws.proofs.laws.own_writes_are_seen.Goals as goal

pub returns : goal.returns
returns c = own_writes_are_seen

use Rattle.wait_laws.proofs.Alone.{writes_are_held}
use Rattle.wait_laws.proofs.laws.writes_are_held.Goals as goal

pub returns : goal.returns
returns c = writes_are_held

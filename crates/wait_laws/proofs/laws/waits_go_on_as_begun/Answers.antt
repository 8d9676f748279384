use Rattle.wait_laws.proofs.Begun.{waits_go_on_as_begun}
use Rattle.wait_laws.proofs.laws.waits_go_on_as_begun.Goals as goal

pub returns : goal.returns
returns c = waits_go_on_as_begun

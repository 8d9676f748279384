use Rattle.wait_laws.proofs.Rest.{rest_is_reached}
use Rattle.wait_laws.proofs.laws.rest_is_reached.Goals as goal

pub returns : goal.returns
returns c = rest_is_reached

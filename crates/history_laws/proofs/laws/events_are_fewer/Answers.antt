use Rattle.history_laws.proofs.Fewer.{events_are_fewer}
use Rattle.history_laws.proofs.laws.events_are_fewer.Goals as goal

pub returns : goal.returns
returns c = events_are_fewer c.rest_is_reached.ensures

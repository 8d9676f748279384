use Rattle.history_laws.proofs.Existing.{has_history}
use Rattle.history_laws.proofs.laws.regular_histories_are_there.Goals as goal

pub returns : goal.returns
returns c = λ spec blocks entries fit steps. has_history c.rest_is_reached.ensures spec blocks entries (c.next_orders_are_done.ensures spec blocks entries fit steps)

use Rattle.history_laws.proofs.Accepted.{accepts}
use Rattle.history_laws.proofs.laws.next_orders_are_done.Goals as goal

pub returns : goal.returns
returns c = λ spec blocks entries fit steps items m way. accepts c.busy_sessions_were_launched.ensures spec blocks entries fit steps items m way

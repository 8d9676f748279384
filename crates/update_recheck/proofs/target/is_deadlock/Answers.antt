use Rattle.row_locks.proofs.Waiting.{closes_is}
use Rattle.update_recheck.proofs.target.is_deadlock.Goals as goal

pub returns : goal.returns
returns c = λ others each. closes_is c.args.waits.now c.args.tx c.args.found.now.items others c.in_ok-fails.fails each (rw c.deref.ensures at c.in_ok-fails.ensures.cycle)

use Rattle.row_locks.proofs.Waiting.{walk_ends}
use Rattle.row_locks.proofs.laws.waits_lead_to_an_end.Goals as goal

pub returns : goal.returns
returns c = walk_ends

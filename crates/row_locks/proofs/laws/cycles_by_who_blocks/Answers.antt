use Rattle.row_locks.proofs.Pairs.{by_who_blocks}
use Rattle.row_locks.proofs.laws.cycles_by_who_blocks.Goals as goal

pub returns : goal.returns
returns c = by_who_blocks

use Rattle.row_locks.proofs.Holding.{conflicts_both_ways}
use Rattle.row_locks.proofs.laws.conflicts_go_both_ways.Goals as goal

pub returns : goal.returns
returns c = conflicts_both_ways

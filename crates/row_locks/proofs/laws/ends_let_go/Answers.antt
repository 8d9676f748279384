use Rattle.row_locks.proofs.Holding.{ends_let_go}
use Rattle.row_locks.proofs.laws.ends_let_go.Goals as goal

pub returns : goal.returns
returns c = ends_let_go

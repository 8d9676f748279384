-- Whom a session's wait adds.
use Rattle.std.specs.Prelude.{Bool, false, ◌&&◌, Option, Some, None}
use Rattle.row_versions.specs.declared.names.TxId.{TxId}
use Rattle.row_versions.specs.Members.{has, same_tx}
use Rattle.row_locks.specs.Waiting.{Waiting}

-- this wait is the first's, and the second is one of its blockers
abbrev pub stands_in_way_of : Option Waiting → TxId → TxId → Bool
stands_in_way_of None a b = false
stands_in_way_of (Some w) a b = same_tx w.tx a && has w.blockers b

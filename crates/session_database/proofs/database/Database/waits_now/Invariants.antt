use Rattle.std.proofs.Common.{◌≡◌, ◌||◌, drop}
use Rattle.row_versions.specs.declared.names.TxId.{TxId}
use Rattle.row_locks.specs.Cycles.{blocks}
use Rattle.session_machine.specs.Waits.{waits_in}
use Rattle.session_database.proofs.database.Database.waits_now.Given as goal

-- who blocks whom among the waits so far, or among those of the rest
abbrev pub invariant-loop-session : goal.invariant-loop-session
invariant-loop-session g l = (a b : TxId) → (blocks l.waits a b || blocks (waits_in l.self (drop l.session-index l.around.sessions)) a b) ≡ blocks (waits_in l.self l.around.sessions) a b

-- To be believed. Who waits for whom, in the present state (PostgreSQL manual, 13.3.2, and 5.5.3 of keys).
use Rattle.std.specs.Prelude.{Bool, false, not, List, Option, None, option_map, filter_map}
use Rattle.std.specs.Option.{option_map_or}
use Rattle.row_versions.specs.declared.names.TxId.{TxId}
use Rattle.row_versions.specs.Members.{is_none_of}
use Rattle.row_locks.specs.Held.{holders_against}
use Rattle.row_locks.specs.Waiting.{Waiting}
use Rattle.unique_keys.specs.Checks.{key_blockers}
use Rattle.session_machine.specs.declared.session.Request.{Request}
use Rattle.session_machine.specs.declared.session.Request.TheVariants.{Row, Key}
use Rattle.session_machine.specs.declared.session.Waiting.{Waiting as Wait}
use Rattle.session_machine.specs.declared.session.Transaction.TheVariants.{Open}
use Rattle.session_machine.specs.declared.session.Progress.{Progress}
use Rattle.session_machine.specs.declared.session.Session.{Session}
use Rattle.session_machine.specs.Tables.{Database}

-- the transactions that stand in the way of a request: the others that hold the row in conflict, or those that may yet come to have the key, or cease to
abbrev pub blockers : Database → Request → TxId → List TxId
blockers db (Row row strength) tx = holders_against db.held row tx strength
blockers db (Key asked) tx = key_blockers db.content asked.table tx asked.values asked.columns

abbrev pub is_blocked : Database → Request → TxId → Bool
is_blocked db request tx = not (is_none_of (blockers db request tx))

-- what a session waits for, if it waits
abbrev pub wait_of : Session → Option Wait
wait_of s = option_map (λ (p : Progress). p.wait) s.statement

-- the session's transaction, with those that it waits for, if it waits
abbrev pub waiting_in : Database → Session → Option Waiting
waiting_in db s = elim s.transaction [ Open t ↦ option_map (λ (w : Wait). record { tx = t.tx; blockers = blockers db w.request t.tx }) (wait_of s) | other ↦ None ]

-- the session waits, and what it asked for is still held against it
abbrev pub is_still_blocked : Database → Session → Bool
is_still_blocked db s = option_map_or (λ (w : Waiting). not (is_none_of w.blockers)) (waiting_in db s) false

-- all that wait, each with its blockers now
abbrev pub waits_in : Database → List Session → List Waiting
waits_in db sessions = filter_map (waiting_in db) sessions

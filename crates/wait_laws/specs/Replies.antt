-- Which replies say `deadlock detected`, and which that the session waits: by what its statement asks for (PostgreSQL manual, 13.3.2 and 13.3.4, and 5.5.3 of keys).
use Rattle.std.specs.Prelude.{◌≡◌, ◌≢◌, ◌↔◌, ◌⊎◌, ℕ, List, [], ◌∷◌, ◌++◌, length, drop, Option, Some, None, option_map, unwrap_or, slice_get, slice_set, Result, Ok, IsTrue, false}
use Rattle.std.specs.Result.{result_unwrap_or}
use Rattle.sql_trees.specs.declared.stmt.Lock.{Lock}
use Rattle.sql_trees.specs.Trees.{Tree}
use Rattle.sql_trees.specs.Statements.{KeyTree, StmtTree, UpdateTree, Inserts, Updates, Deletes, Selects}
use Rattle.sql_values.specs.declared.value.Value.{Value}
use Rattle.sql_values.specs.declared.fault.ValueFault.{ValueFault}
use Rattle.query_results.specs.Queries.{columns_assigned, new_values, null_in}
use Rattle.query_results.specs.Updates.{columns_set, updated}
use Rattle.row_versions.specs.declared.names.TxId.{TxId}
use Rattle.row_versions.specs.declared.names.RowId.{RowId}
use Rattle.row_versions.specs.declared.write.Seen.{Seen}
use Rattle.sql_trees.specs.declared.stmt.Policy.TheVariants.{Wait}
use Rattle.row_locks.specs.Held.{with_lock}
use Rattle.row_locks.specs.Cycles.{blocks, Closes}
use Rattle.update_recheck.specs.Outcome.{newest_version, target_outcome}
use Rattle.update_recheck.specs.Outcome.Outcome.{Takes}
use Rattle.update_recheck.specs.Settling.{lock_of}
use Rattle.session_machine.specs.declared.session.OpenTransaction.{OpenTransaction}
use Rattle.session_machine.specs.declared.session.Progress.{Progress}
use Rattle.session_machine.specs.declared.session.Request.{Request}
use Rattle.session_machine.specs.declared.session.Request.TheVariants.{Row, Key}
use Rattle.session_machine.specs.declared.session.Session.{Session}
use Rattle.session_machine.specs.declared.session.Transaction.{Transaction}
use Rattle.session_machine.specs.declared.session.Transaction.TheVariants.{Open, Aborted}
use Rattle.session_machine.specs.declared.event.Event.{Event}
use Rattle.session_machine.specs.declared.event.Event.TheVariants.{Step}
use Rattle.session_machine.specs.declared.event.Mode.{Mode}
use Rattle.session_machine.specs.declared.fault.StmtFault.TheVariants.{Deadlock}
use Rattle.session_machine.specs.declared.reply.Outcome.{Outcome}
use Rattle.session_machine.specs.declared.reply.Outcome.TheVariants.{Failed, Waits}
use Rattle.session_machine.specs.declared.reply.HistItem.{HistItem}
use Rattle.session_machine.specs.Tables.{Database, Table, find_table}
use Rattle.session_machine.specs.Transactions.{view_of}
use Rattle.session_machine.specs.Waits.{blockers, waits_in}
use Rattle.session_machine.specs.Statements.{Surroundings}
use Rattle.session_machine.specs.Walks.{Walk}
use Rattle.session_machine.specs.Rows.{Work, columns_in, cols_in, values_of, insert_row, policy_of, strength_at, table_named, target_asked, visit_target}
use Rattle.session_machine.specs.Running.{fault_in}
use Rattle.session_machine.specs.Targets.{asked_key, going_on, passing_targets, taken_targets}
use Rattle.session_machine.specs.Machine.{Machine, Blocks, Next, next, opening, Run}
use Rattle.session_machine.specs.Engine.{IsLegal}
use Rattle.wait_laws.specs.Laws.{database_at, has_another, is_worth_a_wait, key_holders, stmt_at, transaction_at}

-- a statement comes to a target, the walk before which is given, where nothing stops it at those before
abbrev pub ComesTo : {A : Type 0} → (Walk → A → Walk) → Walk → List A → Walk → A → Type 0
ComesTo visit walk [] before target = ⊥
ComesTo visit walk (first ∷ others) before target =
    ((before ≡ walk) × (target ≡ first)) ⊎ (((visit walk first).stop ≡ None) × ComesTo visit (visit walk first) others before target)

-- it asks for a key of a row that it is about to write, where nobody holds the keys before it and no other row has them
abbrev pub AsksForKeyOf : Database → Work → List Value → Option RowId → List KeyTree → Request → Type 0
AsksForKeyOf db w values except [] request = ⊥
AsksForKeyOf db w values except (key ∷ keys) request =
    (request ≡ Key (asked_key w values key))
    ⊎ ((key_holders db w values key ≡ []) × (has_another db w values except key ≡ false) × AsksForKeyOf db w values except keys request)

-- the keys of its table, in declared order
abbrev pub keys_of : Database → Work → List KeyTree
keys_of db w = unwrap_or (option_map (λ (t : Table). t.made.keys) (slice_get db.catalog.tables w.table)) []

-- the keys of its table are asked for once the row has values, and no NULL where none may be
abbrev pub AsksForKey : Database → Work → Option RowId → Result (List Value) ValueFault → Request → Type 0
AsksForKey db w except made request =
    (values : List Value) × (made ≡ Ok values) × (null_in (columns_in db w) values ≡ None) × AsksForKeyOf db w values except (keys_of db w) request

-- the database once the target is locked
abbrev pub with_target : Database → Work → StmtTree → Seen → Database
with_target db w stmt seen = record db { held = with_lock db.held (lock_of (target_asked db w stmt seen)) }

-- at a target the row is asked for, where that is worth a wait, and the statement waits for others
abbrev pub AsksForRow : Database → Work → StmtTree → Seen → Request → Type 0
AsksForRow db w stmt seen request =
    (request ≡ Row seen.row (strength_at db w stmt seen.row)) × (policy_of stmt ≡ Wait)
    × IsTrue (is_worth_a_wait w.t.level (newest_version db.content (target_asked db w stmt seen)))

-- an UPDATE then asks for the keys of the version that it writes in place of the one that the target takes
abbrev pub AsksToUpdate : Database → Work → UpdateTree → Seen → Request → Type 0
AsksToUpdate db w u version request =
    AsksForKey db w (Some version.row) (updated (cols_in db w) (result_unwrap_or (columns_set (columns_in db w) u.sets) []) u.sets (values_of db version)) request

-- at a target that a statement comes to it asks for the row, and an UPDATE, once that is locked, for keys: this, with the database as it is then
abbrev pub AsksAtTarget : Work → StmtTree → Database → Seen → Database → Request → Type 0
AsksAtTarget w stmt before seen db request =
    ((db ≡ before) × AsksForRow before w stmt seen request)
    ⊎ ((u : UpdateTree) × (stmt ≡ Updates u) × (version : Seen)
    × (target_outcome before.content before.held (waits_in before w.around.sessions) (target_asked before w stmt seen) ≡ Takes version)
    × (db ≡ with_target before w stmt seen) × AsksToUpdate db w u version request)

-- so it does at each of its targets, up to the one at which it stops
abbrev pub AsksOverTargets : Work → StmtTree → Walk → Result (List Seen) ValueFault → Database → Request → Type 0
AsksOverTargets w stmt walk targets db request =
    (seen : List Seen) × (targets ≡ Ok seen) × (before : Walk) × (target : Seen)
    × ComesTo (visit_target w stmt) walk (drop walk.place seen) before target × AsksAtTarget w stmt before.db target db request

-- INSERT asks for keys at each row of its VALUES, a SELECT that doesn't lock for nothing
abbrev pub AsksOver : Work → StmtTree → Walk → Database → Request → Type 0
AsksOver w (Inserts i) walk db request =
    (before : Walk) × (row : List Tree) × ComesTo (insert_row w i) walk (drop walk.place i.rows) before row × (db ≡ before.db)
    × AsksForKey db w None (new_values (length (columns_in db w)) (result_unwrap_or (columns_assigned (columns_in db w) i.columns) []) row) request
AsksOver w (Updates u) walk db request = AsksOverTargets w (Updates u) walk (passing_targets walk.db w u.filter) db request
AsksOver w (Deletes d) walk db request = AsksOverTargets w (Deletes d) walk (passing_targets walk.db w d.filter) db request
AsksOver w (Selects s) walk db request = (l : Lock) × (s.lock ≡ Some l) × AsksOverTargets w (Selects s) walk (taken_targets walk.db w s) db request
AsksOver w stmt walk db request = ⊥

-- where a statement begins, or goes on
abbrev pub walk_from : Database → ℕ → List (List Value) → Walk
walk_from db place rows = record { db = db; place = place; rows = rows; stop = None }

-- a statement that begins asks where its name means a table, and nothing is wrong with it there
abbrev pub AsksFromStart : Database → OpenTransaction → Surroundings → StmtTree → Database → Request → Type 0
AsksFromStart db t around stmt at request =
    (name : List ℕ) × (k : ℕ) × (table_named stmt ≡ Some name) × (find_table db (Some t.tx) name ≡ Some k)
    × (let w : Work = record { t = t; table = k; view = view_of db.content t; around = around } in
    (fault_in (columns_in db w) stmt ≡ None) × AsksOver w stmt (walk_from db 0 []) at request)

-- a statement in its session's transaction, or in one that begins with it; in an aborted one it asks for nothing
abbrev pub Asks : Database → Transaction → Option Progress → Surroundings → StmtTree → Database → Request → Type 0
Asks db Aborted statement around stmt at request = ⊥
Asks db (Open t) (Some p) around stmt at request = AsksOver (going_on t around p) stmt (walk_from db p.place p.rows) at request
Asks db transaction statement around stmt at request = AsksFromStart (database_at db transaction) (transaction_at db.content transaction) around stmt at request

-- what a statement finds around it: while it runs, its session doesn't wait
abbrev pub surroundings : Machine → ℕ → Session → Surroundings
surroundings m k s = record { sessions = slice_set m.sessions k (record s { statement = None }); number = m.events }

-- what is asked for in an event: it is a step, and the statement at which the session stands asks for it, with the database as it is then
pub record AskedIn (given : Blocks) (m : Machine) (event : Event) : Type 0 where
  pub session : ℕ
  pub its : event ≡ Step session
  pub state : Session
  pub there : slice_get m.sessions session ≡ Some state
  pub stmt : StmtTree
  pub tree : stmt_at given state.place ≡ Some stmt
  pub db : Database
  pub request : Request
  pub asks : Asks m.db state.transaction state.statement (surroundings m session state) stmt db request

-- who asks
abbrev pub asking : (given : Blocks) (m : Machine) (event : Event) → AskedIn given m event → TxId
asking given m event a = (transaction_at m.db.content a.state.transaction).tx

-- who stands in the way
abbrev pub in_the_way : (given : Blocks) (m : Machine) (event : Event) → AskedIn given m event → List TxId
in_the_way given m event a = blockers a.db a.request (asking given m event a)

-- a wait for them would close a cycle, by who waits for whom then
abbrev pub WouldClose : (given : Blocks) (m : Machine) (event : Event) → AskedIn given m event → Type 0
WouldClose given m event a = Closes (blocks (waits_in a.db (surroundings m a.session a.state).sessions)) (asking given m event a) (in_the_way given m event a)

-- the reply is `deadlock detected` exactly where something is asked for of which a wait would close a cycle, and a wait exactly where something is
-- asked for that others hold, and a wait closes none
pub record IsAnsweredSo (given : Blocks) (m : Machine) (event : Event) (outcome : Outcome) : Type 0 where
  pub deadlock : (outcome ≡ Failed Deadlock) ↔ ((a : AskedIn given m event) × WouldClose given m event a)
  pub waits : (outcome ≡ Waits) ↔ ((a : AskedIn given m event) × (in_the_way given m event a ≢ []) × ¬ WouldClose given m event a)

-- so is each event answered that isn't refused; and so each item of a legal history, in the state to which those before it lead
pub record DeadlockIsAnswered : Type 0 where
  pub next : (given : Blocks) (mode : Mode) (m : Machine) (event : Event) (n : Next) → next given mode m event ≡ Ok n → IsAnsweredSo given m event n.reply.outcome
  pub told : (given : Blocks) (mode : Mode) (count : ℕ) (before : List HistItem) (item : HistItem) (later : List HistItem)
      → IsLegal given count mode (before ++ item ∷ later)
      → (m : Machine) × Run given mode (opening count) before m × IsAnsweredSo given m item.event item.reply.outcome

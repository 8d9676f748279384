-- What holds of waits in every state that the machine comes to (PostgreSQL manual, 13.3.2 and 13.3.4). Each law stands on the contract of a function of `laws`.
use Rattle.std.specs.Prelude.{◌≡◌, ◌≢◌, ◌↔◌, ◌⊎◌, ℕ, ◌+◌, ◌-◌, ◌*◌, ◌<◌, ◌≤◌, Bool, true, false, not, ◌&&◌, List, [], ◌∷◌, ◌++◌, length, count_by, sum_by, Option, Some, None, option_and_then, is_some, slice_get, Ok, IsTrue}
use Rattle.sql_trees.specs.declared.stmt.Level.{Level}
use Rattle.sql_trees.specs.declared.stmt.Level.TheVariants.{ReadCommitted, RepeatableRead}
use Rattle.sql_trees.specs.declared.stmt.Lock.{Lock}
use Rattle.sql_trees.specs.Trees.{Tree}
use Rattle.sql_trees.specs.Statements.{DeleteTree, InsertTree, KeyTree, SelectTree, StmtTree, UpdateTree, Deletes, Inserts, Selects, Updates, key_name}
use Rattle.sql_values.specs.declared.value.Value.{Value}
use Rattle.row_versions.specs.declared.names.TxId.{TxId}
use Rattle.row_versions.specs.declared.names.RowId.{RowId}
use Rattle.row_versions.specs.declared.write.Write.{Write}
use Rattle.row_versions.specs.declared.write.View.{View}
use Rattle.row_versions.specs.Log.{Content, IsOpen, after_begin}
use Rattle.row_versions.specs.Rows.{rows_of}
use Rattle.sql_trees.specs.declared.stmt.Strength.{Strength}
use Rattle.sql_trees.specs.declared.stmt.Strength.TheVariants.{NoKeyUpdate, Update}
use Rattle.sql_trees.specs.declared.stmt.Policy.TheVariants.{Wait}
use Rattle.row_locks.specs.declared.held.Held.{Held}
use Rattle.row_locks.specs.Held.{conflicts, holds}
use Rattle.row_locks.specs.Waiting.{Waiting}
use Rattle.row_versions.specs.Members.{has, is_none_of}
use Rattle.row_locks.specs.Cycles.{blocks, Closes, NoCycle, AllEnd}
use Rattle.update_recheck.specs.Asked.{Asked}
use Rattle.update_recheck.specs.Outcome.{Version, Same, Gone, Newer, row_blockers as target_blockers, newest_version, target_outcome}
use Rattle.update_recheck.specs.Outcome.Outcome.{Waits, Deadlocks}
use Rattle.unique_keys.specs.Checks.{taken_by}
use Rattle.row_versions.specs.declared.write.Seen.{Seen}
use Rattle.session_machine.specs.declared.session.OpenTransaction.{OpenTransaction}
use Rattle.session_machine.specs.declared.session.Place.{Place}
use Rattle.session_machine.specs.declared.session.Progress.{Progress}
use Rattle.session_machine.specs.declared.session.Request.{Request}
use Rattle.session_machine.specs.declared.session.Request.TheVariants.{Row, Key}
use Rattle.session_machine.specs.declared.session.Session.{Session}
use Rattle.session_machine.specs.declared.session.Transaction.{Transaction}
use Rattle.session_machine.specs.declared.session.Transaction.TheVariants.{Open}
use Rattle.session_machine.specs.declared.fault.StmtFault.{StmtFault}
use Rattle.session_machine.specs.declared.fault.StmtFault.TheVariants.{Deadlock, KeyTaken, NotSerializable}
use Rattle.session_machine.specs.declared.event.Event.{Event}
use Rattle.session_machine.specs.declared.event.Event.TheVariants.{Step}
use Rattle.session_machine.specs.declared.event.Mode.{Mode}
use Rattle.session_machine.specs.declared.reply.HistItem.{HistItem}
use Rattle.session_machine.specs.Tables.{Database, Table, find_table}
use Rattle.session_machine.specs.Views.{rows_shown}
use Rattle.session_machine.specs.Transactions.{fresh, view_of}
use Rattle.session_machine.specs.Waits.{blockers, is_blocked, waits_in, is_still_blocked}
use Rattle.session_machine.specs.Statements.{Surroundings}
use Rattle.session_machine.specs.Rows.{Work, Stops, PassesOver, columns_in, is_known, meet_key, table_named}
use Rattle.session_machine.specs.Walks.{Blocked, Fails}
use Rattle.session_machine.specs.Running.{run_stmt}
use Rattle.session_machine.specs.Targets.{asked_key, passing_targets, taken_targets, going_on, names_at}
use Rattle.session_machine.specs.Machine.{Machine, Blocks, Next, next, opening, session_of, stmts_of, turn_in, Run}
use Rattle.session_machine.specs.Engine.{Follows}

-- the machine comes to the state, from its opening with so many sessions
abbrev pub Reaches : Blocks → Mode → ℕ → Machine → Type 0
Reaches given mode count m = (items : List HistItem) × Run given mode (opening count) items m

-- in no state do transactions wait in a cycle, and from each its blockers lead to one that waits for nobody (13.3.4)
abbrev pub NoCycleOfWaits : Type 0
NoCycleOfWaits = (given : Blocks) (mode : Mode) (count : ℕ) (m : Machine) → Reaches given mode count m
    → NoCycle (blocks (waits_in m.db m.sessions)) × AllEnd (blocks (waits_in m.db m.sessions))

-- the target is worth a wait: in Repeatable Read only where its newest version is the one that the view shows (13.2.2)
abbrev pub is_worth_a_wait : Level → Version → Bool
is_worth_a_wait ReadCommitted version = true
is_worth_a_wait RepeatableRead Same = true
is_worth_a_wait RepeatableRead Gone = false
is_worth_a_wait RepeatableRead (Newer newer condition) = false

-- a target is answered as a deadlock exactly where it is worth a wait, its statement waits for others, and a wait for its blockers would close a cycle;
-- it waits exactly where it is worth a wait, its statement waits for others, it has blockers, and closes none (13.3.4); with NOWAIT and SKIP LOCKED it never waits
pub record DeadlockIsExactAt (c : Content) (held : List Held) (waits : List Waiting) (ask : Asked) : Type 0 where
  pub deadlocks : (target_outcome c held waits ask ≡ Deadlocks)
      ↔ (IsTrue (is_worth_a_wait ask.level (newest_version c ask)) × (ask.policy ≡ Wait) × Closes (blocks waits) ask.tx (target_blockers held ask))
  pub waits_else : (target_outcome c held waits ask ≡ Waits)
      ↔ (IsTrue (is_worth_a_wait ask.level (newest_version c ask)) × (ask.policy ≡ Wait) × (is_none_of (target_blockers held ask) ≡ false)
      × ¬ Closes (blocks waits) ask.tx (target_blockers held ask))

abbrev pub DeadlockIsExact : Type 0
DeadlockIsExact = (c : Content) (held : List Held) (waits : List Waiting) (ask : Asked) → DeadlockIsExactAt c held waits ask

-- the other transactions that may yet come to have the key with these values, or cease to (5.5.3)
abbrev pub key_holders : Database → Work → List Value → KeyTree → List TxId
key_holders db w values key = blockers db (Key (asked_key w values key)) w.t.tx

-- the version of another row of the table that has the key, one that is committed or the transaction's own; a row that is replaced is left aside
abbrev pub another_with : Database → Work → List Value → Option RowId → KeyTree → Option Seen
another_with db w values except key = taken_by db.content (record { 0 = w.table }) w.t.tx except values key.columns

abbrev pub has_another : Database → Work → List Value → Option RowId → KeyTree → Bool
has_another db w values except key = is_some (another_with db w values except key)

-- the fault of a key that another row has, which names the key
abbrev pub key_taken : Database → Work → List ℕ → KeyTree → StmtFault
key_taken db w name key = KeyTaken (key_name name key.primary (names_at (columns_in db w) key.columns))

-- another row has the key in this version, and nobody holds it
abbrev pub IsTakenBy : Database → Work → List Value → Option RowId → KeyTree → Seen → Type 0
IsTakenBy db w values except key version = (key_holders db w values key ≡ []) × (another_with db w values except key ≡ Some version)

-- a statement is about to write a row with these values, and asks for one of its table's keys. It fails by a deadlock exactly where
-- a wait for those that hold the key would close a cycle; it waits exactly where others hold it, and a wait for them closes none;
-- the key stops nothing exactly where nobody holds it and no other row has it; and it is taken exactly where nobody holds it and another row has it:
-- then the statement fails, or with ON CONFLICT DO NOTHING passes the row over, at Repeatable Read where it knows that version (5.5.3, 13.2.2, 13.3.4)
pub record KeyIsExactAt (db : Database) (w : Work) (name : List ℕ) (do_nothing : Bool) (values : List Value) (except : Option RowId) (key : KeyTree) : Type 0 where
  pub deadlocks : (meet_key db w name do_nothing values except key ≡ Some (Stops (Fails Deadlock)))
      ↔ Closes (blocks (waits_in db w.around.sessions)) w.t.tx (key_holders db w values key)
  pub waits_else : (meet_key db w name do_nothing values except key ≡ Some (Stops (Blocked (Key (asked_key w values key)))))
      ↔ ((key_holders db w values key ≢ []) × ¬ Closes (blocks (waits_in db w.around.sessions)) w.t.tx (key_holders db w values key))
  pub free : (meet_key db w name do_nothing values except key ≡ None)
      ↔ ((key_holders db w values key ≡ []) × (has_another db w values except key ≡ false))
  pub taken : do_nothing ≡ false → (meet_key db w name do_nothing values except key ≡ Some (Stops (Fails (key_taken db w name key))))
      ↔ ((version : Seen) × IsTakenBy db w values except key version)
  pub passes_over : do_nothing ≡ true → (meet_key db w name do_nothing values except key ≡ Some PassesOver)
      ↔ ((version : Seen) × IsTakenBy db w values except key version × ((w.t.level ≡ ReadCommitted) ⊎ IsTrue (is_known db w version)))
  pub serializes : do_nothing ≡ true → (meet_key db w name do_nothing values except key ≡ Some (Stops (Fails NotSerializable)))
      ↔ ((version : Seen) × IsTakenBy db w values except key version × (w.t.level ≡ RepeatableRead) × (is_known db w version ≡ false))

abbrev pub KeyIsExact : Type 0
KeyIsExact = (db : Database) (w : Work) (name : List ℕ) (do_nothing : Bool) (values : List Value) (except : Option RowId) (key : KeyTree)
    → KeyIsExactAt db w name do_nothing values except key

-- the lock that its transaction holds on a written row, at this strength
abbrev pub lock_of_write : Strength → Write → Held
lock_of_write strength w = record { row = w.row; tx = w.tx; strength = strength }

-- a row may be written at this strength: at Update, and where it isn't deleted at NoKeyUpdate (13.3.2)
abbrev pub lets_write : Strength → Option (List Value) → Bool
lets_write Update values = true
lets_write NoKeyUpdate (Some values) = true
lets_write strength values = false

-- a row that an open transaction wrote at this place of the log is held by it: so strongly that it may write it, and at Update where it inserted the row, which is
-- named by the place of its first version. Each request of another that conflicts with that is blocked, at NoKeyUpdate each one but those at KeyShare, and at Update
-- each one at all, so that nobody else writes the row (13.3.2)
pub record IsHeldToWrite (db : Database) (place : ℕ) (w : Write) : Type 0 where
  pub strength : Strength
  pub held : IsTrue (holds db.held (lock_of_write strength w))
  pub enough : IsTrue (lets_write strength w.values)
  pub inserted : w.row.0 ≡ place → strength ≡ Update
  pub alone : (other : TxId) (asked : Strength) → other ≢ w.tx → IsTrue (conflicts strength asked) → IsTrue (is_blocked db (Row w.row asked) other)

-- so is each row that an open transaction wrote, in every state
abbrev pub WritesAreHeld : Type 0
WritesAreHeld = (given : Blocks) (mode : Mode) (count : ℕ) (m : Machine) → Reaches given mode count m
    → (place : ℕ) (w : Write) → slice_get m.db.content.log place ≡ Some w → IsOpen m.db.content w.tx → IsHeldToWrite m.db place w

-- the transaction in which a statement begins: the session's own, or one that begins with it, at Read Committed
abbrev pub transaction_at : Content → Transaction → OpenTransaction
transaction_at c (Open t) = t
transaction_at c transaction = fresh c ReadCommitted false

-- in every state who stands in the way of a request is open. And an event leaves each of them in the way that is open afterwards, and brings at most the transaction that
-- does it: blockers come by their own doing, and go at their own end (13.3.2, and 5.5.3 of keys)
pub record BlockersStayToTheirEnd : Type 0 where
  pub opened : (given : Blocks) (mode : Mode) (count : ℕ) (m : Machine) → Reaches given mode count m
      → (request : Request) (tx u : TxId) → IsTrue (has (blockers m.db request tx) u) → IsOpen m.db.content u
  pub stay : (given : Blocks) (mode : Mode) (count : ℕ) (m : Machine) → Reaches given mode count m → (event : Event) (n : Next) → next given mode m event ≡ Ok n
      → (request : Request) (tx u : TxId) → IsTrue (has (blockers m.db request tx) u) → IsOpen n.machine.db.content u → IsTrue (has (blockers n.machine.db request tx) u)
  pub come : (given : Blocks) (mode : Mode) (count : ℕ) (m : Machine) → Reaches given mode count m → (event : Event) (n : Next) → next given mode m event ≡ Ok n
      → (s : Session) → slice_get m.sessions (session_of event) ≡ Some s
      → (request : Request) (tx u : TxId) → IsTrue (has (blockers n.machine.db request tx) u)
      → IsTrue (has (blockers m.db request tx) u) ⊎ (u ≡ (transaction_at m.db.content s.transaction).tx)

-- who does an event: the transaction of the session that it is of, or the one that would begin with it
abbrev pub doer_of : Machine → Session → TxId
doer_of m s = (transaction_at m.db.content s.transaction).tx

-- an event ends no transaction but the one that does it: all others that are open stay open. And that one is open afterwards exactly where it is the transaction that the
-- session is in then
pub record TransactionsEndThemselves : Type 0 where
  pub others : (given : Blocks) (mode : Mode) (count : ℕ) (m : Machine) → Reaches given mode count m → (event : Event) (n : Next) → next given mode m event ≡ Ok n
      → (s : Session) → slice_get m.sessions (session_of event) ≡ Some s → (u : TxId) → u ≢ doer_of m s → IsOpen m.db.content u → IsOpen n.machine.db.content u
  pub stays : (given : Blocks) (mode : Mode) (count : ℕ) (m : Machine) → Reaches given mode count m → (event : Event) (n : Next) → next given mode m event ≡ Ok n
      → (s after : Session) → slice_get m.sessions (session_of event) ≡ Some s → slice_get n.machine.sessions (session_of event) ≡ Some after
      → IsOpen n.machine.db.content (doer_of m s) ↔ ((t : OpenTransaction) × (after.transaction ≡ Open t) × (t.tx ≡ doer_of m s))
  pub one : (given : Blocks) (mode : Mode) (count : ℕ) (m : Machine) → Reaches given mode count m → (event : Event) (n : Next) → next given mode m event ≡ Ok n
      → (s after : Session) → slice_get m.sessions (session_of event) ≡ Some s → slice_get n.machine.sessions (session_of event) ≡ Some after
      → (t : OpenTransaction) → after.transaction ≡ Open t → t.tx ≡ doer_of m s

-- where a statement goes on, its targets are the same: those that pass WHERE, and those that a locking SELECT takes
pub record SameTargets (before after : Database) (p : Progress) (t : OpenTransaction) (around : Surroundings) : Type 0 where
  pub passing : (filter : Option Tree) → passing_targets after (going_on t around p) filter ≡ passing_targets before (going_on t around p) filter
  pub taken : (s : SelectTree) → taken_targets after (going_on t around p) s ≡ taken_targets before (going_on t around p) s

-- where a statement goes on, its view shows the same versions of its table, with the same values; a table that is there stays, and so the targets are the same
pub record FindsTheSame (before after : Database) (p : Progress) : Type 0 where
  pub seen : rows_of after.content p.view p.table ≡ rows_of before.content p.view p.table
  pub rows : rows_shown after.content p.view p.table.0 ≡ rows_shown before.content p.view p.table.0
  pub table : (made : Table) → slice_get before.catalog.tables p.table.0 ≡ Some made → slice_get after.catalog.tables p.table.0 ≡ Some made
  pub targets : (made : Table) → slice_get before.catalog.tables p.table.0 ≡ Some made
      → (t : OpenTransaction) (around : Surroundings) → SameTargets before after p t around

-- in every state a session in the middle of a statement, which waits, is left as it is by what is done to another session,
-- and its statement finds the same when it goes on: whatever others commit meanwhile, its targets stay those of its view (13.2.1, 13.2.2)
abbrev pub WaitsGoOnAsBegun : Type 0
WaitsGoOnAsBegun = (given : Blocks) (mode : Mode) (count : ℕ) (m : Machine) → Reaches given mode count m
    → (k : ℕ) (s : Session) (p : Progress) → slice_get m.sessions k ≡ Some s → s.statement ≡ Some p
    → (event : Event) (n : Next) → next given mode m event ≡ Ok n → session_of event ≢ k
    → (slice_get n.machine.sessions k ≡ Some s) × FindsTheSame m.db n.machine.db p

-- the one is in the table and the view of the other, at no earlier target, and its wait began now
pub record IsInViewOf (p : Progress) (around : Surroundings) (q : Progress) : Type 0 where
  pub table : q.table ≡ p.table
  pub view : q.view ≡ p.view
  pub onward : p.place ≤ q.place
  pub number : q.wait.number ≡ around.number

-- a statement that goes on, and stops at a later target, is in its view and at its table still, and waits anew: its view is taken once, when it begins (13.2.1)
pub record GoesOnInItsView (db : Database) (t : OpenTransaction) (around : Surroundings) (p q : Progress) : Type 0 where
  pub inserts : (i : InsertTree) → (run_stmt db (Open t) (Some p) around (Inserts i)).statement ≡ Some q → IsInViewOf p around q
  pub updates : (u : UpdateTree) → (run_stmt db (Open t) (Some p) around (Updates u)).statement ≡ Some q → IsInViewOf p around q
  pub deletes : (d : DeleteTree) → (run_stmt db (Open t) (Some p) around (Deletes d)).statement ≡ Some q → IsInViewOf p around q
  pub locks : (s : SelectTree) (l : Lock) → s.lock ≡ Some l → (run_stmt db (Open t) (Some p) around (Selects s)).statement ≡ Some q → IsInViewOf p around q

abbrev pub StatementsGoOnInTheirView : Type 0
StatementsGoOnInTheirView = (db : Database) (t : OpenTransaction) (around : Surroundings) (p q : Progress) → GoesOnInItsView db t around p q

-- the session is in the middle of a statement, and has come so far with it
abbrev pub IsAtWork : Machine → ℕ → Session → Progress → Type 0
IsAtWork m k s p = (slice_get m.sessions k ≡ Some s) × (s.statement ≡ Some p)

-- a run in which the session is in the middle of a statement after each event, and so of one statement all along
abbrev pub RunAtWork : Blocks → Mode → ℕ → Machine → List HistItem → Machine → Type 0
RunAtWork given mode k m [] after = after ≡ m
RunAtWork given mode k m (item ∷ items) after =
    (mid : Machine) × (s : Session) × (p : Progress) × Follows given mode m item mid × IsAtWork mid k s p × RunAtWork given mode k mid items after

-- and the database then
abbrev pub database_at : Database → Transaction → Database
database_at db (Open t) = db
database_at db transaction = record db { content = after_begin db.content }

-- the statement at a place
abbrev pub stmt_at : Blocks → Option Place → Option StmtTree
stmt_at given None = None
stmt_at given (Some place) = slice_get (stmts_of given place.block) place.next

-- the table of a statement that begins here, which is the one that its name means, or that is in the middle of its targets
abbrev pub table_at : Database → Transaction → Option Progress → StmtTree → Option ℕ
table_at db transaction None stmt = option_and_then (find_table (database_at db transaction) (Some (transaction_at db.content transaction).tx)) (table_named stmt)
table_at db transaction (Some p) stmt = Some p.table.0

-- the view of a statement that begins here, or is in the middle of its targets
abbrev pub view_at : Content → Transaction → Option Progress → View
view_at c transaction None = view_of c (transaction_at c transaction)
view_at c transaction (Some p) = p.view

-- the session is at the same statement of its block, which is the same tree; with the table that was found and in the view that was taken when
-- that began, and at no earlier target; the table was there, and what the statement finds is what it found there: so its targets are the same
pub record IsAsBegun (given : Blocks) (m after : Machine) (s u : Session) (q : Progress) : Type 0 where
  pub place : u.place ≡ s.place
  pub stmt : StmtTree
  pub tree : stmt_at given s.place ≡ Some stmt
  pub table : table_at m.db s.transaction s.statement stmt ≡ Some q.table.0
  pub made : Table
  pub there : slice_get m.db.catalog.tables q.table.0 ≡ Some made
  pub view : q.view ≡ view_at m.db.content s.transaction s.statement
  pub onward : (p : Progress) → s.statement ≡ Some p → p.place ≤ q.place
  pub finds : FindsTheSame m.db after.db q

-- a moment of a run at which a session stands before a statement that it hasn't begun, and in which it has been since
pub record BeganAt (given : Blocks) (mode : Mode) (count : ℕ) (k : ℕ) (items : List HistItem) (after : Machine) : Type 0 where
  pub before : List HistItem
  pub since : List HistItem
  pub parts : items ≡ before ++ since
  pub m : Machine
  pub reached : Run given mode (opening count) before m
  pub s : Session
  pub there : slice_get m.sessions k ≡ Some s
  pub idle : s.statement ≡ None
  pub at_work : RunAtWork given mode k m since after

-- a statement that waits was begun at some moment of the run, and has gone on since. And from the state in which it begins, and from each in which it waits,
-- a run leads to the same statement, as long as that isn't over: its table, its view and its targets are those at its beginning, whatever others commit
-- meanwhile, and whatever the statement itself has written at its targets before (13.2.1, 13.2.2)
pub record StatementsStayAsBegun : Type 0 where
  pub began : (given : Blocks) (mode : Mode) (count : ℕ) (items : List HistItem) (after : Machine) → Run given mode (opening count) items after
      → (k : ℕ) (u : Session) (q : Progress) → IsAtWork after k u q → BeganAt given mode count k items after
  pub since : (given : Blocks) (mode : Mode) (count : ℕ) (m : Machine) → Reaches given mode count m
      → (k : ℕ) (s : Session) → slice_get m.sessions k ≡ Some s
      → (items : List HistItem) (after : Machine) → RunAtWork given mode k m items after
      → (u : Session) (q : Progress) → IsAtWork after k u q → IsAsBegun given m after s u q

-- how many statements of its block are before a session, the one that it is at among them
abbrev pub left_from : Blocks → Option Place → ℕ
left_from given None = 0
left_from given (Some place) = length (stmts_of given place.block) - place.next

abbrev pub left_of : Blocks → Session → ℕ
left_of given s = left_from given s.place

-- how many are before all sessions
abbrev pub statements_left : Blocks → Machine → ℕ
statements_left given m = sum_by (left_of given) m.sessions

-- the session is in its block, and what it waits for, if it waits, isn't held against it any more
abbrev pub can_step : Database → Session → Bool
can_step db s = is_some s.place && not (is_still_blocked db s)

-- how many sessions can step
abbrev pub able : Machine → ℕ
able m = count_by (can_step m.db) m.sessions

-- fewer statements are left, or as many, and fewer sessions can step
abbrev pub IsNearerRest : Blocks → Machine → Machine → Type 0
IsNearerRest given m after =
    (statements_left given after < statements_left given m)
    ⊎ ((statements_left given after ≡ statements_left given m) × (able after < able m))

-- all items are steps
abbrev pub AreSteps : List HistItem → Type 0
AreSteps [] = Unit {0}
AreSteps (item ∷ items) = ((session : ℕ) × (item.event ≡ Step session)) × AreSteps items

-- in every state each step that is taken, in turn or not, comes nearer to rest; so where sessions are given no more blocks,
-- only so many steps follow one another: for each statement that is left one of each session and one more, and one of each session
-- that can step now.
-- And the step of the session whose turn it is is taken; so steps in turn come to a state in which it is nobody's turn
pub record RestIsReached : Type 0 where
  pub nearer : (given : Blocks) (mode : Mode) (count : ℕ) (m : Machine) → Reaches given mode count m
      → (session : ℕ) (n : Next) → next given mode m (Step session) ≡ Ok n → IsNearerRest given m n.machine
  pub bounded : (given : Blocks) (mode : Mode) (count : ℕ) (m after : Machine) (items : List HistItem)
      → Reaches given mode count m → Run given mode m items after → AreSteps items
      → length items ≤ statements_left given m * (length m.sessions + 1) + able m
  pub in_turn : (given : Blocks) (mode : Mode) (count : ℕ) (m : Machine) → Reaches given mode count m
      → (k : ℕ) → turn_in m ≡ Some k → (n : Next) × (next given mode m (Step k) ≡ Ok n)

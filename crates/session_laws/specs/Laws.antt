-- What follows from the definitions, in the words of sessions and histories. Each law stands on the contract of a function of `laws`.
use Rattle.std.specs.Prelude.{◌≡◌, ◌≢◌, ◌<◌, ◌≤◌, ◌||◌, ℕ, Bool, true, List, [], ◌∷◌, ◌++◌, map, Contains, Option, Some, None, is_none, option_and_then, slice_get, Ok}
use denote.Enum.Bare.{sameb}
use Rattle.iso_lexer.specs.declared.limits.TheConstants.{MOST_SESSIONS}
use Rattle.sql_trees.specs.contracts.stmt.Level.{the_type as the_level}
use Rattle.sql_trees.specs.declared.stmt.Level.TheVariants.{ReadCommitted, RepeatableRead}
use Rattle.sql_trees.specs.Statements.{StmtTree, Commit, Selects, All}
use Rattle.sql_values.specs.declared.value.Value.{Value}
use Rattle.row_versions.specs.declared.write.Write.{Write}
use Rattle.row_versions.specs.Log.{Content, has_committed}
use Rattle.row_versions.specs.Laws.{IsAt}
use Rattle.session_machine.specs.declared.session.Place.{Place}
use Rattle.session_machine.specs.declared.session.OpenTransaction.{OpenTransaction}
use Rattle.session_machine.specs.declared.session.Transaction.{Transaction}
use Rattle.session_machine.specs.declared.session.Transaction.TheVariants.{Open, Aborted}
use Rattle.session_machine.specs.declared.session.Session.{Session}
use Rattle.session_machine.specs.declared.fault.StmtFault.{StmtFault}
use Rattle.session_machine.specs.declared.fault.StmtFault.TheVariants.{NoTable}
use Rattle.session_machine.specs.declared.reply.Outcome.{Outcome}
use Rattle.session_machine.specs.declared.reply.Outcome.TheVariants.{Rows, Failed}
use Rattle.session_machine.specs.declared.event.Event.{Event}
use Rattle.session_machine.specs.declared.event.Event.TheVariants.{Step}
use Rattle.session_machine.specs.declared.event.Mode.{Mode}
use Rattle.session_machine.specs.declared.reply.HistItem.{HistItem}
use Rattle.session_machine.specs.Transactions.{view_of, view_now}
use Rattle.session_machine.specs.Views.{rows_shown}
use Rattle.session_machine.specs.Machine.{Machine, Blocks, opening, session_of, stmts_of, visible, Run}
use Rattle.session_machine.specs.Engine.{Follows, IsLegal}

-- a history leads to one state
abbrev pub OneState : Type 0
OneState = (blocks : Blocks) (mode : Mode) (m : Machine) (items : List HistItem) (a b : Machine)
    → Run blocks mode m items a → Run blocks mode m items b → a ≡ b

abbrev pub events_of : List HistItem → List Event
events_of items = map (λ (i : HistItem). i.event) items

-- legal histories of the same events have the same replies
abbrev pub EventsGiveReplies : Type 0
EventsGiveReplies = (blocks : Blocks) (count : ℕ) (mode : Mode) (items others : List HistItem)
    → IsLegal blocks count mode items → IsLegal blocks count mode others
    → events_of items ≡ events_of others → items ≡ others

-- what came first in a legal history was legal
abbrev pub FirstPartsAreLegal : Type 0
FirstPartsAreLegal = (blocks : Blocks) (count : ℕ) (mode : Mode) (first rest : List HistItem)
    → IsLegal blocks count mode (first ++ rest) → IsLegal blocks count mode first

-- in Repeatable Read what a transaction sees of each table stays the same from its first query on, while other sessions go on (13.2.2)
abbrev pub SnapshotsStay : Type 0
SnapshotsStay = (blocks : Blocks) (count : ℕ) (mode : Mode) (items : List HistItem) (m : Machine) (item : HistItem) (after : Machine)
    (session : ℕ) (s : Session) (t : OpenTransaction) (commits : ℕ)
    → count ≤ MOST_SESSIONS → Run blocks mode (opening count) items m → Follows blocks mode m item after → session_of item.event ≢ session
    → slice_get m.sessions session ≡ Some s → s.transaction ≡ Open t → t.level ≡ RepeatableRead → t.snapshot ≡ Some commits
    → (table : ℕ) → rows_shown after.db.content (view_of after.db.content t) table ≡ rows_shown m.db.content (view_of m.db.content t) table

-- of a failed statement, and of its transaction, the other sessions see nothing: each has the rows that it had
abbrev pub FailuresAreUnseen : Type 0
FailuresAreUnseen = (blocks : Blocks) (count : ℕ) (mode : Mode) (items : List HistItem) (m : Machine) (item : HistItem) (after : Machine)
    (session : ℕ) (s : Session) (fault : StmtFault)
    → count ≤ MOST_SESSIONS → Run blocks mode (opening count) items m → Follows blocks mode m item after → item.reply.outcome ≡ Failed fault
    → session_of item.event ≢ session → slice_get m.sessions session ≡ Some s
    → (table : ℕ) → rows_shown after.db.content (view_now after.db.content s.transaction s.statement) table
    ≡ rows_shown m.db.content (view_now m.db.content s.transaction s.statement) table

-- the statement that the session's next step begins, or goes on with
abbrev pub due_stmt : Blocks → Session → Option StmtTree
due_stmt blocks s = option_and_then (λ (p : Place). slice_get (stmts_of blocks p.block) p.next) s.place

-- the write at the place gave its row these values, and nobody has written the row since
pub record IsLastOf (c : Content) (place : ℕ) (w : Write) (values : List Value) : Type 0 where
  pub there : IsAt c place w
  pub gave : w.values ≡ Some values
  pub last : (later : ℕ) (v : Write) → place < later → IsAt c later v → v.row ≢ w.row

-- a query that begins now sees all that has committed: it is in Read Committed, or its transaction's first,
-- or the first of a transaction that begins with it (13.2)
abbrev pub sees_all_committed : Transaction → Bool
sees_all_committed (Open t) = sameb the_level t.level ReadCommitted || is_none t.snapshot
sees_all_committed transaction = true

-- a transaction has committed once its session's COMMIT is done
abbrev pub CommitsCount : Type 0
CommitsCount = (blocks : Blocks) (count : ℕ) (mode : Mode) (items : List HistItem) (m : Machine) (item : HistItem) (after : Machine)
    (session : ℕ) (s : Session) (t : OpenTransaction)
    → count ≤ MOST_SESSIONS → Run blocks mode (opening count) items m → slice_get m.sessions session ≡ Some s → s.transaction ≡ Open t → due_stmt blocks s ≡ Some Commit
    → item.event ≡ Step session → Follows blocks mode m item after → has_committed after.db.content t.tx ≡ true

-- after a commit each query that begins in Read Committed, and each first query of a transaction in Repeatable Read, sees its rows
abbrev pub CommitsAreSeen : Type 0
CommitsAreSeen = (blocks : Blocks) (count : ℕ) (mode : Mode) (items : List HistItem) (m : Machine)
    (session : ℕ) (s : Session) (place : ℕ) (w : Write) (values : List Value)
    → count ≤ MOST_SESSIONS → Run blocks mode (opening count) items m → slice_get m.sessions session ≡ Some s → sees_all_committed s.transaction ≡ true
    → IsLastOf m.db.content place w values → has_committed m.db.content w.tx ≡ true
    → Contains (rows_shown m.db.content (view_now m.db.content s.transaction s.statement) w.table.0) values

-- a query sees what earlier statements of its own transaction wrote, at either level
abbrev pub OwnWritesAreSeen : Type 0
OwnWritesAreSeen = (blocks : Blocks) (count : ℕ) (mode : Mode) (items : List HistItem) (m : Machine)
    (session : ℕ) (s : Session) (t : OpenTransaction) (place : ℕ) (w : Write) (values : List Value)
    → count ≤ MOST_SESSIONS → Run blocks mode (opening count) items m → slice_get m.sessions session ≡ Some s → s.transaction ≡ Open t
    → IsLastOf m.db.content place w values → w.tx ≡ t.tx
    → Contains (rows_shown m.db.content (view_now m.db.content s.transaction s.statement) w.table.0) values

-- SELECT * FROM the table
abbrev pub select_all : List ℕ → StmtTree
select_all name = Selects (record { items = All ∷ []; table = Some name; filter = None; order = []; lock = None })

-- the rows of an outcome: none where the statement's table isn't there
abbrev pub shown_by : Outcome → Option (Option (List (List Value)))
shown_by (Rows set) = Some (Some set.rows)
shown_by (Failed (NoTable name)) = Some None
shown_by outcome = None

-- what a session would see of a table is what a SELECT shows that begins at that moment, but in a transaction that has failed
abbrev pub VisibleIsSelected : Type 0
VisibleIsSelected = (blocks : Blocks) (count : ℕ) (mode : Mode) (items : List HistItem) (m : Machine) (item : HistItem) (after : Machine)
    (session : ℕ) (s : Session) (name : List ℕ) (rows : Option (List (List Value)))
    → count ≤ MOST_SESSIONS → Run blocks mode (opening count) items m → slice_get m.sessions session ≡ Some s → s.transaction ≢ Aborted
    → s.statement ≡ None → due_stmt blocks s ≡ Some (select_all name)
    → item.event ≡ Step session → Follows blocks mode m item after → visible m session name ≡ Ok rows → shown_by item.reply.outcome ≡ Some rows

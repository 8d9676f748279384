-- What holds of every state that the machine comes to.
use Rattle.std.specs.Prelude.{◌≡◌, ℕ, ◌+◌, ◌≤◌, ◌<◌, ◌^◌, List, length, Option, Some, None, slice_get, Ok}
use Rattle.iso_lexer.specs.declared.limits.TheConstants.{MOST_SESSIONS}
use Rattle.sql_values.specs.declared.value.Value.{Value}
use Rattle.row_versions.specs.declared.write.Write.{Write}
use Rattle.row_versions.specs.declared.write.Fate.TheVariants.{Open as OpenFate}
use Rattle.row_versions.specs.Log.{Content}
use Rattle.session_machine.specs.declared.session.Transaction.{Transaction}
use Rattle.session_machine.specs.declared.session.Transaction.TheVariants.{Closed, Open, Aborted}
use Rattle.session_machine.specs.declared.session.Progress.{Progress}
use Rattle.session_machine.specs.declared.session.Session.{Session}
use Rattle.session_machine.specs.declared.event.Event.{Event}
use Rattle.session_machine.specs.declared.event.Mode.{Mode}
use Rattle.session_machine.specs.Tables.{Database, Catalog, Table}
use Rattle.session_machine.specs.Machine.{Machine, Blocks, Next, next, opening}

-- the number of an open transaction
abbrev pub tx_in : Transaction → Option ℕ
tx_in Closed = None
tx_in Aborted = None
tx_in (Open t) = Some t.tx.0

abbrev pub command_in : Transaction → ℕ
command_in Closed = 0
command_in Aborted = 0
command_in (Open t) = t.command

abbrev pub tx_of : Option Session → Option ℕ
tx_of None = None
tx_of (Some s) = tx_in s.transaction

abbrev pub command_of : Option Session → ℕ
command_of None = 0
command_of (Some s) = command_in s.transaction

abbrev pub progress_of : Option Session → Option Progress
progress_of None = None
progress_of (Some s) = s.statement

-- each row that a write gave has a value for each column of its table
abbrev pub RowsFit : Content → Catalog → Type 0
RowsFit c catalog = (place : ℕ) (w : Write) (values : List Value) → slice_get c.log place ≡ Some w → w.values ≡ Some values
    → (t : Table) × (slice_get catalog.tables w.table.0 ≡ Some t) × (length values ≡ length t.made.columns)

-- all writes of a row are of one table: that of the first one, whose place names the row
abbrev pub RowsStay : Content → Type 0
RowsStay c = (place : ℕ) (w : Write) → slice_get c.log place ≡ Some w → (first : Write) × (slice_get c.log w.row.0 ≡ Some first) × (first.table ≡ w.table)

-- the transactions of sessions are open, no two sessions have one, none has had more commands than there were events; rows fit their tables and stay in them;
-- of a statement in the middle of its targets the table is there, and its wait began before
pub record IsSound (db : Database) (sessions : List Session) (events : ℕ) : Type 0 where
  pub opened : (i n : ℕ) → tx_of (slice_get sessions i) ≡ Some n → slice_get db.content.fates n ≡ Some OpenFate
  pub apart : (i j n : ℕ) → tx_of (slice_get sessions i) ≡ Some n → tx_of (slice_get sessions j) ≡ Some n → i ≡ j
  pub small : length sessions < 2 ^ 32
  pub few : (i : ℕ) → command_of (slice_get sessions i) ≤ events
  pub fit : RowsFit db.content db.catalog
  pub stay : RowsStay db.content
  pub within : (i : ℕ) (p : Progress) → progress_of (slice_get sessions i) ≡ Some p → p.table.0 < length db.catalog.tables
  pub before : (i : ℕ) (p : Progress) → progress_of (slice_get sessions i) ≡ Some p → p.wait.number < events

abbrev pub IsSoundMachine : Machine → Type 0
IsSoundMachine m = IsSound m.db m.sessions m.events

-- the state in which nothing has happened is sound, and each event leads from a sound state to one, in which there was one event more
pub record StaysSound : Type 0 where
  pub opens : (count : ℕ) → count ≤ MOST_SESSIONS → IsSoundMachine (opening count)
  pub goes_on : (blocks : Blocks) (mode : Mode) (m : Machine) (event : Event) (n : Next) → IsSoundMachine m → next blocks mode m event ≡ Ok n
      → IsSoundMachine n.machine × (n.machine.events ≡ m.events + 1)

-- To be believed. What a statement does with rows: INSERT with those of its VALUES, and UPDATE, DELETE and a locking SELECT with their targets
-- (PostgreSQL manual, 13.2.1 and 13.3.2, and the pages of the statements).
use Rattle.std.specs.Prelude.{ℕ, ◌==◌, Bool, false, not, ◌||◌, List, ◌∷◌, length, map, flat_map, drop, Option, Some, None, option_map, option_and_then, unwrap_or, slice_get, filter_map, Result, Ok, Err, if◌then◌else◌, []}
use Rattle.std.specs.List.{list_any}
use Rattle.std.specs.Option.{option_map_or, option_or}
use Rattle.std.specs.Result.{result_unwrap_or}
use Rattle.sql_trees.specs.declared.stmt.Level.TheVariants.{ReadCommitted, RepeatableRead}
use Rattle.sql_trees.specs.declared.stmt.Strength.{Strength}
use Rattle.sql_trees.specs.declared.stmt.Strength.TheVariants.{NoKeyUpdate, Update}
use Rattle.sql_trees.specs.declared.stmt.Policy.{Policy}
use Rattle.sql_trees.specs.declared.stmt.Policy.TheVariants.{Wait}
use Rattle.sql_trees.specs.Trees.{Tree}
use Rattle.sql_trees.specs.Statements.{ColumnTree, ItemTree, KeyTree, StmtTree, InsertTree, UpdateTree, Inserts, Updates, Deletes, Selects, key_name}
use Rattle.sql_values.specs.declared.value.Value.{Value}
use Rattle.sql_values.specs.declared.fault.ValueFault.{ValueFault}
use Rattle.sql_values.specs.Expressions.{Cols}
use Rattle.query_results.specs.Queries.{AssignedColumn, cols_of, columns_assigned, new_values, null_in, row_values, passing, taken}
use Rattle.query_results.specs.Updates.{columns_set, leaves_all, updated}
use Rattle.row_versions.specs.declared.names.RowId.{RowId}
use Rattle.row_versions.specs.declared.write.View.{View}
use Rattle.row_versions.specs.declared.write.Seen.{Seen}
use Rattle.row_versions.specs.declared.write.Write.{Write}
use Rattle.row_versions.specs.Log.{values_at, new_row, after_write}
use Rattle.row_versions.specs.Members.{is_none_of, same_tx}
use Rattle.row_versions.specs.Rows.{is_row, rows_of}
use Rattle.row_versions.specs.Newest.{newest_of}
use Rattle.row_locks.specs.Held.{with_lock}
use Rattle.row_locks.specs.Cycles.{closes}
use Rattle.unique_keys.specs.Checks.{taken_by}
use Rattle.update_recheck.specs.Asked.{Asked}
use Rattle.update_recheck.specs.Outcome.{target_outcome, is_target_locked}
use Rattle.update_recheck.specs.Outcome.Outcome.{Takes, Skips, Waits, Deadlocks, NotFree as IsNotFree, Serializes, Faults}
use Rattle.update_recheck.specs.Settling.{lock_of}
use Rattle.session_machine.specs.declared.session.OpenTransaction.{OpenTransaction}
use Rattle.session_machine.specs.declared.session.Request.TheVariants.{Row, Key}
use Rattle.session_machine.specs.declared.fault.StmtFault.TheVariants.{Value as OfValue, NullValue, KeyTaken, NotSerializable, Deadlock, NotFree}
use Rattle.session_machine.specs.Tables.{Database, Table}
use Rattle.session_machine.specs.Views.{rows_shown}
use Rattle.session_machine.specs.AskedKeys.{AskedKey}
use Rattle.session_machine.specs.Waits.{blockers, waits_in}
use Rattle.session_machine.specs.Statements.{Surroundings}
use Rattle.session_machine.specs.Walks.{Stop, Walk, Blocked, Fails, passed, stopped, over}

-- a statement at work: in this transaction, at the table of this place, with this view, and what it finds around it
pub record Work : Type 0 where
  pub t : OpenTransaction
  pub table : ℕ
  pub view : View
  pub around : Surroundings

-- the columns of its table
abbrev pub columns_in : Database → Work → List ColumnTree
columns_in db w = unwrap_or (option_map (λ (t : Table). t.made.columns) (slice_get db.catalog.tables w.table)) []

abbrev pub cols_in : Database → Work → Cols
cols_in db w = cols_of (columns_in db w)

-- the values of the version
abbrev pub values_of : Database → Seen → List Value
values_of db seen = unwrap_or (values_at db.content seen.place) []

-- a write of a row of the table; without values it deletes the row
abbrev pub written : Database → Work → RowId → Option (List Value) → Database
written db w row values = record db { content = after_write db.content (record { tx = w.t.tx; command = w.t.command; table = record { 0 = w.table }; row = row; values = values }) }

-- a new row is written, and its transaction holds it at Update
abbrev pub inserted : Database → Work → List Value → Database
inserted db w values = record (written db w (new_row db.content) (Some values)) { held = with_lock db.held (record { row = new_row db.content; tx = w.t.tx; strength = Update }) }

-- what a row that is about to be written meets at a key that isn't free: the statement stops there, or passes the row over
pub data Meets : Type 0 where
  Stops : Stop → Meets
  PassesOver : Meets

-- the transaction knows the version: its statement's view shows it, or it wrote it itself
abbrev pub is_known : Database → Work → Seen → Bool
is_known db w version =
    is_row db.content w.view (record { 0 = w.table }) version.place || option_map_or (λ (x : Write). same_tx x.tx w.t.tx) (slice_get db.content.log version.place) false

-- ON CONFLICT DO NOTHING passes a row over whose key is taken; in Repeatable Read only where the transaction knows the version that has it (INSERT, "ON CONFLICT Clause"; 13.2.2)
abbrev pub does_nothing : Database → Work → Seen → Meets
does_nothing db w version = elim w.t.level [ ReadCommitted ↦ PassesOver | RepeatableRead ↦ if is_known db w version then PassesOver else Stops (Fails NotSerializable) ]

-- a row with these values is about to be written, in place of a row or as a new one. Where others hold the key the statement waits for them, or fails where
-- that wait would close a cycle; else it fails where another row of the table has the key, or, where it says so, does nothing
abbrev pub meet_key : Database → Work → List ℕ → Bool → List Value → Option RowId → KeyTree → Option Meets
meet_key db w name do_nothing values except key =
    let asked : AskedKey = record { table = record { 0 = w.table }; columns = key.columns; values = values } in
    let by = blockers db (Key asked) w.t.tx in
    let names = map (λ place. unwrap_or (option_map (λ (c : ColumnTree). c.name) (slice_get (columns_in db w) place)) []) key.columns in
    if not (is_none_of by) then Some (Stops (if closes (waits_in db w.around.sessions) w.t.tx by then Fails Deadlock else Blocked (Key asked)))
    else option_map (λ version. if do_nothing then does_nothing db w version else Stops (Fails (KeyTaken (key_name name key.primary names))))
    (taken_by db.content asked.table w.t.tx except values key.columns)

-- a row was written, or deleted, that leads to this database: RETURNING answers its items on it, if there is one (6.4)
abbrev pub returned : Work → Option (List ItemTree) → Walk → Database → List Value → Walk
returned w None walk db row = passed walk db []
returned w (Some items) walk db row = elim (row_values (cols_in db w) items row) [ Ok shown ↦ passed walk db (shown ∷ []) | Err fault ↦ stopped (record walk { db = db }) (Fails (OfValue fault)) ]

-- how a statement puts rows into its table: the table's name, whether it passes over rows whose key is taken, and the items of RETURNING
pub record Putting : Type 0 where
  pub table : List ℕ
  pub do_nothing : Bool
  pub returning : Option (List ItemTree)

abbrev pub meets : Walk → Meets → Walk
meets walk (Stops stop) = stopped walk stop
meets walk PassesOver = passed walk walk.db []

-- a row of the table is to have these values, in place of that row or as a new one. Where they have no value the statement stops, then at a NULL
-- where none may be; then the first key in declared order that isn't free decides (5.5.3); else the row is written
abbrev pub put_row : Work → Putting → Option RowId → Result (List Value) ValueFault → Walk → Walk
put_row w put row (Err fault) walk = stopped walk (Fails (OfValue fault))
put_row w put row (Ok values) walk =
    let null = option_map (λ column. Stops (Fails (NullValue column put.table))) (null_in (columns_in walk.db w) values) in
    let keys = unwrap_or (option_map (λ (t : Table). t.made.keys) (slice_get walk.db.catalog.tables w.table)) [] in
    let met = option_or null (slice_get (filter_map (meet_key walk.db w put.table put.do_nothing values row) keys) 0) in
    option_map_or (meets walk) met (returned w put.returning walk (option_map_or (λ place. written walk.db w place (Some values)) row (inserted walk.db w values)) values)

-- INSERT at a row of its VALUES
abbrev pub insert_row : Work → InsertTree → Walk → List Tree → Walk
insert_row w i walk row =
    put_row w (record { table = i.table; do_nothing = i.do_nothing; returning = i.returning }) None
    (new_values (length (columns_in walk.db w)) (result_unwrap_or (columns_assigned (columns_in walk.db w) i.columns) []) row) walk

-- what a statement does with the version that a target takes: UPDATE writes a new one, DELETE one without values, and a locking SELECT answers its items
abbrev pub act_on : Work → StmtTree → Walk → Seen → Walk
act_on w (Updates u) walk version =
    put_row w (record { table = u.table; do_nothing = false; returning = u.returning }) (Some version.row)
    (updated (cols_in walk.db w) (result_unwrap_or (columns_set (columns_in walk.db w) u.sets) []) u.sets (values_of walk.db version)) walk
act_on w (Deletes d) walk version = returned w d.returning walk (written walk.db w version.row None) (values_of walk.db version)
act_on w (Selects s) walk version = returned w (Some s.items) walk walk.db (values_of walk.db version)
act_on w stmt walk version = passed walk walk.db []

-- the table that a statement names whose rows it goes over, or to which it adds rows
abbrev pub table_named : StmtTree → Option (List ℕ)
table_named (Inserts i) = Some i.table
table_named (Updates u) = Some u.table
table_named (Deletes d) = Some d.table
table_named (Selects s) = s.table
table_named stmt = None

-- its WHERE
abbrev pub filter_of : StmtTree → Option Tree
filter_of (Updates u) = u.filter
filter_of (Deletes d) = d.filter
filter_of (Selects s) = s.filter
filter_of stmt = None

-- the columns of its table's keys
abbrev pub key_columns : Database → Work → List ℕ
key_columns db w = flat_map (λ key. key.columns) (unwrap_or (option_map (λ (t : Table). t.made.keys) (slice_get db.catalog.tables w.table)) [])

-- the values of a row's newest version for the transaction, if that isn't gone
abbrev pub newest_values : Database → Work → RowId → Option (List Value)
newest_values db w row = option_and_then (λ m. values_at db.content m.place) (newest_of db.content row w.t.tx)

-- an UPDATE that leaves the values of all keys of the row's newest version as they are takes the row at NoKeyUpdate, another one at Update (13.3.2, "FOR NO KEY UPDATE")
abbrev pub update_strength : Database → Work → List AssignedColumn → UpdateTree → RowId → Strength
update_strength db w to u row = if option_map_or (leaves_all (cols_in db w) to u.sets (key_columns db w)) (newest_values db w row) false then NoKeyUpdate else Update

-- how strongly a statement wants a row at present: a locking SELECT as it says, and DELETE at Update (13.3.2)
abbrev pub strength_at : Database → Work → StmtTree → RowId → Strength
strength_at db w (Updates u) row = update_strength db w (result_unwrap_or (columns_set (columns_in db w) u.sets) []) u row
strength_at db w (Selects s) row = option_map_or (λ l. l.strength) s.lock Update
strength_at db w stmt row = Update

-- what it does at a row that others hold in conflict: a locking SELECT as it says, and the others wait
abbrev pub policy_of : StmtTree → Policy
policy_of (Selects s) = option_map_or (λ l. l.policy) s.lock Wait
policy_of stmt = Wait

-- a target, as the statement asks for it
abbrev pub target_asked : Database → Work → StmtTree → Seen → Asked
target_asked db w stmt seen =
    record { tx = w.t.tx; level = w.t.level; seen = seen; strength = strength_at db w stmt seen.row; policy = policy_of stmt; condition = filter_of stmt; cols = cols_in db w }

-- a target is settled first, and locked where that takes it; then the statement acts on it, passes it over, or stops there
abbrev pub visit_target : Work → StmtTree → Walk → Seen → Walk
visit_target w stmt walk seen =
    let ask = target_asked walk.db w stmt seen in
    let held = walk.db.held in
    let waits = waits_in walk.db w.around.sessions in
    let at = record walk { db = record walk.db { held = if is_target_locked walk.db.content held waits ask then with_lock held (lock_of ask) else held } } in
    elim (target_outcome walk.db.content held waits ask) [
      | Takes version ↦ act_on w stmt at version
      | Skips ↦ passed at at.db []
      | Waits ↦ stopped at (Blocked (Row seen.row ask.strength))
      | Deadlocks ↦ stopped at (Fails Deadlock)
      | IsNotFree ↦ stopped at (Fails (NotFree (unwrap_or (table_named stmt) [])))
      | Serializes ↦ stopped at (Fails NotSerializable)
      | Faults fault ↦ stopped at (Fails (OfValue fault))
    ]

-- a statement goes over its targets, which are versions that its view shows, at these places; where they couldn't be found, it fails
abbrev pub over_targets : Work → StmtTree → Walk → Result (List ℕ) ValueFault → Walk
over_targets w stmt walk (Err fault) = stopped walk (Fails (OfValue fault))
over_targets w stmt walk (Ok places) = over (visit_target w stmt) walk (drop walk.place (filter_map (slice_get (rows_of walk.db.content w.view (record { 0 = w.table }))) places))

-- the statement goes on from where it has come to: INSERT over the rows of its VALUES, UPDATE and DELETE over the versions that pass WHERE,
-- and a locking SELECT over them as ORDER BY sorts them; the others have no targets
abbrev pub walk_of : Work → StmtTree → Walk → Option Walk
walk_of w (Inserts i) walk = Some (over (insert_row w i) walk (drop walk.place i.rows))
walk_of w (Updates u) walk = Some (over_targets w (Updates u) walk (passing (cols_in walk.db w) u.filter (rows_shown walk.db.content w.view w.table)))
walk_of w (Deletes d) walk = Some (over_targets w (Deletes d) walk (passing (cols_in walk.db w) d.filter (rows_shown walk.db.content w.view w.table)))
walk_of w (Selects s) walk =
    option_map (λ l. over_targets w (Selects s) walk (taken s (columns_in walk.db w) (rows_shown walk.db.content w.view w.table))) s.lock
walk_of w stmt walk = None

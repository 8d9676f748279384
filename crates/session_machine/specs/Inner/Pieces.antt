-- Statements piece by piece, as the code runs them.
use Rattle.std.specs.Prelude.{ℕ, ◌+◌, ◌==◌, Bool, false, ◌&&◌, List, ◌∷◌, ◌++◌, flat_map, nat_lt, length, Option, Some, None, option_map, unwrap_or, slice_get, Result, if◌then◌else◌, []}
use Rattle.std.specs.List.{list_any}
use Rattle.std.specs.Option.{option_map_or}
use Rattle.sql_trees.specs.declared.stmt.Level.TheVariants.{ReadCommitted}
use Rattle.sql_trees.specs.declared.stmt.Lock.{Lock}
use Rattle.sql_trees.specs.Statements.{StmtTree, ColumnTree, KeyTree, CreateTree, InsertTree, UpdateTree, DeleteTree, SelectTree, Selects, key_name}
use Rattle.sql_values.specs.declared.value.Value.{Value}
use Rattle.sql_values.specs.declared.fault.ValueFault.{ValueFault}
use Rattle.query_results.specs.Queries.{AssignedColumn, returned_exprs, select_exprs, undefined_among, wrong_position}
use Rattle.query_results.specs.Updates.{update_exprs}
use Rattle.row_versions.specs.declared.names.TxId.{TxId}
use Rattle.row_versions.specs.declared.names.RowId.{RowId}
use Rattle.row_versions.specs.Members.{same_tx}
use Rattle.row_versions.specs.Log.{Content}
use Rattle.row_locks.specs.Cycles.{closes}
use Rattle.unique_keys.specs.Checks.{KeyFound, KeyIsFree, KeyIsTaken, KeyIsHeld}
use Rattle.session_machine.specs.AskedKeys.{AskedKey}
use Rattle.session_machine.specs.declared.session.OpenTransaction.{OpenTransaction}
use Rattle.session_machine.specs.declared.session.Progress.{Progress}
use Rattle.session_machine.specs.declared.session.Request.TheVariants.{Key}
use Rattle.session_machine.specs.declared.fault.StmtFault.TheVariants.{Deadlock, KeyTaken, NoTableToDrop, NullValue, TooManyValues}
use Rattle.session_machine.specs.declared.reply.Outcome.TheVariants.{Done}
use Rattle.session_machine.specs.Tables.{Database, Catalog, Table, Dropped, counts, is_meant, find_table}
use Rattle.session_machine.specs.Waits.{blockers, waits_in}
use Rattle.session_machine.specs.Views.{rows_shown}
use Rattle.session_machine.specs.Transactions.{fresh}
use Rattle.session_machine.specs.Statements.{Surroundings, Effect, fails, answers}
use Rattle.session_machine.specs.Walks.{Stop, Walk, Blocked, Fails}
use Rattle.session_machine.specs.Rows.{Work, Meets, Stops, Putting, columns_in, cols_in, does_nothing, written, inserted}
use Rattle.session_machine.specs.Inner.Statements.{at_key, checked, with_values, at_table, assigning, unless_undefined, insert_from, update_from, delete_from, lock_from, select_rows, unless_wrong, run_open, Visit, stops, goes_on, begun}
use Rattle.session_machine.specs.Targets.{asked_key, going_on, names_at}

-- ---- parts of the catalog

abbrev pub table_columns : Catalog → ℕ → List ColumnTree
table_columns catalog k = unwrap_or (option_map (λ (t : Table). t.made.columns) (slice_get catalog.tables k)) []

abbrev pub table_keys : Catalog → ℕ → List KeyTree
table_keys catalog k = unwrap_or (option_map (λ (t : Table). t.made.keys) (slice_get catalog.tables k)) []

-- what a CREATE and a DROP make of it
abbrev pub with_table : Catalog → CreateTree → TxId → Catalog
with_table catalog made by = record catalog { tables = catalog.tables ++ record { made = made; by = by } ∷ [] }

abbrev pub with_drop : Catalog → ℕ → TxId → Catalog
with_drop catalog k by = record catalog { drops = catalog.drops ++ record { table = k; by = by } ∷ [] }

-- the transaction is one's own
abbrev pub is_own : Option TxId → TxId → Bool
is_own own tx = option_map_or (λ one. same_tx one tx) own false

-- a DROP of the table counts
abbrev pub is_dropped : Content → Option TxId → List Dropped → ℕ → Bool
is_dropped c own drops k = list_any (λ (d : Dropped). (d.table == k) && counts c own d.by) drops

-- the first table that the name means, from the place on
abbrev pub find_from : Content → Option TxId → List Dropped → List ℕ → ℕ → List Table → Option ℕ
find_from c own drops name k [] = None
find_from c own drops name k (t ∷ ts) = if is_meant c own drops name k t then Some k else find_from c own drops name (k + 1) ts

-- the values of the rows that the statement's view shows of its table
abbrev pub shown_to : Database → Work → List (List Value)
shown_to db w = rows_shown db.content w.view w.table

-- ---- at a key

-- others hold the key: the statement waits for them, or fails where that wait would close a cycle
abbrev pub held_by_others : Database → Work → AskedKey → Stop
held_by_others db w asked = if closes (waits_in db w.around.sessions) w.t.tx (blockers db (Key asked) w.t.tx) then Fails Deadlock else Blocked (Key asked)

-- what a row meets at a key of which this is found
abbrev pub meet_by : Database → Work → List ℕ → Bool → List Value → KeyTree → KeyFound → Option Meets
meet_by db w name do_nothing values key KeyIsFree = None
meet_by db w name do_nothing values key (KeyIsTaken version) =
    Some (if do_nothing then does_nothing db w version else Stops (Fails (KeyTaken (key_name name key.primary (names_at (columns_in db w) key.columns)))))
meet_by db w name do_nothing values key KeyIsHeld = Some (Stops (held_by_others db w (asked_key w values key)))

-- ---- at a target

-- at the target of this place the statement stops, or it goes on behind it
abbrev pub unless_stopped : Visit → ℕ → List (List Value) → Option Stop → Walk → Walk
unless_stopped v place rows stop behind = option_map_or (λ stop. record { db = v.db; place = place; rows = rows; stop = Some stop }) stop behind

-- the row is written where all its keys are free
abbrev pub unless_met : Database → Visit → Option Meets → Visit
unless_met db written met = option_map_or (at_key db) met written

-- the row isn't written where it has NULL in a column that may not be
abbrev pub unless_null : List ℕ → Database → Visit → Option (List ℕ) → Visit
unless_null name db due null = option_map_or (λ column. stops db (Fails (NullValue column name))) null due

-- what is done at a row whose values are these
abbrev pub insert_made : Work → Putting → Database → Result (List Value) ValueFault → Visit
insert_made w put db values = with_values db values (λ values. checked w put db None values (inserted db w values))

abbrev pub update_made : Work → Putting → Database → RowId → Result (List Value) ValueFault → Visit
update_made w put db row values = with_values db values (λ values. checked w put db (Some row) values (written db w row (Some values)))

abbrev pub shown_made : Database → Result (List Value) ValueFault → Visit
shown_made db values = with_values db values (λ row. goes_on db (row ∷ []))

-- ---- before the targets

abbrev pub insert_fitting : Database → Work → InsertTree → List AssignedColumn → Option (List ℕ) → Option (List ℕ) → Effect
insert_fitting db w i to in_values in_returning = unless_undefined db w.t in_values (unless_undefined db w.t in_returning
    (if list_any (λ row. nat_lt (length to) (length row)) i.rows then fails db w.t TooManyValues else insert_from db w i 0 []))

abbrev pub insert_to : Database → Work → InsertTree → Result (List AssignedColumn) (List ℕ) → Effect
insert_to db w i columns = assigning db w.t i.table columns (λ to.
    insert_fitting db w i to (undefined_among [] (flat_map (λ row. row) i.rows)) (undefined_among (cols_in db w) (returned_exprs i.returning)))

abbrev pub update_fitting : Database → Work → UpdateTree → Option (List ℕ) → Effect
update_fitting db w u undefined = unless_undefined db w.t undefined (update_from db w u 0 [])

abbrev pub update_to : Database → Work → UpdateTree → Result (List AssignedColumn) (List ℕ) → Effect
update_to db w u columns = assigning db w.t u.table columns (λ to. update_fitting db w u (undefined_among (cols_in db w) (update_exprs u)))

abbrev pub delete_fitting : Database → Work → DeleteTree → Option (List ℕ) → Effect
delete_fitting db w d undefined = unless_undefined db w.t undefined (delete_from db w d 0 [])

abbrev pub select_in : Database → Work → SelectTree → Effect
select_in db w s = unless_wrong db w.t (undefined_among (cols_in db w) (select_exprs s)) (wrong_position (columns_in db w) s) (select_rows db w s s.lock)

abbrev pub select_found : Database → OpenTransaction → Surroundings → SelectTree → List ℕ → Option ℕ → Effect
select_found db t around s name found = at_table db t around name found (λ w. select_in db w s)

-- tables are dropped one after the other, up to the first that isn't there
pub record DroppedUpTo : Type 0 where
  pub db : Database
  pub missing : Option (List ℕ)

-- what follows at a name that means this table, or none; with IF EXISTS none is passed over
abbrev pub dropped_at : Database → OpenTransaction → Bool → List ℕ → (Database → DroppedUpTo) → Option ℕ → DroppedUpTo
dropped_at db t if_exists name others (Some k) = others (record db { catalog = with_drop db.catalog k t.tx })
dropped_at db t if_exists name others None = if if_exists then others db else record { db = db; missing = Some name }

abbrev pub dropped : Database → OpenTransaction → Bool → List (List ℕ) → DroppedUpTo
dropped db t if_exists [] = record { db = db; missing = None }
dropped db t if_exists (name ∷ names) = dropped_at db t if_exists name (λ d. dropped d t if_exists names) (find_table db (Some t.tx) name)

-- tables were dropped up to the one that is missing, if one is
abbrev pub drop_ended : Content → OpenTransaction → Database → Option (List ℕ) → Effect
drop_ended before t db missing = option_map_or (λ name. fails db t (NoTableToDrop name)) missing (answers before db t Done)

-- ---- by what the session's transaction is

-- an implicit transaction begins, and the statement is its first
abbrev pub run_first : Database → Surroundings → StmtTree → Effect
run_first db around stmt = run_open (begun db) (fresh db.content ReadCommitted false) around stmt

-- a SELECT that goes on: one that doesn't lock begins anew
abbrev pub lock_again : Database → OpenTransaction → Surroundings → SelectTree → Progress → Option Lock → Effect
lock_again db t around s p lock = option_map_or (λ l. lock_from db (going_on t around p) s l p.place p.rows) lock (run_open db t around (Selects s))

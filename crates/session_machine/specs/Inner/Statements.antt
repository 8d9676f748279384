-- Statements kind by kind: what the code's inner functions do, and what the proofs go by. `proofs/ByKind` shows that it is the same.
use Rattle.std.specs.Prelude.{ℕ, ◌+◌, ◌++◌, ℤ, Bool, true, false, List, ◌∷◌, length, drop, flat_map, nat_lt, Option, Some, None, option_map, unwrap_or, slice_get, Result, Ok, Err, if◌then◌else◌, []}
use Rattle.std.specs.List.{list_any}
use Rattle.std.specs.Option.{option_map_or, option_or}
use Rattle.std.specs.Result.{result_unwrap_or}
use denote.Enum.Bare.{sameb}
use Rattle.sql_trees.specs.declared.stmt.Level.{Level}
use Rattle.sql_trees.specs.contracts.stmt.Level.{the_type as the_level}
use Rattle.sql_trees.specs.declared.stmt.Level.TheVariants.{ReadCommitted, RepeatableRead}
use Rattle.sql_trees.specs.declared.stmt.Lock.{Lock}
use Rattle.sql_trees.specs.Trees.{Tree}
use Rattle.sql_trees.specs.Statements.{ColumnTree, ItemTree, KeyTree, StmtTree, CreateTree, InsertTree, UpdateTree, DeleteTree, SelectTree}
use Rattle.sql_trees.specs.Statements.{Begin, Commit, Rollback, SetTransaction, SetDeadlockTimeout, Create, DropTables, Inserts, Updates, Deletes, Selects}
use Rattle.sql_values.specs.declared.value.Value.{Value}
use Rattle.sql_values.specs.declared.fault.ValueFault.{ValueFault}
use Rattle.sql_values.specs.declared.fault.ValueFault.TheVariants.{NoColumn}
use Rattle.query_results.specs.Results.{Results}
use Rattle.query_results.specs.Queries.{AssignedColumn, new_values, null_in, row_values, result_of, select_exprs, returned_exprs, columns_assigned, titles_of, undefined_among, wrong_position}
use Rattle.query_results.specs.Updates.{columns_set, delete_exprs, update_exprs, updated}
use Rattle.row_versions.specs.declared.names.RowId.{RowId}
use Rattle.row_versions.specs.declared.write.Seen.{Seen}
use Rattle.row_versions.specs.Log.{Content, commit_count, after_begin}
use Rattle.sql_trees.specs.declared.stmt.Strength.{Strength}
use Rattle.sql_trees.specs.declared.stmt.Strength.TheVariants.{Update}
use Rattle.sql_trees.specs.declared.stmt.Policy.{Policy}
use Rattle.sql_trees.specs.declared.stmt.Policy.TheVariants.{Wait}
use Rattle.row_locks.specs.Held.{with_lock}
use Rattle.update_recheck.specs.Asked.{Asked}
use Rattle.update_recheck.specs.Outcome.{Outcome as TargetOutcome, target_outcome, is_target_locked}
use Rattle.update_recheck.specs.Outcome.Outcome.{Takes, Skips, Waits as WaitsThere, Deadlocks, NotFree as IsNotFree, Serializes, Faults}
use Rattle.update_recheck.specs.Settling.{lock_of}
use Rattle.session_machine.specs.declared.session.OpenTransaction.{OpenTransaction}
use Rattle.session_machine.specs.declared.session.Transaction.{Transaction}
use Rattle.session_machine.specs.declared.session.Transaction.TheVariants.{Closed, Open, Aborted as AbortedOne}
use Rattle.session_machine.specs.declared.session.Progress.{Progress}
use Rattle.session_machine.specs.declared.session.Request.{Request}
use Rattle.session_machine.specs.declared.session.Request.TheVariants.{Row}
use Rattle.session_machine.specs.declared.fault.StmtFault.TheVariants.{Value as OfValue, NullValue, NotSerializable, Deadlock, NotFree, TableExists, NoColumnOf, NoPosition, NoTable, TooManyValues, Aborted}
use Rattle.session_machine.specs.declared.reply.Outcome.{Outcome}
use Rattle.session_machine.specs.declared.reply.Outcome.TheVariants.{Done, Rows, Waits, Failed}
use Rattle.session_machine.specs.Tables.{Database, Table, find_table}
use Rattle.session_machine.specs.Transactions.{fresh, committed, rolled_back, view_of, started}
use Rattle.session_machine.specs.Views.{rows_shown}
use Rattle.session_machine.specs.Waits.{waits_in}
use Rattle.session_machine.specs.Statements.{Surroundings, Effect, fails, answers, turns, drop_tables, level_set}
use Rattle.session_machine.specs.Walks.{Stop, Walk, Blocked, Fails}
use Rattle.session_machine.specs.Targets.{going_on, passing_targets, taken_targets}
use Rattle.session_machine.specs.Rows.{Work, Meets, Stops, PassesOver, Putting, columns_in, cols_in, values_of, written, inserted, meet_key, update_strength}

-- ---- transactions

abbrev pub begun : Database → Database
begun db = record db { content = after_begin db.content }

-- the commits before the transaction's first query, which is the present one if there was none (13.2.2)
abbrev pub first_commits : Content → OpenTransaction → ℕ
first_commits c t = unwrap_or t.snapshot (commit_count c)

-- in Read Committed a query sees what was committed when it began, in Repeatable Read what was when the transaction's first query began
abbrev pub commits_seen : Level → Content → OpenTransaction → ℕ
commits_seen level c t = elim level [ ReadCommitted ↦ commit_count c | RepeatableRead ↦ first_commits c t ]

-- the transaction after a query
abbrev pub moved_on : Content → OpenTransaction → OpenTransaction
moved_on c t = record t { snapshot = Some (first_commits c t); command = t.command + 1 }

abbrev pub after_failure : OpenTransaction → Transaction
after_failure t = if t.explicit then AbortedOne else Closed

-- the levels are the same
abbrev pub is_level : Level → Level → Bool
is_level a b = sameb the_level a b

-- BEGIN makes an implicit transaction explicit; in an explicit one it has no effect
abbrev pub begin_in : Database → OpenTransaction → Option Level → Effect
begin_in db t level = if t.explicit then turns db (Open t) else level_set db t true (unwrap_or level t.level)

-- ---- tables

-- a CREATE is one table more, where its name means none
abbrev pub create : Database → OpenTransaction → CreateTree → Option ℕ → Effect
create db t made (Some k) = fails db t (TableExists made.name)
create db t made None = answers db.content (record db { catalog = record db.catalog { tables = db.catalog.tables ++ record { made = made; by = t.tx } ∷ [] } }) t Done

-- ---- from one target to the next

-- what was done at one target: the database after it, the rows that are answered for it, and what stops the statement there
pub record Visit : Type 0 where
  pub db : Database
  pub rows : List (List Value)
  pub stop : Option Stop

abbrev pub stops : Database → Stop → Visit
stops db stop = record { db = db; rows = []; stop = Some stop }

abbrev pub goes_on : Database → List (List Value) → Visit
goes_on db rows = record { db = db; rows = rows; stop = None }

-- one target after the other is visited, from this place on, up to the one at which the statement stops
abbrev pub walked : {A : Type 0} → (Database → A → Visit) → Database → ℕ → List (List Value) → List A → Walk
walked visit db place rows [] = record { db = db; place = place; rows = rows; stop = None }
walked visit db place rows (x ∷ xs) =
    let v = visit db x in
    option_map_or (λ stop. record { db = v.db; place = place; rows = rows; stop = Some stop }) v.stop (walked visit v.db (place + 1) (rows ++ v.rows) xs)

-- ---- at a row

-- the values of a row are evaluated, and then this is done with them
abbrev pub with_values : Database → Result (List Value) ValueFault → (List Value → Visit) → Visit
with_values db (Err fault) visit = stops db (Fails (OfValue fault))
with_values db (Ok values) visit = visit values

abbrev pub keys_in : Database → Work → List KeyTree
keys_in db w = unwrap_or (option_map (λ (t : Table). t.made.keys) (slice_get db.catalog.tables w.table)) []

-- the first of its keys that isn't free decides (5.5.3)
abbrev pub meet_keys : Database → Work → Putting → List Value → Option RowId → List KeyTree → Option Meets
meet_keys db w put values except [] = None
meet_keys db w put values except (key ∷ keys) = option_or (meet_key db w put.table put.do_nothing values except key) (meet_keys db w put values except keys)

-- what is answered for a row that was written or deleted
abbrev pub shows : Work → Option (List ItemTree) → Database → List Value → Visit
shows w None db row = goes_on db []
shows w (Some items) db row = with_values db (row_values (cols_in db w) items row) (λ shown. goes_on db (shown ∷ []))

abbrev pub at_key : Database → Meets → Visit
at_key db (Stops stop) = stops db stop
at_key db PassesOver = goes_on db []

-- a row with these values is about to be written, which makes this database: a NULL where none may be stops the statement, and then the first key that isn't free decides
abbrev pub checked : Work → Putting → Database → Option RowId → List Value → Database → Visit
checked w put db except values after =
    option_map_or (λ column. stops db (Fails (NullValue column put.table))) (null_in (columns_in db w) values)
    (option_map_or (at_key db) (meet_keys db w put values except (keys_in db w)) (shows w put.returning after values))

-- INSERT at a row of its VALUES: it is evaluated and assigned, its NULLs and then its keys are checked, and it is written
abbrev pub insert_one : Work → Putting → List AssignedColumn → Database → List Tree → Visit
insert_one w put to db row = with_values db (new_values (length (columns_in db w)) to row) (λ values. checked w put db None values (inserted db w values))

-- one target, as it is asked for
abbrev pub ask : Database → Work → Strength → Policy → Option Tree → Seen → Asked
ask db w strength policy filter seen = record { tx = w.t.tx; level = w.t.level; seen = seen; strength = strength; policy = policy; condition = filter; cols = cols_in db w }

-- the locks once the target is settled
abbrev pub settled : Database → Work → Asked → Database
settled db w a = record db { held = if is_target_locked db.content db.held (waits_in db w.around.sessions) a then with_lock db.held (lock_of a) else db.held }

-- what is done at a target of this table that came to this: with the version that it takes, or without any
abbrev pub at_outcome : List ℕ → (Database → Seen → Visit) → Database → Asked → TargetOutcome → Visit
at_outcome name act db a (Takes seen) = act db seen
at_outcome name act db a Skips = goes_on db []
at_outcome name act db a WaitsThere = stops db (Blocked (Row a.seen.row a.strength))
at_outcome name act db a Deadlocks = stops db (Fails Deadlock)
at_outcome name act db a IsNotFree = stops db (Fails (NotFree name))
at_outcome name act db a Serializes = stops db (Fails NotSerializable)
at_outcome name act db a (Faults fault) = stops db (Fails (OfValue fault))

-- a target is settled first, and then acted on
abbrev pub at_target : List ℕ → (Database → Seen → Visit) → Database → Work → Asked → Visit
at_target name act db w a = at_outcome name act (settled db w a) a (target_outcome db.content db.held (waits_in db w.around.sessions) a)

abbrev pub put_insert : InsertTree → Putting
put_insert i = record { table = i.table; do_nothing = i.do_nothing; returning = i.returning }

abbrev pub put_update : UpdateTree → Putting
put_update u = record { table = u.table; do_nothing = false; returning = u.returning }

-- UPDATE with the version that it takes
abbrev pub update_with : Work → UpdateTree → List AssignedColumn → Database → Seen → Visit
update_with w u to db seen =
    with_values db (updated (cols_in db w) to u.sets (values_of db seen)) (λ values. checked w (put_update u) db (Some seen.row) values (written db w seen.row (Some values)))

abbrev pub update_one : Work → UpdateTree → List AssignedColumn → Database → Seen → Visit
update_one w u to db seen = at_target u.table (update_with w u to) db w (ask db w (update_strength db w to u seen.row) Wait u.filter seen)

-- DELETE with the version that it takes
abbrev pub delete_with : Work → DeleteTree → Database → Seen → Visit
delete_with w d db seen = shows w d.returning (written db w seen.row None) (values_of db seen)

abbrev pub delete_one : Work → DeleteTree → Database → Seen → Visit
delete_one w d db seen = at_target d.table (delete_with w d) db w (ask db w Update Wait d.filter seen)

-- a locking SELECT with the version that it takes
abbrev pub lock_with : Work → SelectTree → Database → Seen → Visit
lock_with w s db seen = shows w (Some s.items) db (values_of db seen)

abbrev pub lock_one : Work → SelectTree → Lock → Database → Seen → Visit
lock_one w s l db seen = at_target (unwrap_or s.table []) (lock_with w s) db w (ask db w l.strength l.policy s.filter seen)

-- ---- over all of them

-- a statement goes on from its place among these targets; where they couldn't be found, it fails
abbrev pub walked_from : {A : Type 0} → (Database → A → Visit) → Database → ℕ → List (List Value) → Result (List A) ValueFault → Walk
walked_from visit db place rows (Err fault) = record { db = db; place = place; rows = rows; stop = Some (Fails (OfValue fault)) }
walked_from visit db place rows (Ok targets) = walked visit db place rows (drop place targets)

-- ---- statements

-- what a statement finds that begins: its view is taken now
abbrev pub beginning : Database → OpenTransaction → Surroundings → ℕ → Work
beginning db t around k = record { t = t; table = k; view = view_of db.content t; around = around }

-- where a statement stands that waits for this: its table and view, its place among its targets, and the rows so far
abbrev pub standing : Work → Walk → Request → Progress
standing w walk request =
    record { table = record { 0 = w.table }; view = w.view; place = walk.place; rows = walk.rows; wait = record { number = w.around.number; request = request } }

-- the statement waits: its transaction's snapshot is taken, and it stands where it has come to
abbrev pub pauses : Content → Work → Walk → Request → Effect
pauses before w walk request = record { db = walk.db; transaction = Open (started before w.t); statement = Some (standing w walk request); outcome = Waits }

-- what a statement comes to that has gone so far: it is done, waits, or fails
abbrev pub comes_to : Content → Work → (List (List Value) → Outcome) → Walk → Option Stop → Effect
comes_to before w outcome walk None = answers before walk.db w.t (outcome walk.rows)
comes_to before w outcome walk (Some (Blocked request)) = pauses before w walk request
comes_to before w outcome walk (Some (Fails fault)) = fails walk.db w.t fault

abbrev pub after_walk : Content → Work → (List (List Value) → Outcome) → Walk → Effect
after_walk before w outcome walk = comes_to before w outcome walk walk.stop

-- a statement with these items answers its rows, one without none
abbrev pub answer : List ColumnTree → Option (List ItemTree) → List (List Value) → Outcome
answer columns items rows = option_map_or (λ is. Rows (record { titles = titles_of columns is; rows = rows })) items Done

-- no column is assigned where one isn't there
abbrev pub assigned_to : Result (List AssignedColumn) (List ℕ) → List AssignedColumn
assigned_to found = result_unwrap_or found []

-- a statement begins at the table that its name means; where it means none, it fails
abbrev pub at_table : Database → OpenTransaction → Surroundings → List ℕ → Option ℕ → (Work → Effect) → Effect
at_table db t around name found runs = option_map_or (λ k. runs (beginning db t around k)) found (fails db t (NoTable name))

-- it goes on with the columns that it assigns; where one isn't there, it fails
abbrev pub assigning : Database → OpenTransaction → List ℕ → Result (List AssignedColumn) (List ℕ) → (List AssignedColumn → Effect) → Effect
assigning db t table (Err column) runs = fails db t (NoColumnOf column table)
assigning db t table (Ok to) runs = runs to

-- it fails where its expressions name a column that isn't there; else this is due
abbrev pub unless_undefined : Database → OpenTransaction → Option (List ℕ) → Effect → Effect
unless_undefined db t undefined due = option_map_or (λ name. fails db t (OfValue (NoColumn name))) undefined due

-- INSERT, from this place among the rows of its VALUES on
abbrev pub insert_from : Database → Work → InsertTree → ℕ → List (List Value) → Effect
insert_from db w i place rows =
    after_walk db.content w (answer (columns_in db w) i.returning) (walked (insert_one w (put_insert i) (assigned_to (columns_assigned (columns_in db w) i.columns))) db place rows (drop place i.rows))

-- INSERT at the table that is found; its VALUES may name no column, and none of their rows may have more of them than there are columns to assign
abbrev pub insert : Database → OpenTransaction → Surroundings → InsertTree → Option ℕ → Effect
insert db t around i found = at_table db t around i.table found (λ w. assigning db t i.table (columns_assigned (columns_in db w) i.columns) (λ to.
    unless_undefined db t (undefined_among [] (flat_map (λ row. row) i.rows)) (unless_undefined db t (undefined_among (cols_in db w) (returned_exprs i.returning))
    (if list_any (λ row. nat_lt (length to) (length row)) i.rows then fails db t TooManyValues else insert_from db w i 0 []))))

-- UPDATE, from this place among its targets on
abbrev pub update_from : Database → Work → UpdateTree → ℕ → List (List Value) → Effect
update_from db w u place rows =
    after_walk db.content w (answer (columns_in db w) u.returning) (walked_from (update_one w u (assigned_to (columns_set (columns_in db w) u.sets))) db place rows (passing_targets db w u.filter))

-- UPDATE at the table that is found
abbrev pub update : Database → OpenTransaction → Surroundings → UpdateTree → Option ℕ → Effect
update db t around u found = at_table db t around u.table found (λ w. assigning db t u.table (columns_set (columns_in db w) u.sets) (λ to.
    unless_undefined db t (undefined_among (cols_in db w) (update_exprs u)) (update_from db w u 0 [])))

-- DELETE, from this place among its targets on
abbrev pub delete_from : Database → Work → DeleteTree → ℕ → List (List Value) → Effect
delete_from db w d place rows = after_walk db.content w (answer (columns_in db w) d.returning) (walked_from (delete_one w d) db place rows (passing_targets db w d.filter))

-- DELETE at the table that is found
abbrev pub delete : Database → OpenTransaction → Surroundings → DeleteTree → Option ℕ → Effect
delete db t around d found = at_table db t around d.table found (λ w. unless_undefined db t (undefined_among (cols_in db w) (delete_exprs d)) (delete_from db w d 0 []))

-- a locking SELECT, from this place among its targets on
abbrev pub lock_from : Database → Work → SelectTree → Lock → ℕ → List (List Value) → Effect
lock_from db w s l place rows =
    after_walk db.content w (answer (columns_in db w) (Some s.items)) (walked_from (lock_one w s l) db place rows (taken_targets db w s))

-- a SELECT has this result
abbrev pub answered : Database → OpenTransaction → Result Results ValueFault → Effect
answered db t (Ok set) = answers db.content db t (Rows set)
answered db t (Err fault) = fails db t (OfValue fault)

abbrev pub select_rows : Database → Work → SelectTree → Option Lock → Effect
select_rows db w s None = answered db w.t (result_of s (columns_in db w) (rows_shown db.content w.view w.table))
select_rows db w s (Some l) = lock_from db w s l 0 []

-- it fails where it names a column that isn't there, and then where it sorts by a position that isn't there
abbrev pub unless_wrong : Database → OpenTransaction → Option (List ℕ) → Option ℤ → Effect → Effect
unless_wrong db t undefined position due = unless_undefined db t undefined (option_map_or (λ n. fails db t (NoPosition n)) position due)

-- without FROM there is one row, without columns
abbrev pub select : Database → OpenTransaction → Surroundings → SelectTree → Option (List ℕ) → Effect
select db t around s None = unless_wrong db t (undefined_among [] (select_exprs s)) (wrong_position [] s) (answered db t (result_of s [] ([] ∷ [])))
select db t around s (Some name) = at_table db t around name (find_table db (Some t.tx) name) (λ w.
    unless_wrong db t (undefined_among (cols_in db w) (select_exprs s)) (wrong_position (columns_in db w) s) (select_rows db w s s.lock))

-- a statement that begins in an open transaction
abbrev pub run_open : Database → OpenTransaction → Surroundings → StmtTree → Effect
run_open db t around (Begin level) = begin_in db t level
run_open db t around Commit = turns (committed db t.tx) Closed
run_open db t around Rollback = turns (rolled_back db t.tx) Closed
run_open db t around (SetTransaction level) = level_set db t t.explicit level
run_open db t around SetDeadlockTimeout = turns db (Open t)
run_open db t around (Create c) = create db t c (find_table db (Some t.tx) c.name)
run_open db t around (DropTables d) = drop_tables db t d.if_exists d.names
run_open db t around (Inserts i) = insert db t around i (find_table db (Some t.tx) i.table)
run_open db t around (Updates u) = update db t around u (find_table db (Some t.tx) u.table)
run_open db t around (Deletes d) = delete db t around d (find_table db (Some t.tx) d.table)
run_open db t around (Selects s) = select db t around s s.table

-- a statement where no transaction is open: of one that works an implicit transaction begins, at Read Committed
abbrev pub run_closed : Database → Surroundings → StmtTree → Effect
run_closed db around Commit = turns db Closed
run_closed db around Rollback = turns db Closed
run_closed db around SetDeadlockTimeout = turns db Closed
run_closed db around stmt = run_open (begun db) (fresh db.content ReadCommitted false) around stmt

-- a statement that goes on: at its place among its targets, in its view; of the others none is ever in the middle of its targets
abbrev pub run_on : Database → OpenTransaction → Surroundings → Progress → StmtTree → Effect
run_on db t around p (Inserts i) = insert_from db (going_on t around p) i p.place p.rows
run_on db t around p (Updates u) = update_from db (going_on t around p) u p.place p.rows
run_on db t around p (Deletes d) = delete_from db (going_on t around p) d p.place p.rows
run_on db t around p (Selects s) = option_map_or (λ l. lock_from db (going_on t around p) s l p.place p.rows) s.lock (select db t around s s.table)
run_on db t around p stmt = run_open db t around stmt

abbrev pub is_end : StmtTree → Bool
is_end Commit = true
is_end Rollback = true
is_end stmt = false

-- in an aborted transaction all but COMMIT and ROLLBACK fail
abbrev pub run_aborted : Database → StmtTree → Effect
run_aborted db stmt = if is_end stmt then turns db Closed else record { db = db; transaction = AbortedOne; statement = None; outcome = Failed Aborted }

-- any statement
abbrev pub run_piecewise : Database → Transaction → Option Progress → Surroundings → StmtTree → Effect
run_piecewise db Closed statement around stmt = run_closed db around stmt
run_piecewise db (Open t) None around stmt = run_open db t around stmt
run_piecewise db (Open t) (Some p) around stmt = run_on db t around p stmt
run_piecewise db AbortedOne statement around stmt = run_aborted db stmt

-- To be believed. A statement is run: it begins, or goes on where it waits, by what its session's transaction is (PostgreSQL manual, the pages of the statements, and 13.2).
use Rattle.std.specs.Prelude.{ℕ, ◌++◌, Bool, true, false, List, ◌∷◌, length, flat_map, nat_lt, Option, Some, None, option_map, unwrap_or, Ok, Err, if◌then◌else◌, []}
use Rattle.std.specs.List.{list_any}
use Rattle.std.specs.Option.{option_map_or, option_or}
use Rattle.sql_trees.specs.declared.stmt.Level.TheVariants.{ReadCommitted}
use Rattle.sql_trees.specs.Trees.{Tree}
use Rattle.sql_trees.specs.Statements.{ColumnTree, ItemTree, StmtTree}
use Rattle.sql_trees.specs.Statements.{Begin, Commit, Rollback, SetTransaction, SetDeadlockTimeout, Create, DropTables, Inserts, Updates, Deletes, Selects}
use Rattle.sql_values.specs.declared.value.Value.{Value}
use Rattle.sql_values.specs.declared.fault.ValueFault.TheVariants.{NoColumn}
use Rattle.sql_values.specs.Expressions.{Cols}
use Rattle.query_results.specs.Queries.{cols_of, result_of, select_exprs, returned_exprs, columns_assigned, titles_of, undefined_among, wrong_position}
use Rattle.query_results.specs.Updates.{columns_set, delete_exprs, update_exprs}
use Rattle.session_machine.specs.declared.session.OpenTransaction.{OpenTransaction}
use Rattle.session_machine.specs.declared.session.Transaction.{Transaction}
use Rattle.session_machine.specs.declared.session.Transaction.TheVariants.{Closed, Open, Aborted as AbortedOne}
use Rattle.session_machine.specs.declared.session.Progress.{Progress}
use Rattle.session_machine.specs.declared.fault.StmtFault.{StmtFault}
use Rattle.session_machine.specs.declared.fault.StmtFault.TheVariants.{Value as OfValue, NoColumnOf, NoPosition, NoTable, TableExists, TooManyValues, Aborted}
use Rattle.session_machine.specs.declared.reply.Outcome.TheVariants.{Done, Rows, Waits, Failed}
use Rattle.session_machine.specs.Tables.{Database, find_table}
use Rattle.row_versions.specs.Log.{after_begin}
use Rattle.session_machine.specs.Transactions.{fresh, committed, rolled_back, view_of, started}
use Rattle.session_machine.specs.Views.{rows_shown}
use Rattle.session_machine.specs.Statements.{Surroundings, Effect, fails, answers, turns, drop_tables, level_set}
use Rattle.session_machine.specs.Walks.{Walk, Blocked, Fails}
use Rattle.session_machine.specs.Rows.{Work, columns_in, walk_of}

-- the expressions name a column that isn't there
abbrev pub undefined_in : Cols → List Tree → Option StmtFault
undefined_in cols es = option_map (λ name. OfValue (NoColumn name)) (undefined_among cols es)

-- what is wrong with a statement over a table of these columns, before it looks at any row: it assigns to a column that isn't there, or names one; then INSERT has
-- more values in a row than there are columns for them, or SELECT sorts by a position that isn't there
abbrev pub fault_in : List ColumnTree → StmtTree → Option StmtFault
fault_in columns (Inserts i) = elim (columns_assigned columns i.columns) [
  | Err column ↦ Some (NoColumnOf column i.table)
  | Ok to ↦
      option_or (undefined_in [] (flat_map (λ row. row) i.rows)) (option_or (undefined_in (cols_of columns) (returned_exprs i.returning))
      (if list_any (λ row. nat_lt (length to) (length row)) i.rows then Some TooManyValues else None))
]
fault_in columns (Updates u) = elim (columns_set columns u.sets) [ Err column ↦ Some (NoColumnOf column u.table) | Ok to ↦ undefined_in (cols_of columns) (update_exprs u) ]
fault_in columns (Deletes d) = undefined_in (cols_of columns) (delete_exprs d)
fault_in columns (Selects s) = option_or (undefined_in (cols_of columns) (select_exprs s)) (option_map NoPosition (wrong_position columns s))
fault_in columns stmt = None

-- the items of a statement that goes over rows and answers a result: a locking SELECT's, or RETURNING's
abbrev pub items_answered : StmtTree → Option (List ItemTree)
items_answered (Inserts i) = i.returning
items_answered (Updates u) = u.returning
items_answered (Deletes d) = d.returning
items_answered (Selects s) = Some s.items
items_answered stmt = None

-- what a statement comes to that has gone so far: it is done, and answers its rows, if it has items for them; or it waits where it stands, its transaction's snapshot taken; or it fails
abbrev pub leads_to : Database → Work → StmtTree → Walk → Effect
leads_to db w stmt walk = elim walk.stop [
  | None ↦ answers db.content walk.db w.t (option_map_or (λ items. Rows (record { titles = titles_of (columns_in db w) items; rows = walk.rows })) (items_answered stmt) Done)
  | Some (Blocked request) ↦
      let at : Progress = record { table = record { 0 = w.table }; view = w.view; place = walk.place; rows = walk.rows; wait = record { number = w.around.number; request = request } } in
      record { db = walk.db; transaction = Open (started db.content w.t); statement = Some at; outcome = Waits }
  | Some (Fails fault) ↦ fails walk.db w.t fault
]

-- a statement without targets answers at once: a SELECT its result, of a table with these columns that shows these rows
abbrev pub at_once : Database → OpenTransaction → List ColumnTree → List (List Value) → StmtTree → Effect
at_once db t columns rows (Selects s) = elim (result_of s columns rows) [ Ok set ↦ answers db.content db t (Rows set) | Err fault ↦ fails db t (OfValue fault) ]
at_once db t columns rows stmt = answers db.content db t Done

-- a statement begins at the table that its name means, in the view of now, and goes over its targets; where the name means none, or something is wrong with it, it fails
abbrev pub begin_at : Database → OpenTransaction → Surroundings → List ℕ → StmtTree → Effect
begin_at db t around name stmt = elim (find_table db (Some t.tx) name) [
  | None ↦ fails db t (NoTable name)
  | Some k ↦
      let w : Work = record { t = t; table = k; view = view_of db.content t; around = around } in
      let shown = at_once db t (columns_in db w) (rows_shown db.content w.view k) stmt in
      let walk = walk_of w stmt (record { db = db; place = 0; rows = []; stop = None }) in
      option_map_or (fails db t) (fault_in (columns_in db w) stmt) (option_map_or (leads_to db w stmt) walk shown)
]

-- a statement that begins in an open transaction; a CREATE is one table more, where its name means none, and a SELECT without FROM has one row, without columns
abbrev pub run_in : Database → OpenTransaction → Surroundings → StmtTree → Effect
run_in db t around (Begin level) = if t.explicit then turns db (Open t) else level_set db t true (unwrap_or level t.level)
run_in db t around Commit = turns (committed db t.tx) Closed
run_in db t around Rollback = turns (rolled_back db t.tx) Closed
run_in db t around (SetTransaction level) = level_set db t t.explicit level
run_in db t around SetDeadlockTimeout = turns db (Open t)
run_in db t around (Create c) = option_map_or (λ k. fails db t (TableExists c.name)) (find_table db (Some t.tx) c.name)
    (answers db.content (record db { catalog = record db.catalog { tables = db.catalog.tables ++ record { made = c; by = t.tx } ∷ [] } }) t Done)
run_in db t around (DropTables d) = drop_tables db t d.if_exists d.names
run_in db t around (Inserts i) = begin_at db t around i.table (Inserts i)
run_in db t around (Updates u) = begin_at db t around u.table (Updates u)
run_in db t around (Deletes d) = begin_at db t around d.table (Deletes d)
run_in db t around (Selects s) =
    option_map_or (λ name. begin_at db t around name (Selects s)) s.table (option_map_or (fails db t) (fault_in [] (Selects s)) (at_once db t [] ([] ∷ []) (Selects s)))

-- a statement, by what its session's transaction is. In an open one it begins, or goes on at its place among its targets, in its view; one without targets is never
-- in the middle of them. Where none is open, an implicit one begins with a statement that works, at Read Committed. In an aborted one all but COMMIT and ROLLBACK fail
abbrev pub run_stmt : Database → Transaction → Option Progress → Surroundings → StmtTree → Effect
run_stmt db (Open t) None around stmt = run_in db t around stmt
run_stmt db (Open t) (Some p) around stmt =
    let w : Work = record { t = t; table = p.table.0; view = p.view; around = around } in
    option_map_or (leads_to db w stmt) (walk_of w stmt (record { db = db; place = p.place; rows = p.rows; stop = None })) (run_in db t around stmt)
run_stmt db transaction statement around Commit = turns db Closed
run_stmt db transaction statement around Rollback = turns db Closed
run_stmt db Closed statement around SetDeadlockTimeout = turns db Closed
run_stmt db Closed statement around stmt = run_in (record db { content = after_begin db.content }) (fresh db.content ReadCommitted false) around stmt
run_stmt db AbortedOne statement around stmt = record { db = db; transaction = AbortedOne; statement = None; outcome = Failed Aborted }

abbrev pub is_definition : StmtTree → Bool
is_definition stmt = elim stmt [ Create c ↦ true | DropTables d ↦ true | other ↦ false ]

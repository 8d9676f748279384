-- A statement that is run does what its kind does.
use Rattle.std.proofs.Common.{◌≡◌, refl, ap, ◌∙◌, Bool, true, false, ℕ, ◌+◌, List, [], ◌∷◌, ◌++◌, drop, length}
use Rattle.std.specs.Prelude.{ℤ, Option, Some, None, option_map, unwrap_or, slice_get, filter_map, flat_map, nat_lt, Result, Ok, Err, if◌then◌else◌}
use Rattle.std.specs.List.{cons_option, list_any}
use Rattle.std.specs.Option.{option_map_or, option_or}
use Rattle.sql_trees.specs.declared.stmt.Level.TheVariants.{ReadCommitted}
use Rattle.sql_trees.specs.declared.stmt.Lock.{Lock}
use Rattle.sql_trees.specs.Trees.{Tree}
use Rattle.sql_trees.specs.Statements.{ItemTree, KeyTree, StmtTree, CreateTree, InsertTree, UpdateTree, DeleteTree, SelectTree}
use Rattle.sql_trees.specs.Statements.{Begin, Commit, Rollback, SetTransaction, SetDeadlockTimeout, Create, DropTables, Inserts, Updates, Deletes, Selects}
use Rattle.sql_values.specs.declared.value.Value.{Value}
use Rattle.sql_values.specs.declared.fault.ValueFault.{ValueFault}
use Rattle.sql_values.specs.declared.fault.ValueFault.TheVariants.{NoColumn}
use Rattle.query_results.specs.Queries.{AssignedColumn, columns_assigned, new_values, null_in, passing, row_values, result_of, returned_exprs, select_exprs, taken, undefined_among, wrong_position}
use Rattle.query_results.specs.Results.{Results}
use Rattle.query_results.specs.Updates.{columns_set, delete_exprs, update_exprs, updated}
use Rattle.row_versions.specs.declared.names.RowId.{RowId}
use Rattle.row_versions.specs.declared.write.Seen.{Seen}
use Rattle.sql_trees.specs.declared.stmt.Strength.TheVariants.{Update}
use Rattle.sql_trees.specs.declared.stmt.Policy.TheVariants.{Wait}
use Rattle.update_recheck.specs.Asked.{Asked}
use Rattle.update_recheck.specs.Outcome.{Outcome, target_outcome}
use Rattle.update_recheck.specs.Outcome.Outcome.{Takes, Skips, Waits, Deadlocks, NotFree as IsNotFree, Serializes, Faults}
use Rattle.session_machine.specs.declared.session.OpenTransaction.{OpenTransaction}
use Rattle.session_machine.specs.declared.session.Transaction.{Transaction}
use Rattle.session_machine.specs.declared.session.Transaction.TheVariants.{Closed, Open, Aborted}
use Rattle.session_machine.specs.declared.session.Progress.{Progress}
use Rattle.session_machine.specs.declared.fault.StmtFault.{StmtFault}
use Rattle.session_machine.specs.declared.fault.StmtFault.TheVariants.{Value as OfValue, NullValue, NoColumnOf, NoPosition, NoTable, TableExists, TooManyValues, NotSerializable, Deadlock, NotFree}
use Rattle.session_machine.specs.Tables.{Database, Catalog, find_table}
use Rattle.session_machine.specs.Transactions.{fresh}
use Rattle.session_machine.specs.Views.{rows_shown}
use Rattle.session_machine.specs.Waits.{waits_in}
use Rattle.session_machine.specs.Statements.{Surroundings, Effect, answers, fails}
use Rattle.session_machine.specs.declared.reply.Outcome.TheVariants.{Done, Rows}
use Rattle.session_machine.specs.declared.session.Request.TheVariants.{Row}
use Rattle.session_machine.specs.Walks.{Walk, Blocked, Fails, passed, stopped, over, Stop}
use Rattle.session_machine.specs.Rows.{Work, Meets, Stops, PassesOver, Putting, columns_in, cols_in, values_of, written, inserted, meet_key, meets, returned, put_row, insert_row, act_on, update_strength, visit_target, over_targets, walk_of}
use Rattle.session_machine.specs.Running.{leads_to, at_once, begin_at, fault_in, run_in, run_stmt}
use Rattle.session_machine.specs.Inner.Statements.{keys_in, meet_keys, shows, at_key, put_insert, put_update, answer, checked, with_values, insert_one, ask, settled, at_outcome, update_with, update_one, delete_with, delete_one, lock_with, lock_one, walked_from, Visit, stops, goes_on, walked, begun}
use Rattle.session_machine.specs.Inner.Statements.{create, beginning, after_walk, assigned_to, unless_undefined, unless_wrong, run_aborted, insert_from, insert, update_from, update, delete, lock_from, answered, select_rows, select, run_open, run_closed, run_on, run_piecewise}
use Rattle.session_machine.specs.Targets.{seen_by, at_places, going_on}
use Rattle.session_machine.specs.Inner.Pieces.{with_table, unless_stopped, insert_to, update_to, select_found}

-- ---- at a row

-- the first key that isn't free, by looking at one after the other
meets_first : (db : Database) (w : Work) (put : Putting) (values : List Value) (except : Option RowId) (keys : List KeyTree)
    → slice_get (filter_map (meet_key db w put.table put.do_nothing values except) keys) 0 ≡ meet_keys db w put values except keys
meets_first db w put values except [] = refl
meets_first db w put values except (key ∷ keys) = by (meet_key db w put.table put.do_nothing values except key) (meets_first db w put values except keys) where
  others : List Meets
  others = filter_map (meet_key db w put.table put.do_nothing values except) keys

  by : (o : Option Meets) → slice_get others 0 ≡ meet_keys db w put values except keys → slice_get (cons_option o others) 0 ≡ option_or o (meet_keys db w put values except keys)
  by None rest = rest
  by (Some met) rest = refl

-- what is done at one target, put onto the walk so far
abbrev onto : Walk → Visit → Walk
onto walk v =
    option_map_or (λ stop. record { db = v.db; place = walk.place; rows = walk.rows; stop = Some stop }) v.stop
    (record { db = v.db; place = walk.place + 1; rows = walk.rows ++ v.rows; stop = None })

-- what is answered for a row
shows_so : (w : Work) (items : Option (List ItemTree)) (walk : Walk) (db : Database) (row : List Value) → returned w items walk db row ≡ onto walk (shows w items db row)
shows_so w None walk db row = refl
shows_so w (Some items) walk db row = by (row_values (cols_in db w) items row) where
  by : (r : Result (List Value) ValueFault)
      → (elim r [ Ok shown ↦ passed walk db (shown ∷ []) | Err fault ↦ stopped (record walk { db = db }) (Fails (OfValue fault)) ]) ≡ onto walk (with_values db r (λ shown. goes_on db (shown ∷ [])))
  by (Ok shown) = refl
  by (Err fault) = refl

-- a NULL stops it before any key
puts_so : (walk : Walk) (name : List ℕ) (null : Option (List ℕ)) (first met : Option Meets) (done : Walk) (visit : Visit) → first ≡ met → done ≡ onto walk visit
    → option_map_or (meets walk) (option_or (option_map (λ column. Stops (Fails (NullValue column name))) null) first) done
    ≡ onto walk (option_map_or (λ column. stops walk.db (Fails (NullValue column name))) null (option_map_or (at_key walk.db) met visit))
puts_so walk name (Some column) first met done visit same put = refl
puts_so walk name None first met done visit same put = ap (λ (o : Option Meets). option_map_or (meets walk) o done) same ∙ by met where
  by : (o : Option Meets) → option_map_or (meets walk) o done ≡ onto walk (option_map_or (at_key walk.db) o visit)
  by None = put
  by (Some (Stops stop)) = refl
  by (Some PassesOver) = refl

puts_new : (w : Work) (put : Putting) (r : Result (List Value) ValueFault) (walk : Walk)
    → put_row w put None r walk ≡ onto walk (with_values walk.db r (λ values. checked w put walk.db None values (inserted walk.db w values)))
puts_new w put (Err fault) walk = refl
puts_new w put (Ok values) walk =
    let keys = keys_in walk.db w in
    let after = inserted walk.db w values in
    puts_so walk put.table (null_in (columns_in walk.db w) values) _ (meet_keys walk.db w put values None keys) _ (shows w put.returning after values)
    (meets_first walk.db w put values None keys) (shows_so w put.returning walk after values)

puts_over : (w : Work) (put : Putting) (row : RowId) (r : Result (List Value) ValueFault) (walk : Walk)
    → put_row w put (Some row) r walk ≡ onto walk (with_values walk.db r (λ values. checked w put walk.db (Some row) values (written walk.db w row (Some values))))
puts_over w put row (Err fault) walk = refl
puts_over w put row (Ok values) walk =
    let keys = keys_in walk.db w in
    let after = written walk.db w row (Some values) in
    puts_so walk put.table (null_in (columns_in walk.db w) values) _ (meet_keys walk.db w put values (Some row) keys) _ (shows w put.returning after values)
    (meets_first walk.db w put values (Some row) keys) (shows_so w put.returning walk after values)

-- ---- tables stay as they are from one target to the next

shows_stays : (w : Work) (items : Option (List ItemTree)) (db : Database) (row : List Value) → (shows w items db row).db.catalog ≡ db.catalog
shows_stays w None db row = refl
shows_stays w (Some items) db row = by (row_values (cols_in db w) items row) where
  by : (r : Result (List Value) ValueFault) → (with_values db r (λ shown. goes_on db (shown ∷ []))).db.catalog ≡ db.catalog
  by (Ok shown) = refl
  by (Err fault) = refl

checked_stays : (w : Work) (put : Putting) (db : Database) (except : Option RowId) (values : List Value) (after : Database) → after.catalog ≡ db.catalog
    → (checked w put db except values after).db.catalog ≡ db.catalog
checked_stays w put db except values after same = at_null (null_in (columns_in db w) values) where
  by_key : (o : Option Meets) → (option_map_or (at_key db) o (shows w put.returning after values)).db.catalog ≡ db.catalog
  by_key None = shows_stays w put.returning after values ∙ same
  by_key (Some (Stops stop)) = refl
  by_key (Some PassesOver) = refl

  keys : Visit
  keys = option_map_or (at_key db) (meet_keys db w put values except (keys_in db w)) (shows w put.returning after values)

  at_null : (o : Option (List ℕ)) → (option_map_or (λ column. stops db (Fails (NullValue column put.table))) o keys).db.catalog ≡ db.catalog
  at_null None = by_key (meet_keys db w put values except (keys_in db w))
  at_null (Some column) = refl

insert_stays : (w : Work) (put : Putting) (to : List AssignedColumn) (db : Database) (row : List Tree) → (insert_one w put to db row).db.catalog ≡ db.catalog
insert_stays w put to db row = by (new_values (length (columns_in db w)) to row) where
  by : (r : Result (List Value) ValueFault) → (with_values db r (λ values. checked w put db None values (inserted db w values))).db.catalog ≡ db.catalog
  by (Err fault) = refl
  by (Ok values) = checked_stays w put db None values (inserted db w values) refl

update_stays : (w : Work) (u : UpdateTree) (to : List AssignedColumn) (db : Database) (seen : Seen) → (update_one w u to db seen).db.catalog ≡ db.catalog
update_stays w u to db seen = at (target_outcome db.content db.held (waits_in db w.around.sessions) a) where
  a : Asked
  a = ask db w (update_strength db w to u seen.row) Wait u.filter seen

  d : Database
  d = settled db w a

  by : (version : Seen) (r : Result (List Value) ValueFault)
      → (with_values d r (λ values. checked w (put_update u) d (Some version.row) values (written d w version.row (Some values)))).db.catalog ≡ db.catalog
  by version (Err fault) = refl
  by version (Ok values) = checked_stays w (put_update u) d (Some version.row) values (written d w version.row (Some values)) refl

  at : (o : Outcome) → (at_outcome u.table (update_with w u to) d a o).db.catalog ≡ db.catalog
  at (Takes version) = by version (updated (cols_in d w) to u.sets (values_of d version))
  at Skips = refl
  at Waits = refl
  at Deadlocks = refl
  at IsNotFree = refl
  at Serializes = refl
  at (Faults fault) = refl

-- ---- over the targets

abbrev at_walk : Database → ℕ → List (List Value) → Walk
at_walk db place rows = record { db = db; place = place; rows = rows; stop = None }

-- a walk that is stopped visits nothing more
rests : {A : Type 0} (visit : Walk → A → Walk) (db : Database) (place : ℕ) (rows : List (List Value)) (stop : Stop) (xs : List A)
    → (let walk : Walk = record { db = db; place = place; rows = rows; stop = Some stop } in over visit walk xs ≡ walk)
rests visit db place rows stop [] = refl
rests visit db place rows stop (x ∷ xs) = rests visit db place rows stop xs

-- a walk over targets that are visited one after the other, where at each of them the same is done
walks_so : {A : Type 0} (P : Database → Type 0) (new : Walk → A → Walk) (old : Database → A → Visit) → ((walk : Walk) (x : A) → P walk.db → new walk x ≡ onto walk (old walk.db x))
    → ((d : Database) (x : A) → P d → P (old d x).db) → (db : Database) (place : ℕ) (rows : List (List Value)) (xs : List A) → P db
    → over new (at_walk db place rows) xs ≡ walked old db place rows xs
walks_so P new old same stays db place rows [] p = refl
walks_so P new old same stays db place rows (x ∷ xs) p =
    ap (λ (walk : Walk). over new walk xs) (same (at_walk db place rows) x p)
    ∙ by (old db x).stop (walks_so P new old same stays (old db x).db (place + 1) (rows ++ (old db x).rows) xs (stays db x p)) where
      by : (o : Option Stop) → over new (at_walk (old db x).db (place + 1) (rows ++ (old db x).rows)) xs ≡ walked old (old db x).db (place + 1) (rows ++ (old db x).rows) xs
          → over new (option_map_or (λ stop. record { db = (old db x).db; place = place; rows = rows; stop = Some stop }) o (at_walk (old db x).db (place + 1) (rows ++ (old db x).rows))) xs
          ≡ unless_stopped (old db x) place rows o (walked old (old db x).db (place + 1) (rows ++ (old db x).rows) xs)
      by None on = on
      by (Some stop) on = rests new (old db x).db place rows stop xs

goes_over : (P : Database → Type 0) (w : Work) (stmt : StmtTree) (old : Database → Seen → Visit)
    → ((walk : Walk) (x : Seen) → P walk.db → visit_target w stmt walk x ≡ onto walk (old walk.db x))
    → ((d : Database) (x : Seen) → P d → P (old d x).db) → (db : Database) (place : ℕ) (rows : List (List Value)) (r : Result (List ℕ) ValueFault) → P db
    → over_targets w stmt (at_walk db place rows) r ≡ walked_from old db place rows (at_places (seen_by db w) r)
goes_over P w stmt old same stays db place rows (Ok places) p = walks_so P (visit_target w stmt) old same stays db place rows (drop place (filter_map (slice_get (seen_by db w)) places)) p
goes_over P w stmt old same stays db place rows (Err fault) p = refl

-- ---- what is done at a target

-- by what it comes to
abbrev settles : List ℕ → (Walk → Seen → Walk) → Walk → Asked → Outcome → Walk
settles name act at a (Takes seen) = act at seen
settles name act at a Skips = passed at at.db []
settles name act at a Waits = stopped at (Blocked (Row a.seen.row a.strength))
settles name act at a Deadlocks = stopped at (Fails Deadlock)
settles name act at a IsNotFree = stopped at (Fails (NotFree name))
settles name act at a Serializes = stopped at (Fails NotSerializable)
settles name act at a (Faults fault) = stopped at (Fails (OfValue fault))

settles_so : (name : List ℕ) (new : Walk → Seen → Walk) (old : Database → Seen → Visit) (at : Walk) (a : Asked) (o : Outcome)
    → ((version : Seen) → new at version ≡ onto at (old at.db version)) → settles name new at a o ≡ onto at (at_outcome name old at.db a o)
settles_so name new old at a (Takes seen) same = same seen
settles_so name new old at a Skips same = refl
settles_so name new old at a Waits same = refl
settles_so name new old at a Deadlocks same = refl
settles_so name new old at a IsNotFree same = refl
settles_so name new old at a Serializes same = refl
settles_so name new old at a (Faults fault) same = refl

module _ (w : Work) where
  updates_so : (u : UpdateTree) (c : Catalog) (to : List AssignedColumn) → ((d : Database) → d.catalog ≡ c → assigned_to (columns_set (columns_in d w) u.sets) ≡ to)
      → (walk : Walk) (seen : Seen) → walk.db.catalog ≡ c → visit_target w (Updates u) walk seen ≡ onto walk (update_one w u to walk.db seen)
  updates_so u c to its walk seen same = ap goes (its walk.db same) ∙ acts where
    -- as it is asked for where these columns are assigned
    asked_to : List AssignedColumn → Asked
    asked_to xs = ask walk.db w (update_strength walk.db w xs u seen.row) Wait u.filter seen

    at_to : List AssignedColumn → Walk
    at_to xs = record walk { db = settled walk.db w (asked_to xs) }

    goes : List AssignedColumn → Walk
    goes xs = settles u.table (act_on w (Updates u)) (at_to xs) (asked_to xs) (target_outcome walk.db.content walk.db.held (waits_in walk.db w.around.sessions) (asked_to xs))

    acts : goes to ≡ onto walk (update_one w u to walk.db seen)
    acts =
        let at = at_to to in
        settles_so u.table (act_on w (Updates u)) (update_with w u to) at (asked_to to) (target_outcome walk.db.content walk.db.held (waits_in walk.db w.around.sessions) (asked_to to))
        (λ version.
        puts_over w (put_update u) version.row (updated (cols_in at.db w) (assigned_to (columns_set (columns_in at.db w) u.sets)) u.sets (values_of at.db version)) at
        ∙ ap (λ (xs : List AssignedColumn). onto at (update_with w u xs at.db version)) (its at.db same))

  deletes_so : (d : DeleteTree) (walk : Walk) (seen : Seen) → visit_target w (Deletes d) walk seen ≡ onto walk (delete_one w d walk.db seen)
  deletes_so d walk seen =
      let a = ask walk.db w Update Wait d.filter seen in
      let at : Walk = record walk { db = settled walk.db w a } in
      settles_so d.table (act_on w (Deletes d)) (delete_with w d) at a (target_outcome walk.db.content walk.db.held (waits_in walk.db w.around.sessions) a)
      (λ version. shows_so w d.returning at (written at.db w version.row None) (values_of at.db version))

  locks_so : (s : SelectTree) (l : Lock) → s.lock ≡ Some l → (walk : Walk) (seen : Seen) → visit_target w (Selects s) walk seen ≡ onto walk (lock_one w s l walk.db seen)
  locks_so s l its walk seen = ap goes its ∙ acts where
    asked_by : Option Lock → Asked
    asked_by o = ask walk.db w (option_map_or (λ l. l.strength) o Update) (option_map_or (λ l. l.policy) o Wait) s.filter seen

    at_by : Option Lock → Walk
    at_by o = record walk { db = settled walk.db w (asked_by o) }

    name : List ℕ
    name = unwrap_or s.table []

    goes : Option Lock → Walk
    goes o = settles name (act_on w (Selects s)) (at_by o) (asked_by o) (target_outcome walk.db.content walk.db.held (waits_in walk.db w.around.sessions) (asked_by o))

    acts : goes (Some l) ≡ onto walk (lock_one w s l walk.db seen)
    acts =
        let at = at_by (Some l) in
        settles_so name (act_on w (Selects s)) (lock_with w s) at (asked_by (Some l)) (target_outcome walk.db.content walk.db.held (waits_in walk.db w.around.sessions) (asked_by (Some l)))
        (λ version. shows_so w (Some s.items) at at.db (values_of at.db version))

-- ---- what a walk leads to

inserts_from : (db : Database) (w : Work) (i : InsertTree) (place : ℕ) (rows : List (List Value))
    → leads_to db w (Inserts i) (over (insert_row w i) (at_walk db place rows) (drop place i.rows)) ≡ insert_from db w i place rows
inserts_from db w i place rows =
    ap (after_walk db.content w (answer (columns_in db w) i.returning))
    (walks_so (λ d. d.catalog ≡ db.catalog) (insert_row w i) (insert_one w (put_insert i) (to_in db)) same (λ d x at. insert_stays w (put_insert i) (to_in db) d x ∙ at) db place rows (drop place i.rows) refl) where
      to_in : Database → List AssignedColumn
      to_in d = assigned_to (columns_assigned (columns_in d w) i.columns)

      same : (walk : Walk) (row : List Tree) → walk.db.catalog ≡ db.catalog → insert_row w i walk row ≡ onto walk (insert_one w (put_insert i) (to_in db) walk.db row)
      same walk row at =
          puts_new w (put_insert i) (new_values (length (columns_in walk.db w)) (to_in walk.db) row) walk
          ∙ ap (λ (xs : List AssignedColumn). onto walk (insert_one w (put_insert i) xs walk.db row)) (ap (λ (c : Catalog). to_in (record walk.db { catalog = c })) at)

updates_from : (db : Database) (w : Work) (u : UpdateTree) (place : ℕ) (rows : List (List Value)) (r : Result (List ℕ) ValueFault)
    → leads_to db w (Updates u) (over_targets w (Updates u) (at_walk db place rows) r)
    ≡ after_walk db.content w (answer (columns_in db w) u.returning) (walked_from (update_one w u (assigned_to (columns_set (columns_in db w) u.sets))) db place rows (at_places (seen_by db w) r))
updates_from db w u place rows r =
    ap (after_walk db.content w (answer (columns_in db w) u.returning))
    (goes_over (λ d. d.catalog ≡ db.catalog) w (Updates u) (update_one w u (to_in db)) (updates_so w u db.catalog (to_in db) same)
    (λ d x at. update_stays w u (to_in db) d x ∙ at) db place rows r refl) where
      to_in : Database → List AssignedColumn
      to_in d = assigned_to (columns_set (columns_in d w) u.sets)

      same : (d : Database) → d.catalog ≡ db.catalog → to_in d ≡ to_in db
      same d at = ap (λ (c : Catalog). to_in (record d { catalog = c })) at

deletes_from : (db : Database) (w : Work) (d : DeleteTree) (place : ℕ) (rows : List (List Value)) (r : Result (List ℕ) ValueFault)
    → leads_to db w (Deletes d) (over_targets w (Deletes d) (at_walk db place rows) r)
    ≡ after_walk db.content w (answer (columns_in db w) d.returning) (walked_from (delete_one w d) db place rows (at_places (seen_by db w) r))
deletes_from db w d place rows r =
    ap (after_walk db.content w (answer (columns_in db w) d.returning))
    (goes_over (λ e. Unit {0}) w (Deletes d) (delete_one w d) (λ walk seen p. deletes_so w d walk seen) (λ e x p. tt) db place rows r tt)

locks_from : (db : Database) (w : Work) (s : SelectTree) (l : Lock) → s.lock ≡ Some l → (place : ℕ) (rows : List (List Value)) (r : Result (List ℕ) ValueFault)
    → leads_to db w (Selects s) (over_targets w (Selects s) (at_walk db place rows) r)
    ≡ after_walk db.content w (answer (columns_in db w) (Some s.items)) (walked_from (lock_one w s l) db place rows (at_places (seen_by db w) r))
locks_from db w s l its place rows r =
    ap (after_walk db.content w (answer (columns_in db w) (Some s.items)))
    (goes_over (λ e. Unit {0}) w (Selects s) (lock_one w s l) (λ walk seen p. locks_so w s l its walk seen) (λ e x p. tt) db place rows r tt)

-- ---- a statement that begins

-- where something is wrong with it, it fails
fails_so : (db : Database) (t : OpenTransaction) (undefined : Option (List ℕ)) (other : Option StmtFault) (due else_due : Effect)
    → option_map_or (fails db t) other due ≡ else_due
    → option_map_or (fails db t) (option_or (option_map (λ name. OfValue (NoColumn name)) undefined) other) due ≡ unless_undefined db t undefined else_due
fails_so db t (Some name) other due else_due same = refl
fails_so db t None other due else_due same = same

undefined_so : (db : Database) (t : OpenTransaction) (undefined : Option (List ℕ)) (due : Effect)
    → option_map_or (fails db t) (option_map (λ name. OfValue (NoColumn name)) undefined) due ≡ unless_undefined db t undefined due
undefined_so db t (Some name) due = refl
undefined_so db t None due = refl

wrong_so : (db : Database) (t : OpenTransaction) (undefined : Option (List ℕ)) (position : Option ℤ) (due : Effect)
    → option_map_or (fails db t) (option_or (option_map (λ name. OfValue (NoColumn name)) undefined) (option_map NoPosition position)) due ≡ unless_wrong db t undefined position due
wrong_so db t (Some name) position due = refl
wrong_so db t None (Some n) due = refl
wrong_so db t None None due = refl

many_so : (db : Database) (t : OpenTransaction) (b : Bool) (due else_due : Effect) → due ≡ else_due
    → option_map_or (fails db t) (if b then Some TooManyValues else None) due ≡ (if b then fails db t TooManyValues else else_due)
many_so db t true due else_due same = refl
many_so db t false due else_due same = same

inserts_so : (db : Database) (w : Work) (i : InsertTree) (due : Effect) → due ≡ insert_from db w i 0 []
    → option_map_or (fails db w.t) (fault_in (columns_in db w) (Inserts i)) due ≡ insert_to db w i (columns_assigned (columns_in db w) i.columns)
inserts_so db w i due same = by (columns_assigned (columns_in db w) i.columns) where
  in_values : Option (List ℕ)
  in_values = undefined_among [] (flat_map (λ row. row) i.rows)

  in_returning : Option (List ℕ)
  in_returning = undefined_among (cols_in db w) (returned_exprs i.returning)

  has_more : List AssignedColumn → Bool
  has_more to = list_any (λ row. nat_lt (length to) (length row)) i.rows

  many : List AssignedColumn → Option StmtFault
  many to = if has_more to then Some TooManyValues else None

  unless_many : List AssignedColumn → Effect
  unless_many to = if has_more to then fails db w.t TooManyValues else insert_from db w i 0 []

  by : (r : Result (List AssignedColumn) (List ℕ))
      → option_map_or (fails db w.t) (elim r [
        | Err column ↦ Some (NoColumnOf column i.table)
        | Ok to ↦ option_or (option_map (λ name. OfValue (NoColumn name)) in_values) (option_or (option_map (λ name. OfValue (NoColumn name)) in_returning) (many to))
      ]) due ≡ insert_to db w i r
  by (Err column) = refl
  by (Ok to) =
      fails_so db w.t in_values (option_or (option_map (λ name. OfValue (NoColumn name)) in_returning) (many to)) due (unless_undefined db w.t in_returning (unless_many to))
      (fails_so db w.t in_returning (many to) due (unless_many to) (many_so db w.t (has_more to) due (insert_from db w i 0 []) same))

updates_to_so : (db : Database) (w : Work) (u : UpdateTree) (due : Effect) → due ≡ update_from db w u 0 []
    → option_map_or (fails db w.t) (fault_in (columns_in db w) (Updates u)) due ≡ update_to db w u (columns_set (columns_in db w) u.sets)
updates_to_so db w u due same = by (columns_set (columns_in db w) u.sets) where
  undefined : Option (List ℕ)
  undefined = undefined_among (cols_in db w) (update_exprs u)

  by : (r : Result (List AssignedColumn) (List ℕ))
      → option_map_or (fails db w.t) (elim r [ Err column ↦ Some (NoColumnOf column u.table) | Ok to ↦ option_map (λ name. OfValue (NoColumn name)) undefined ]) due ≡ update_to db w u r
  by (Err column) = refl
  by (Ok to) = undefined_so db w.t undefined due ∙ ap (unless_undefined db w.t undefined) same

answers_so : (db : Database) (t : OpenTransaction) (r : Result Results ValueFault)
    → (elim r [ Ok set ↦ answers db.content db t (Rows set) | Err fault ↦ fails db t (OfValue fault) ]) ≡ answered db t r
answers_so db t (Ok set) = refl
answers_so db t (Err fault) = refl

-- the statement at the table of that place, or at none
abbrev at_found : Database → OpenTransaction → Surroundings → List ℕ → StmtTree → Option ℕ → Effect
at_found db t around name stmt None = fails db t (NoTable name)
at_found db t around name stmt (Some k) =
    let w = beginning db t around k in
    option_map_or (fails db t) (fault_in (columns_in db w) stmt)
    (option_map_or (leads_to db w stmt) (walk_of w stmt (at_walk db 0 [])) (at_once db t (columns_in db w) (rows_shown db.content w.view k) stmt))

module _ (db : Database) (t : OpenTransaction) (around : Surroundings) where
  insert_begins : (i : InsertTree) (o : Option ℕ) → at_found db t around i.table (Inserts i) o ≡ insert db t around i o
  insert_begins i None = refl
  insert_begins i (Some k) = let w = beginning db t around k in inserts_so db w i _ (inserts_from db w i 0 [])

  update_begins : (u : UpdateTree) (o : Option ℕ) → at_found db t around u.table (Updates u) o ≡ update db t around u o
  update_begins u None = refl
  update_begins u (Some k) =
      let w = beginning db t around k in
      updates_to_so db w u _ (updates_from db w u 0 [] (passing (cols_in db w) u.filter (rows_shown db.content w.view w.table)))

  delete_begins : (d : DeleteTree) (o : Option ℕ) → at_found db t around d.table (Deletes d) o ≡ delete db t around d o
  delete_begins d None = refl
  delete_begins d (Some k) =
      let w = beginning db t around k in
      let undefined = undefined_among (cols_in db w) (delete_exprs d) in
      undefined_so db t undefined _
      ∙ ap (unless_undefined db t undefined) (deletes_from db w d 0 [] (passing (cols_in db w) d.filter (rows_shown db.content w.view w.table)))

  rows_so : (w : Work) (s : SelectTree) (l : Option Lock) → s.lock ≡ l
      → option_map_or (leads_to db w (Selects s))
      (option_map (λ l. over_targets w (Selects s) (at_walk db 0 []) (taken s (columns_in db w) (rows_shown db.content w.view w.table))) l)
      (at_once db w.t (columns_in db w) (rows_shown db.content w.view w.table) (Selects s)) ≡ select_rows db w s l
  rows_so w s None its = answers_so db w.t (result_of s (columns_in db w) (rows_shown db.content w.view w.table))
  rows_so w s (Some l) its = locks_from db w s l its 0 [] (taken s (columns_in db w) (rows_shown db.content w.view w.table))

  select_begins : (s : SelectTree) (name : List ℕ) (o : Option ℕ) → at_found db t around name (Selects s) o ≡ select_found db t around s name o
  select_begins s name None = refl
  select_begins s name (Some k) =
      let w = beginning db t around k in
      let undefined = undefined_among (cols_in db w) (select_exprs s) in
      let position = wrong_position (columns_in db w) s in
      wrong_so db t undefined position _ ∙ ap (unless_wrong db t undefined position) (rows_so w s s.lock refl)

  select_so : (s : SelectTree) (o : Option (List ℕ))
      → option_map_or (λ name. begin_at db t around name (Selects s)) o (option_map_or (fails db t) (fault_in [] (Selects s)) (at_once db t [] ([] ∷ []) (Selects s))) ≡ select db t around s o
  select_so s (Some name) = select_begins s name (find_table db (Some t.tx) name)
  select_so s None =
      wrong_so db t (undefined_among [] (select_exprs s)) (wrong_position [] s) _
      ∙ ap (unless_wrong db t (undefined_among [] (select_exprs s)) (wrong_position [] s)) (answers_so db t (result_of s [] ([] ∷ [])))

  creates_so : (c : CreateTree) (o : Option ℕ)
      → option_map_or (λ k. fails db t (TableExists c.name)) o (answers db.content (record db { catalog = with_table db.catalog c t.tx }) t Done) ≡ create db t c o
  creates_so c None = refl
  creates_so c (Some k) = refl

  pub opens_by_kind : (stmt : StmtTree) → run_in db t around stmt ≡ run_open db t around stmt
  opens_by_kind (Begin level) = refl
  opens_by_kind Commit = refl
  opens_by_kind Rollback = refl
  opens_by_kind (SetTransaction level) = refl
  opens_by_kind SetDeadlockTimeout = refl
  opens_by_kind (Create c) = creates_so c (find_table db (Some t.tx) c.name)
  opens_by_kind (DropTables d) = refl
  opens_by_kind (Inserts i) = insert_begins i (find_table db (Some t.tx) i.table)
  opens_by_kind (Updates u) = update_begins u (find_table db (Some t.tx) u.table)
  opens_by_kind (Deletes d) = delete_begins d (find_table db (Some t.tx) d.table)
  opens_by_kind (Selects s) = select_so s s.table

  -- one that goes on
  select_goes_on : (p : Progress) (s : SelectTree) (l : Option Lock) → s.lock ≡ l
      → (let w = going_on t around p in
      option_map_or (leads_to db w (Selects s))
      (option_map (λ l. over_targets w (Selects s) (at_walk db p.place p.rows) (taken s (columns_in db w) (rows_shown db.content w.view w.table))) l)
      (run_in db t around (Selects s)) ≡ option_map_or (λ l. lock_from db w s l p.place p.rows) l (select db t around s s.table))
  select_goes_on p s None its = select_so s s.table
  select_goes_on p s (Some l) its = let w = going_on t around p in locks_from db w s l its p.place p.rows (taken s (columns_in db w) (rows_shown db.content w.view w.table))

  goes_on_by_kind : (p : Progress) (stmt : StmtTree) → run_stmt db (Open t) (Some p) around stmt ≡ run_on db t around p stmt
  goes_on_by_kind p (Begin level) = refl
  goes_on_by_kind p Commit = refl
  goes_on_by_kind p Rollback = refl
  goes_on_by_kind p (SetTransaction level) = refl
  goes_on_by_kind p SetDeadlockTimeout = refl
  goes_on_by_kind p (Create c) = opens_by_kind (Create c)
  goes_on_by_kind p (DropTables d) = refl
  goes_on_by_kind p (Inserts i) = inserts_from db (going_on t around p) i p.place p.rows
  goes_on_by_kind p (Updates u) =
      let w = going_on t around p in updates_from db w u p.place p.rows (passing (cols_in db w) u.filter (rows_shown db.content w.view w.table))
  goes_on_by_kind p (Deletes d) =
      let w = going_on t around p in deletes_from db w d p.place p.rows (passing (cols_in db w) d.filter (rows_shown db.content w.view w.table))
  goes_on_by_kind p (Selects s) = select_goes_on p s s.lock refl

closed_by_kind : (db : Database) (statement : Option Progress) (around : Surroundings) (stmt : StmtTree) → run_stmt db Closed statement around stmt ≡ run_closed db around stmt
closed_by_kind db statement around Commit = refl
closed_by_kind db statement around Rollback = refl
closed_by_kind db statement around SetDeadlockTimeout = refl
closed_by_kind db statement around stmt = opens_by_kind (begun db) (fresh db.content ReadCommitted false) around stmt

aborted_by_kind : (db : Database) (statement : Option Progress) (around : Surroundings) (stmt : StmtTree) → run_stmt db Aborted statement around stmt ≡ run_aborted db stmt
aborted_by_kind db statement around Commit = refl
aborted_by_kind db statement around Rollback = refl
aborted_by_kind db statement around stmt = refl

-- a statement does what its kind does, whatever its session's transaction is
pub runs_by_kind : (db : Database) (transaction : Transaction) (statement : Option Progress) (around : Surroundings) (stmt : StmtTree)
    → run_stmt db transaction statement around stmt ≡ run_piecewise db transaction statement around stmt
runs_by_kind db Closed statement around stmt = closed_by_kind db statement around stmt
runs_by_kind db (Open t) None around stmt = opens_by_kind db t around stmt
runs_by_kind db (Open t) (Some p) around stmt = goes_on_by_kind db t around p stmt
runs_by_kind db Aborted statement around stmt = aborted_by_kind db statement around stmt

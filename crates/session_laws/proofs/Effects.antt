-- What statements do to the state, and that what is so after each effect is so after each statement.
use Rattle.std.proofs.Common.{◌≡◌, ℕ, zero, suc, arith, ◌<◌, Bool, true, false, List, [], ◌∷◌, length, drop, refl, sym, subst}
use Rattle.std.specs.List.{list_any}
use Rattle.std.specs.Prelude.{ℤ, flat_map, nat_lt, Option, Some, None, is_some, unwrap_or, slice_get, Result, Ok, Err, ◌&&◌, not, if◌then◌else◌}
use Rattle.std.proofs.lemmas.Option.{slice_get_within}
use Rattle.sql_trees.specs.declared.stmt.Level.{Level}
use Rattle.sql_trees.specs.declared.stmt.Level.TheVariants.{ReadCommitted}
use Rattle.sql_trees.specs.declared.stmt.Lock.{Lock}
use Rattle.sql_trees.specs.Statements.{StmtTree, CreateTree, DropTree, InsertTree, UpdateTree, DeleteTree, SelectTree, Begin, Commit, Rollback, SetTransaction, SetDeadlockTimeout, Create, DropTables, Inserts, Updates, Deletes, Selects}
use Rattle.sql_values.specs.declared.value.Value.{Value}
use Rattle.sql_values.specs.declared.fault.ValueFault.{ValueFault}
use Rattle.sql_values.specs.declared.fault.ValueFault.TheVariants.{NoColumn}
use Rattle.query_results.specs.Results.{Results}
use Rattle.row_versions.specs.declared.write.View.{View}
use Rattle.query_results.specs.Queries.{AssignedColumn, cols_of, result_of, returned_exprs, select_exprs, columns_assigned, undefined_among, wrong_position}
use Rattle.query_results.specs.Updates.{columns_set, delete_exprs, update_exprs}
use Rattle.session_machine.specs.declared.session.OpenTransaction.{OpenTransaction}
use Rattle.session_machine.specs.declared.session.Transaction.{Transaction}
use Rattle.session_machine.specs.declared.session.Transaction.TheVariants.{Closed, Open, Aborted}
use Rattle.session_machine.specs.declared.session.Progress.{Progress}
use Rattle.session_machine.specs.declared.session.Request.{Request}
use Rattle.session_machine.specs.declared.fault.StmtFault.{StmtFault}
use Rattle.session_machine.specs.declared.fault.StmtFault.TheVariants.{Value as OfValue, NoColumnOf, NoPosition, NoTable, TableExists, NoTableToDrop, TooManyValues, LevelTooLate, Aborted as AbortedFault}
use Rattle.session_machine.specs.declared.reply.Outcome.{Outcome}
use Rattle.session_machine.specs.declared.reply.Outcome.TheVariants.{Done, Rows, Failed}
use Rattle.session_machine.specs.Tables.{Database, Table, find_table}
use Rattle.session_machine.specs.Transactions.{fresh, committed, rolled_back, view_of}
use Rattle.session_machine.specs.Views.{rows_shown}
use Rattle.session_machine.specs.Statements.{Surroundings, Effect, fails, answers, turns, drop_tables, level_set}
use Rattle.session_machine.specs.Walks.{Stop, Walk, Blocked, Fails}
use Rattle.session_machine.specs.Rows.{Work, columns_in}
use Rattle.session_machine.specs.Running.{run_stmt}
use Rattle.session_machine.specs.Inner.Statements.{run_piecewise, run_aborted, is_end, walked_from, insert_one, update_one, delete_one, lock_one, beginning, pauses, comes_to, after_walk, answer, put_insert, assigned_to, insert_from, insert, update_from, update, delete_from, delete, lock_from, answered, select_rows, unless_wrong, select, run_open, run_closed, run_on, begun, is_level, begin_in, walked, create}
use Rattle.session_machine.specs.Targets.{passing_targets, taken_targets}
use Rattle.session_machine.specs.Inner.Pieces.{drop_ended, insert_fitting, insert_to, update_fitting, update_to, delete_fitting, select_found, lock_again, table_columns, with_table, with_drop, DroppedUpTo, dropped_at, dropped}
use Rattle.session_machine.proofs.Piecewise.{drops_by}
use Rattle.session_machine.proofs.ByKind.{runs_by_kind}
use Rattle.session_machine.specs.Sound.{RowsFit, RowsStay}
use Rattle.session_laws.proofs.Fitting.{find_table_within, fit_tables}
use Rattle.session_laws.proofs.Writing.{Lasts, Works, passing_of, taken_of, works_inserts, works_updates, works_deletes, works_locks}

-- rows fit their tables and stay in them
pub record IsFirm (db : Database) : Type 0 where
  pub fit : RowsFit db.content db.catalog
  pub stay : RowsStay db.content

-- the statement may change its transaction alone: how it was begun, and its level
abbrev pub may_turn : StmtTree → Bool
may_turn (Begin level) = true
may_turn (SetTransaction level) = true
may_turn SetDeadlockTimeout = true
may_turn stmt = false

-- of a statement in this transaction: each way in which it may come out is so, where P is so of the database that it made
pub record EffectsIf (may : Bool) (db : Database) (t : OpenTransaction) (around : Surroundings) (P : Database → Type 0) (M : Effect → Type 0) : Type 0 where
  pub lasts : Lasts t P
  pub firm : IsFirm db
  pub here : P db
  pub answer : (e : Database) (outcome : Outcome) → IsFirm e → P e → M (answers db.content e t outcome)
  pub fail : (e : Database) (fault : StmtFault) → IsFirm e → P e → M (fails e t fault)
  pub turn : may ≡ true → (u : OpenTransaction) → u.tx ≡ t.tx → u.command ≡ t.command → u.snapshot ≡ t.snapshot → M (turns db (Open u))
  pub commit : M (turns (committed db t.tx) Closed)
  pub roll_back : M (turns (rolled_back db t.tx) Closed)
  pub pause : (k : ℕ) (view : View) (walk : Walk) (request : Request) → IsFirm walk.db → P walk.db → k < length walk.db.catalog.tables
      → M (pauses db.content (record { t = t; table = k; view = view; around = around }) walk request)

abbrev pub Effects : Database → OpenTransaction → Surroundings → (Database → Type 0) → (Effect → Type 0) → Type 0
Effects db t around P M = EffectsIf true db t around P M

module _ (may : Bool) (db : Database) (t : OpenTransaction) (around : Surroundings) (P : Database → Type 0) (M : Effect → Type 0) (eff : EffectsIf may db t around P M) where
  either : (b : Bool) (x y : Effect) → M x → M y → M (if b then x else y)
  either true x y h k = h
  either false x y h k = k

  failed_here : (fault : StmtFault) → M (fails db t fault)
  failed_here fault = eff.fail db fault eff.firm eff.here

  -- tables
  created : (c : CreateTree) (o : Option ℕ) → M (create db t c o)
  created c (Some k) = failed_here (TableExists c.name)
  created c None =
      eff.answer (record db { catalog = with_table db.catalog c t.tx }) Done
      (record { fit = fit_tables db.content db.catalog c t.tx eff.firm.fit; stay = eff.firm.stay }) (eff.lasts.made db c eff.here)

  abbrev Stands : Database → Type 0
  Stands d = IsFirm d × P d

  drops : (d : Database) (if_exists : Bool) (names : List (List ℕ)) → Stands d → Stands (dropped d t if_exists names).db
  drops d if_exists [] h = h
  drops d if_exists (name ∷ names) h = at_found (λ e k. drops e if_exists names k) (find_table d (Some t.tx) name) where
    others : Database → DroppedUpTo
    others e = dropped e t if_exists names

    at_missing : (b : Bool) → ((e : Database) → Stands e → Stands (others e).db) → (let x : DroppedUpTo = if b then others d else record { db = d; missing = Some name } in Stands x.db)
    at_missing true rest = rest d h
    at_missing false rest = h

    at_found : ((e : Database) → Stands e → Stands (others e).db) → (o : Option ℕ) → Stands (dropped_at d t if_exists name others o).db
    at_found rest (Some k) = rest (record d { catalog = with_drop d.catalog k t.tx }) (record { fit = h.0.fit; stay = h.0.stay }, eff.lasts.dropped d k h.1)
    at_found rest None = at_missing if_exists rest

  drop_ends : (e : Database) → Stands e → (o : Option (List ℕ)) → M (drop_ended db.content t e o)
  drop_ends e h None = eff.answer e Done h.0 h.1
  drop_ends e h (Some name) = eff.fail e (NoTableToDrop name) h.0 h.1

  drops_all : (d : DropTree) → M (drop_tables db t d.if_exists d.names)
  drops_all d = subst M (sym (drops_by db t d.if_exists d.names))
      (drop_ends (dropped db t d.if_exists d.names).db (drops db d.if_exists d.names (eff.firm, eff.here)) (dropped db t d.if_exists d.names).missing)

  -- levels
  sets_level : may ≡ true → (explicit : Bool) (level : Level) → M (level_set db t explicit level)
  sets_level ok explicit level =
      either (is_some t.snapshot && not (is_level t.level level)) (fails db t LevelTooLate) (turns db (Open (record t { explicit = explicit; level = level })))
      (failed_here LevelTooLate) (eff.turn ok (record t { explicit = explicit; level = level }) refl refl refl)

  begins : may ≡ true → (level : Option Level) → M (begin_in db t level)
  begins ok level = either t.explicit (turns db (Open t)) (level_set db t true (unwrap_or level t.level)) (eff.turn ok t refl refl refl) (sets_level ok true (unwrap_or level t.level))

  -- walks over targets
  abbrev work : ℕ → View → Work
  work k view = record { t = t; table = k; view = view; around = around }

  abbrev At : ℕ → Table → Type 0
  At k table = slice_get db.catalog.tables k ≡ Some table

  starts : (k : ℕ) (table : Table) → At k table → Works db.content k table P db
  starts k table at = record { fit = eff.firm.fit; stay = eff.firm.stay; there = at; rows = λ row of. of; holds = eff.here }

  ends : (k : ℕ) (view : View) (table : Table) (outcome : List (List Value) → Outcome) (walk : Walk) → Works db.content k table P walk.db → M (after_walk db.content (work k view) outcome walk)
  ends k view table outcome walk h = at_stop walk.stop where
    firm : IsFirm walk.db
    firm = record { fit = h.fit; stay = h.stay }

    at_stop : (o : Option Stop) → M (comes_to db.content (work k view) outcome walk o)
    at_stop None = eff.answer walk.db (outcome walk.rows) firm h.holds
    at_stop (Some (Blocked request)) = eff.pause k view walk request firm h.holds (slice_get_within walk.db.catalog.tables k table h.there)
    at_stop (Some (Fails fault)) = eff.fail walk.db fault firm h.holds

  inserts_from : (k : ℕ) (view : View) (table : Table) → At k table → (i : InsertTree) (place : ℕ) (rows : List (List Value)) → M (insert_from db (work k view) i place rows)
  inserts_from k view table at i place rows =
      let w = work k view in
      let targets = assigned_to (columns_assigned (columns_in db w) i.columns) in
      ends k view table (answer (columns_in db w) i.returning) (walked (insert_one w (put_insert i) targets) db place rows (drop place i.rows))
      (works_inserts db.content w table P eff.lasts (put_insert i) targets (drop place i.rows) db place rows (starts k table at))

  updates_from : (k : ℕ) (view : View) (table : Table) → At k table → (u : UpdateTree) (place : ℕ) (rows : List (List Value)) → M (update_from db (work k view) u place rows)
  updates_from k view table at u place rows =
      let w = work k view in
      let targets = assigned_to (columns_set (columns_in db w) u.sets) in
      ends k view table (answer (columns_in db w) u.returning) (walked_from (update_one w u targets) db place rows (passing_targets db w u.filter))
      (works_updates db.content w table P eff.lasts u targets (passing_targets db w u.filter) (passing_of db w u.filter eff.firm.stay) db place rows (starts k table at))

  deletes_from : (k : ℕ) (view : View) (table : Table) → At k table → (d : DeleteTree) (place : ℕ) (rows : List (List Value)) → M (delete_from db (work k view) d place rows)
  deletes_from k view table at d place rows =
      let w = work k view in
      ends k view table (answer (columns_in db w) d.returning) (walked_from (delete_one w d) db place rows (passing_targets db w d.filter))
      (works_deletes db.content w table P eff.lasts d (passing_targets db w d.filter) (passing_of db w d.filter eff.firm.stay) db place rows (starts k table at))

  locks_from : (k : ℕ) (view : View) (table : Table) → At k table → (s : SelectTree) (l : Lock) (place : ℕ) (rows : List (List Value)) → M (lock_from db (work k view) s l place rows)
  locks_from k view table at s l place rows =
      let w = work k view in
      ends k view table (answer (columns_in db w) (Some s.items)) (walked_from (lock_one w s l) db place rows (taken_targets db w s))
      (works_locks db.content w table P eff.lasts s l (taken_targets db w s) (taken_of db w s eff.firm.stay) db place rows (starts k table at))

  -- INSERT
  inserts_fitting : (k : ℕ) (table : Table) → At k table → (i : InsertTree) (targets : List AssignedColumn) (in_values in_returning : Option (List ℕ))
      → M (insert_fitting db (beginning db t around k) i targets in_values in_returning)
  inserts_fitting k table at i targets (Some name) in_returning = failed_here (OfValue (NoColumn name))
  inserts_fitting k table at i targets None (Some name) = failed_here (OfValue (NoColumn name))
  inserts_fitting k table at i targets None None =
      either (list_any (λ row. nat_lt (length targets) (length row)) i.rows) (fails db t TooManyValues) (insert_from db (beginning db t around k) i 0 []) (failed_here TooManyValues)
      (inserts_from k (view_of db.content t) table at i 0 [])

  inserts_to : (k : ℕ) (table : Table) → At k table → (i : InsertTree) (r : Result (List AssignedColumn) (List ℕ)) → M (insert_to db (beginning db t around k) i r)
  inserts_to k table at i (Err column) = failed_here (NoColumnOf column i.table)
  inserts_to k table at i (Ok targets) = inserts_fitting k table at i targets (undefined_among [] (flat_map (λ row. row) i.rows)) (undefined_among (cols_of (columns_in db (beginning db t around k))) (returned_exprs i.returning))

  inserts : (i : InsertTree) (o : Option ℕ) → find_table db (Some t.tx) i.table ≡ o → M (insert db t around i o)
  inserts i None e = failed_here (NoTable i.table)
  inserts i (Some k) e = let at = find_table_within db (Some t.tx) i.table k e in inserts_to k at.0 at.1 i (columns_assigned (table_columns db.catalog k) i.columns)

  -- UPDATE
  updates_fitting : (k : ℕ) (table : Table) → At k table → (u : UpdateTree) (o : Option (List ℕ)) → M (update_fitting db (beginning db t around k) u o)
  updates_fitting k table at u (Some name) = failed_here (OfValue (NoColumn name))
  updates_fitting k table at u None = updates_from k (view_of db.content t) table at u 0 []

  updates_to : (k : ℕ) (table : Table) → At k table → (u : UpdateTree) (r : Result (List AssignedColumn) (List ℕ)) → M (update_to db (beginning db t around k) u r)
  updates_to k table at u (Err column) = failed_here (NoColumnOf column u.table)
  updates_to k table at u (Ok targets) = updates_fitting k table at u (undefined_among (cols_of (columns_in db (beginning db t around k))) (update_exprs u))

  updates : (u : UpdateTree) (o : Option ℕ) → find_table db (Some t.tx) u.table ≡ o → M (update db t around u o)
  updates u None e = failed_here (NoTable u.table)
  updates u (Some k) e = let at = find_table_within db (Some t.tx) u.table k e in updates_to k at.0 at.1 u (columns_set (table_columns db.catalog k) u.sets)

  -- DELETE
  deletes_fitting : (k : ℕ) (table : Table) → At k table → (d : DeleteTree) (o : Option (List ℕ)) → M (delete_fitting db (beginning db t around k) d o)
  deletes_fitting k table at d (Some name) = failed_here (OfValue (NoColumn name))
  deletes_fitting k table at d None = deletes_from k (view_of db.content t) table at d 0 []

  deletes : (d : DeleteTree) (o : Option ℕ) → find_table db (Some t.tx) d.table ≡ o → M (delete db t around d o)
  deletes d None e = failed_here (NoTable d.table)
  deletes d (Some k) e =
      let at = find_table_within db (Some t.tx) d.table k e in deletes_fitting k at.0 at.1 d (undefined_among (cols_of (table_columns db.catalog k)) (delete_exprs d))

  -- SELECT
  answers_set : (r : Result Results ValueFault) → M (answered db t r)
  answers_set (Ok set) = eff.answer db (Rows set) eff.firm eff.here
  answers_set (Err fault) = failed_here (OfValue fault)

  selects_unless : (o : Option (List ℕ)) (position : Option ℤ) (due : Effect) → M due → M (unless_wrong db t o position due)
  selects_unless (Some name) position due h = failed_here (OfValue (NoColumn name))
  selects_unless None (Some n) due h = failed_here (NoPosition n)
  selects_unless None None due h = h

  selects_rows : (k : ℕ) (table : Table) → At k table → (s : SelectTree) (o : Option Lock) → M (select_rows db (beginning db t around k) s o)
  selects_rows k table at s None = answers_set (result_of s (columns_in db (beginning db t around k)) (rows_shown db.content (view_of db.content t) k))
  selects_rows k table at s (Some l) = locks_from k (view_of db.content t) table at s l 0 []

  selects_at : (s : SelectTree) (name : List ℕ) (o : Option ℕ) → find_table db (Some t.tx) name ≡ o → M (select_found db t around s name o)
  selects_at s name None e = failed_here (NoTable name)
  selects_at s name (Some k) e =
      let at = find_table_within db (Some t.tx) name k e in
      let w = beginning db t around k in
      selects_unless (undefined_among (cols_of (columns_in db w)) (select_exprs s)) (wrong_position (columns_in db w) s) (select_rows db w s s.lock) (selects_rows k at.0 at.1 s s.lock)

  selects : (s : SelectTree) (o : Option (List ℕ)) → M (select db t around s o)
  selects s None = selects_unless (undefined_among [] (select_exprs s)) (wrong_position [] s) (answered db t (result_of s [] ([] ∷ []))) (answers_set (result_of s [] ([] ∷ [])))
  selects s (Some name) = selects_at s name (find_table db (Some t.tx) name) refl

  -- what is so after each effect is so after each statement that begins
  pub after_open : (stmt : StmtTree) → (may_turn stmt ≡ true → may ≡ true) → M (run_open db t around stmt)
  after_open (Begin level) h = begins (h refl) level
  after_open Commit h = eff.commit
  after_open Rollback h = eff.roll_back
  after_open (SetTransaction level) h = sets_level (h refl) t.explicit level
  after_open SetDeadlockTimeout h = eff.turn (h refl) t refl refl refl
  after_open (Create c) h = created c (find_table db (Some t.tx) c.name)
  after_open (DropTables d) h = drops_all d
  after_open (Inserts i) h = inserts i (find_table db (Some t.tx) i.table) refl
  after_open (Updates u) h = updates u (find_table db (Some t.tx) u.table) refl
  after_open (Deletes d) h = deletes d (find_table db (Some t.tx) d.table) refl
  after_open (Selects s) h = selects s s.table

  -- and after each that goes on
  locks_again : (s : SelectTree) (p : Progress) (table : Table) → At p.table.0 table → (o : Option Lock) → M (lock_again db t around s p o)
  locks_again s p table at None = selects s s.table
  locks_again s p table at (Some l) = locks_from p.table.0 p.view table at s l p.place p.rows

  pub after_on : (p : Progress) (table : Table) → At p.table.0 table → (stmt : StmtTree) → (may_turn stmt ≡ true → may ≡ true) → M (run_on db t around p stmt)
  after_on p table at (Begin level) h = begins (h refl) level
  after_on p table at Commit h = eff.commit
  after_on p table at Rollback h = eff.roll_back
  after_on p table at (SetTransaction level) h = sets_level (h refl) t.explicit level
  after_on p table at SetDeadlockTimeout h = eff.turn (h refl) t refl refl refl
  after_on p table at (Create c) h = after_open (Create c) h
  after_on p table at (DropTables d) h = after_open (DropTables d) h
  after_on p table at (Inserts i) h = inserts_from p.table.0 p.view table at i p.place p.rows
  after_on p table at (Updates u) h = updates_from p.table.0 p.view table at u p.place p.rows
  after_on p table at (Deletes d) h = deletes_from p.table.0 p.view table at d p.place p.rows
  after_on p table at (Selects s) h = locks_again s p table at s.lock

-- a statement where no transaction is open: nothing is done, a transaction begins, or the statement is its first
pub after_closed : (db : Database) (around : Surroundings) (M : Effect → Type 0) (stmt : StmtTree) → M (turns db Closed)
    → ((level : Level) (explicit : Bool) → M (turns (begun db) (Open (fresh db.content level explicit))))
    → (may_turn stmt ≡ false → M (run_open (begun db) (fresh db.content ReadCommitted false) around stmt)) → M (run_closed db around stmt)
after_closed db around M (Begin level) none starts_one runs = starts_one (unwrap_or level ReadCommitted) true
after_closed db around M Commit none starts_one runs = none
after_closed db around M Rollback none starts_one runs = none
after_closed db around M (SetTransaction level) none starts_one runs = starts_one level false
after_closed db around M SetDeadlockTimeout none starts_one runs = none
after_closed db around M _ none starts_one runs = runs refl

-- a statement in an aborted transaction ends it, or fails
pub after_aborted : (db : Database) (M : Effect → Type 0) → M (turns db Closed) → M (record { db = db; transaction = Aborted; statement = None; outcome = Failed AbortedFault })
    → (stmt : StmtTree) → M (run_aborted db stmt)
after_aborted db M closes refuses stmt = at_end (is_end stmt) where
  at_end : (b : Bool) → M (if b then turns db Closed else record { db = db; transaction = Aborted; statement = None; outcome = Failed AbortedFault })
  at_end true = closes
  at_end false = refuses

pub found_within : {A : Type 0} (xs : List A) (i : ℕ) → i < length xs → (x : A) × (slice_get xs i ≡ Some x)
found_within [] i l = absurd (omega arith)
found_within (x ∷ xs) zero l = (x, refl)
found_within (x ∷ xs) (suc i) l = found_within xs i (omega arith)

effects_by_kind : (may : Bool) (db : Database) (t : Transaction) (statement : Option Progress) (around : Surroundings) (stmt : StmtTree) (P : OpenTransaction → Database → Type 0) (M : Effect → Type 0)
    → (may_turn stmt ≡ true → may ≡ true) → ((p : Progress) → statement ≡ Some p → p.table.0 < length db.catalog.tables)
    → ((u : OpenTransaction) → t ≡ Open u → EffectsIf may db u around (P u) M)
    → (t ≡ Closed → M (turns db Closed) × ((level : Level) (explicit : Bool) → M (turns (begun db) (Open (fresh db.content level explicit))))
    × EffectsIf may (begun db) (fresh db.content ReadCommitted false) around (P (fresh db.content ReadCommitted false)) M)
    → (t ≡ Aborted → M (turns db Closed) × M (record { db = db; transaction = Aborted; statement = None; outcome = Failed AbortedFault }))
    → M (run_piecewise db t statement around stmt)
effects_by_kind may db Closed statement around stmt P M h within opens closed aborted =
    let u = fresh db.content ReadCommitted false in
    let c = closed refl in
    after_closed db around M stmt c.0 c.1 (λ none. after_open may (begun db) u around (P u) M c.2 stmt (λ e. h e))
effects_by_kind may db (Open u) None around stmt P M h within opens closed aborted = after_open may db u around (P u) M (opens u refl) stmt h
effects_by_kind may db (Open u) (Some p) around stmt P M h within opens closed aborted =
    let table = found_within db.catalog.tables p.table.0 (within p refl) in
    after_on may db u around (P u) M (opens u refl) p table.0 table.1 stmt h
effects_by_kind may db Aborted statement around stmt P M h within opens closed aborted = let a = aborted refl in after_aborted db M a.0 a.1 stmt

-- what is so after each effect, whatever the session's transaction, is so after each statement
pub run_effects : (may : Bool) (db : Database) (t : Transaction) (statement : Option Progress) (around : Surroundings) (stmt : StmtTree) (P : OpenTransaction → Database → Type 0) (M : Effect → Type 0)
    → (may_turn stmt ≡ true → may ≡ true) → ((p : Progress) → statement ≡ Some p → p.table.0 < length db.catalog.tables)
    → ((u : OpenTransaction) → t ≡ Open u → EffectsIf may db u around (P u) M)
    → (t ≡ Closed → M (turns db Closed) × ((level : Level) (explicit : Bool) → M (turns (begun db) (Open (fresh db.content level explicit))))
    × EffectsIf may (begun db) (fresh db.content ReadCommitted false) around (P (fresh db.content ReadCommitted false)) M)
    → (t ≡ Aborted → M (turns db Closed) × M (record { db = db; transaction = Aborted; statement = None; outcome = Failed AbortedFault }))
    → M (run_stmt db t statement around stmt)
run_effects may db t statement around stmt P M h within opens closed aborted =
    subst M (sym (runs_by_kind db t statement around stmt)) (effects_by_kind may db t statement around stmt P M h within opens closed aborted)

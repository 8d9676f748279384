-- A transaction's snapshot is of commits that have been.
use Rattle.std.proofs.Common.{◌≡◌, refl, sym, subst, Bool, true, false, ℕ, ◌≤◌, List, [], arith}
use Rattle.std.specs.Prelude.{ℤ, flat_map, Option, Some, None, drop, unwrap_or, Result, Ok, Err, if◌then◌else◌}
use Rattle.sql_trees.specs.declared.stmt.Level.{Level}
use Rattle.sql_trees.specs.declared.stmt.Level.TheVariants.{ReadCommitted}
use Rattle.sql_trees.specs.declared.stmt.Lock.{Lock}
use Rattle.sql_trees.specs.Statements.{StmtTree, CreateTree, InsertTree, UpdateTree, DeleteTree, SelectTree, Begin, Commit, Rollback, SetTransaction, SetDeadlockTimeout}
use Rattle.sql_values.specs.declared.value.Value.{Value}
use Rattle.sql_values.specs.declared.fault.ValueFault.{ValueFault}
use Rattle.query_results.specs.Results.{Results}
use Rattle.query_results.specs.Queries.{AssignedColumn, cols_of, columns_assigned, returned_exprs, undefined_among}
use Rattle.query_results.specs.Updates.{columns_set, update_exprs}
use Rattle.row_versions.specs.Log.{Content, commit_count}
use Rattle.session_machine.specs.declared.session.OpenTransaction.{OpenTransaction}
use Rattle.session_machine.specs.declared.session.Transaction.{Transaction}
use Rattle.session_machine.specs.declared.session.Transaction.TheVariants.{Closed, Open, Aborted}
use Rattle.session_machine.specs.declared.session.Progress.{Progress}
use Rattle.session_machine.specs.declared.fault.StmtFault.{StmtFault}
use Rattle.session_machine.specs.declared.fault.StmtFault.TheVariants.{Aborted as AbortedFault}
use Rattle.session_machine.specs.declared.reply.Outcome.{Outcome}
use Rattle.session_machine.specs.declared.reply.Outcome.TheVariants.{Failed}
use Rattle.session_machine.specs.Tables.{Database, find_table}
use Rattle.session_machine.specs.Transactions.{fresh, started}
use Rattle.session_machine.specs.Statements.{Surroundings, Effect, fails, turns, level_set}
use Rattle.session_machine.specs.Walks.{Stop, Walk, Blocked, Fails}
use Rattle.session_machine.specs.Rows.{Work, columns_in}
use Rattle.session_machine.specs.Running.{run_stmt}
use Rattle.session_machine.specs.Inner.Statements.{run_piecewise, is_end, walked_from, insert_one, update_one, delete_one, lock_one, beginning, comes_to, after_walk, answer, put_insert, insert_from, update_from, delete_from, lock_from, assigned_to, insert, update, delete, answered, select_rows, unless_wrong, select, run_open, run_closed, run_on, begun, moved_on, walked, create}
use Rattle.session_machine.specs.Targets.{passing_targets, taken_targets, going_on}
use Rattle.session_machine.specs.Inner.Pieces.{drop_ended, insert_fitting, insert_to, update_fitting, update_to, delete_fitting, select_found, run_first, dropped}
use Rattle.session_machine.proofs.Piecewise.{drops_by}
use Rattle.session_machine.proofs.ByKind.{runs_by_kind}
use Rattle.wait_laws.proofs.ByKind.{AtOnce, FromStart, FromPlace, by_kind, on_kind}
use Rattle.session_laws.proofs.Staying.{count-begin}

-- the snapshot, if there is one, is of at most so many commits
abbrev pub Has : ℕ → OpenTransaction → Type 0
Has count t = (k : ℕ) → t.snapshot ≡ Some k → k ≤ count

pub record Shot (count : ℕ) (d : Effect) : Type 0 where
  pub its : (u : OpenTransaction) → d.transaction ≡ Open u → Has count u

same_open : (t u : OpenTransaction) → Open t ≡ Open u → t ≡ u
same_open t u h = cc

closed_not : (u : OpenTransaction) → Closed ≡ Open u → ⊥
closed_not u h = cc

same_some : (a b : ℕ) → Some a ≡ Some b → a ≡ b
same_some a b h = cc

first_has : (count : ℕ) (o : Option ℕ) (n : ℕ) → ((k : ℕ) → o ≡ Some k → k ≤ count) → n ≡ count → (k : ℕ) → Some (unwrap_or o n) ≡ Some k → k ≤ count
first_has count None n has same k h = let e = same_some n k h in omega arith
first_has count (Some j) n has same k h = let e = same_some j k h in let l = has j refl in omega arith

shot_open : (count : ℕ) (e : Database) (v : OpenTransaction) (st : Option Progress) (o : Outcome) → Has count v
    → Shot count (record { db = e; transaction = Open v; statement = st; outcome = o })
shot_open count e v st o has = record { its = λ u h. subst (λ (y : OpenTransaction). Has count y) (same_open v u h) has }

shot_query : (count : ℕ) (before : Content) (e : Database) (t : OpenTransaction) (st : Option Progress) (o : Outcome) → Has count t → commit_count before ≡ count
    → Shot count (record { db = e; transaction = Open (moved_on before t); statement = st; outcome = o })
shot_query count before e t st o has same = shot_open count e (moved_on before t) st o (first_has count t.snapshot (commit_count before) has same)

shot_closed : (count : ℕ) (e : Database) → Shot count (turns e Closed)
shot_closed count e = record { its = λ u h. absurd (closed_not u h) }

shot_fails : (count : ℕ) (e : Database) (t : OpenTransaction) (fault : StmtFault) → Shot count (fails e t fault)
shot_fails count e t fault = record { its = λ u h. absurd (never t.explicit u h) } where
  never : (b : Bool) (u : OpenTransaction) → (if b then Aborted else Closed) ≡ Open u → ⊥
  never true u h = cc
  never false u h = cc

shot_if : (count : ℕ) (b : Bool) (d e : Effect) → Shot count d → Shot count e → Shot count (if b then d else e)
shot_if count true d e h k = h
shot_if count false d e h k = k

shot_ended : (count : ℕ) (before : Content) (w : Work) (f : List (List Value) → Outcome) (k : Walk) → Has count w.t → commit_count before ≡ count → Shot count (after_walk before w f k)
shot_ended count before w f k has same = by k.stop where
  by : (o : Option Stop) → Shot count (comes_to before w f k o)
  by None = shot_query count before k.db w.t None _ has same
  by (Some (Fails fault)) = shot_fails count k.db w.t fault
  by (Some (Blocked r)) = shot_open count k.db (started before w.t) _ _ (first_has count w.t.snapshot (commit_count before) has same)

shot_insert_from : (count : ℕ) (db : Database) (w : Work) (i : InsertTree) (place : ℕ) (rows : List (List Value)) → Has count w.t → commit_count db.content ≡ count
    → Shot count (insert_from db w i place rows)
shot_insert_from count db w i place rows has same =
    shot_ended count db.content w (answer (columns_in db w) i.returning) (walked (insert_one w (put_insert i) (assigned_to (columns_assigned (columns_in db w) i.columns))) db place rows (drop place i.rows)) has same

shot_update_from : (count : ℕ) (db : Database) (w : Work) (u : UpdateTree) (place : ℕ) (rows : List (List Value)) → Has count w.t → commit_count db.content ≡ count
    → Shot count (update_from db w u place rows)
shot_update_from count db w u place rows has same =
    shot_ended count db.content w (answer (columns_in db w) u.returning) (walked_from (update_one w u (assigned_to (columns_set (columns_in db w) u.sets))) db place rows (passing_targets db w u.filter)) has same

shot_delete_from : (count : ℕ) (db : Database) (w : Work) (e : DeleteTree) (place : ℕ) (rows : List (List Value)) → Has count w.t → commit_count db.content ≡ count
    → Shot count (delete_from db w e place rows)
shot_delete_from count db w e place rows has same = shot_ended count db.content w (answer (columns_in db w) e.returning) (walked_from (delete_one w e) db place rows (passing_targets db w e.filter)) has same

shot_lock_from : (count : ℕ) (db : Database) (w : Work) (s : SelectTree) (l : Lock) (place : ℕ) (rows : List (List Value)) → Has count w.t → commit_count db.content ≡ count
    → Shot count (lock_from db w s l place rows)
shot_lock_from count db w s l place rows has same =
    shot_ended count db.content w (answer (columns_in db w) (Some s.items)) (walked_from (lock_one w s l) db place rows (taken_targets db w s)) has same

shot_insert_to : (count : ℕ) (db : Database) (w : Work) (i : InsertTree) (r : Result (List AssignedColumn) (List ℕ)) → Has count w.t → commit_count db.content ≡ count → Shot count (insert_to db w i r)
shot_insert_to count db w i (Err column) has same = shot_fails count db w.t _
shot_insert_to count db w i (Ok targets) has same = by (undefined_among [] (flat_map (λ row. row) i.rows)) (undefined_among (cols_of (columns_in db w)) (returned_exprs i.returning)) where
  by : (in_values in_returning : Option (List ℕ)) → Shot count (insert_fitting db w i targets in_values in_returning)
  by (Some name) in_returning = shot_fails count db w.t _
  by None (Some name) = shot_fails count db w.t _
  by None None = shot_if count _ _ _ (shot_fails count db w.t _) (shot_insert_from count db w i 0 [] has same)

shot_update_to : (count : ℕ) (db : Database) (w : Work) (u : UpdateTree) (r : Result (List AssignedColumn) (List ℕ)) → Has count w.t → commit_count db.content ≡ count → Shot count (update_to db w u r)
shot_update_to count db w u (Err column) has same = shot_fails count db w.t _
shot_update_to count db w u (Ok targets) has same = by (undefined_among (cols_of (columns_in db w)) (update_exprs u)) where
  by : (o : Option (List ℕ)) → Shot count (update_fitting db w u o)
  by (Some name) = shot_fails count db w.t _
  by None = shot_update_from count db w u 0 [] has same

shot_delete_to : (count : ℕ) (db : Database) (w : Work) (e : DeleteTree) (o : Option (List ℕ)) → Has count w.t → commit_count db.content ≡ count → Shot count (delete_fitting db w e o)
shot_delete_to count db w e (Some name) has same = shot_fails count db w.t _
shot_delete_to count db w e None has same = shot_delete_from count db w e 0 [] has same

shot_answered : (count : ℕ) (db : Database) (t : OpenTransaction) (r : Result Results ValueFault) → Has count t → commit_count db.content ≡ count → Shot count (answered db t r)
shot_answered count db t (Ok results) has same = shot_query count db.content db t None _ has same
shot_answered count db t (Err fault) has same = shot_fails count db t _

shot_unless_wrong : (count : ℕ) (db : Database) (t : OpenTransaction) (o : Option (List ℕ)) (n : Option ℤ) (due : Effect) → Shot count due → Shot count (unless_wrong db t o n due)
shot_unless_wrong count db t (Some name) n due k = shot_fails count db t _
shot_unless_wrong count db t None (Some n) due k = shot_fails count db t _
shot_unless_wrong count db t None None due k = k

shot_rows : (count : ℕ) (db : Database) (w : Work) (s : SelectTree) (o : Option Lock) → Has count w.t → commit_count db.content ≡ count → Shot count (select_rows db w s o)
shot_rows count db w s None has same = shot_answered count db w.t _ has same
shot_rows count db w s (Some l) has same = shot_lock_from count db w s l 0 [] has same

shot_select : (count : ℕ) (db : Database) (t : OpenTransaction) (around : Surroundings) (s : SelectTree) (o : Option (List ℕ)) → Has count t → commit_count db.content ≡ count
    → Shot count (select db t around s o)
shot_select count db t around s None has same = shot_unless_wrong count db t _ _ _ (shot_answered count db t _ has same)
shot_select count db t around s (Some name) has same = by (find_table db (Some t.tx) name) where
  by : (k : Option ℕ) → Shot count (select_found db t around s name k)
  by None = shot_fails count db t _
  by (Some k) = shot_unless_wrong count db t _ _ _ (shot_rows count db (beginning db t around k) s s.lock has same)

shot_level : (count : ℕ) (db : Database) (t : OpenTransaction) (explicit : Bool) (level : Level) → Has count t → Shot count (level_set db t explicit level)
shot_level count db t explicit level has = shot_if count _ _ _ (shot_fails count db t _) (shot_open count db (record t { explicit = explicit; level = level }) None _ has)

shot_create : (count : ℕ) (db : Database) (t : OpenTransaction) (c : CreateTree) (o : Option ℕ) → Has count t → commit_count db.content ≡ count → Shot count (create db t c o)
shot_create count db t c (Some k) has same = shot_fails count db t _
shot_create count db t c None has same = shot_query count db.content _ t None _ has same

shot_drop : (count : ℕ) (before : Content) (t : OpenTransaction) (e : Database) (o : Option (List ℕ)) → Has count t → commit_count before ≡ count → Shot count (drop_ended before t e o)
shot_drop count before t e None has same = shot_query count before e t None _ has same
shot_drop count before t e (Some name) has same = shot_fails count e t _

shot_insert : (count : ℕ) (db : Database) (t : OpenTransaction) (around : Surroundings) (i : InsertTree) (o : Option ℕ) → Has count t → commit_count db.content ≡ count → Shot count (insert db t around i o)
shot_insert count db t around i None has same = shot_fails count db t _
shot_insert count db t around i (Some k) has same = shot_insert_to count db (beginning db t around k) i _ has same

shot_update : (count : ℕ) (db : Database) (t : OpenTransaction) (around : Surroundings) (u : UpdateTree) (o : Option ℕ) → Has count t → commit_count db.content ≡ count → Shot count (update db t around u o)
shot_update count db t around u None has same = shot_fails count db t _
shot_update count db t around u (Some k) has same = shot_update_to count db (beginning db t around k) u _ has same

shot_delete : (count : ℕ) (db : Database) (t : OpenTransaction) (around : Surroundings) (d : DeleteTree) (o : Option ℕ) → Has count t → commit_count db.content ≡ count → Shot count (delete db t around d o)
shot_delete count db t around d None has same = shot_fails count db t _
shot_delete count db t around d (Some k) has same = shot_delete_to count db (beginning db t around k) d _ has same

shot_once : (count : ℕ) (db : Database) (t : OpenTransaction) (around : Surroundings) → Has count t → commit_count db.content ≡ count → AtOnce db t around (Shot count)
shot_once count db t around has same = record {
  begins = λ level. shot_if count t.explicit _ _ (shot_open count db t None _ has) (shot_level count db t true (unwrap_or level t.level) has);
  sets = λ level. shot_level count db t t.explicit level has;
  stays = shot_open count db t None _ has;
  commits = shot_closed count _;
  rolls_back = shot_closed count _;
  creates = λ c. shot_create count db t c _ has same;
  drops = λ d. let e = dropped db t d.if_exists d.names in subst (Shot count) (sym (drops_by db t d.if_exists d.names)) (shot_drop count db.content t e.db e.missing has same);
  shows = λ s e. shot_select count db t around s s.table has same;
}

shot_begins : (count : ℕ) (db : Database) (t : OpenTransaction) (around : Surroundings) (stmt : StmtTree) → Has count t → commit_count db.content ≡ count → Shot count (run_open db t around stmt)
shot_begins count db t around stmt has same = by_kind db t around (Shot count) (shot_once count db t around has same) start stmt where
  start : FromStart db t around (Shot count)
  start = record {
    inserts = λ i. shot_insert count db t around i _ has same;
    updates = λ u. shot_update count db t around u _ has same;
    deletes = λ d. shot_delete count db t around d _ has same;
    locks = λ s l e. shot_select count db t around s s.table has same;
  }

shot_on : (count : ℕ) (db : Database) (t : OpenTransaction) (around : Surroundings) (g : Progress) (stmt : StmtTree) → Has count t → commit_count db.content ≡ count
    → Shot count (run_on db t around g stmt)
shot_on count db t around g stmt has same = on_kind db t around (Shot count) (shot_once count db t around has same) g place stmt where
  place : FromPlace db t around g (Shot count)
  place = record {
    inserts = λ i. shot_insert_from count db (going_on t around g) i g.place g.rows has same;
    updates = λ u. shot_update_from count db (going_on t around g) u g.place g.rows has same;
    deletes = λ d. shot_delete_from count db (going_on t around g) d g.place g.rows has same;
    locks = λ s l e. shot_lock_from count db (going_on t around g) s l g.place g.rows has same;
  }

none_not : (k : ℕ) → None ≡ Some k → ⊥
none_not k h = cc

shot_stmt_by_kind : (db : Database) (tr : Transaction) (statement : Option Progress) (around : Surroundings) (stmt : StmtTree) → ((t : OpenTransaction) → tr ≡ Open t → Has (commit_count db.content) t)
    → Shot (commit_count db.content) (run_piecewise db tr statement around stmt)
shot_stmt_by_kind db Aborted statement around stmt has = by (is_end stmt) where
  aborted_not : (u : OpenTransaction) → Aborted ≡ Open u → ⊥
  aborted_not u k = cc

  by : (b : Bool) → (let d : Effect = if b then turns db Closed else record { db = db; transaction = Aborted; statement = None; outcome = Failed AbortedFault } in Shot (commit_count db.content) d)
  by true = shot_closed (commit_count db.content) db
  by false = record { its = λ u h. absurd (aborted_not u h) }
shot_stmt_by_kind db (Open t) None around stmt has = shot_begins (commit_count db.content) db t around stmt (has t refl) refl
shot_stmt_by_kind db (Open t) (Some g) around stmt has = shot_on (commit_count db.content) db t around g stmt (has t refl) refl
shot_stmt_by_kind db Closed statement around stmt has = by stmt where
  none : (level : Level) (explicit : Bool) → Has (commit_count db.content) (fresh db.content level explicit)
  none level explicit k h = absurd (none_not k h)

  run : (s : StmtTree) → Shot (commit_count db.content) (run_first db around s)
  run s = shot_begins (commit_count db.content) (begun db) (fresh db.content ReadCommitted false) around s (none ReadCommitted false) (count-begin db.content.fates)

  by : (s : StmtTree) → Shot (commit_count db.content) (run_closed db around s)
  by (Begin level) = shot_open (commit_count db.content) (begun db) (fresh db.content (unwrap_or level ReadCommitted) true) None _ (none (unwrap_or level ReadCommitted) true)
  by Commit = shot_closed (commit_count db.content) db
  by Rollback = shot_closed (commit_count db.content) db
  by (SetTransaction level) = shot_open (commit_count db.content) (begun db) (fresh db.content level false) None _ (none level false)
  by SetDeadlockTimeout = shot_closed (commit_count db.content) db
  by s = run s

-- whatever a statement did, its transaction's snapshot is of commits before it
pub shot_stmt : (db : Database) (tr : Transaction) (statement : Option Progress) (around : Surroundings) (stmt : StmtTree) → ((t : OpenTransaction) → tr ≡ Open t → Has (commit_count db.content) t)
    → Shot (commit_count db.content) (run_stmt db tr statement around stmt)
shot_stmt db tr statement around stmt has = subst (Shot (commit_count db.content)) (sym (runs_by_kind db tr statement around stmt)) (shot_stmt_by_kind db tr statement around stmt has)

-- The table of a statement that begins is the one that its name means.
use Rattle.std.proofs.Common.{◌≡◌, refl, sym, ◌∙◌, ap, Bool, true, false, ℕ, List, [], ◌∷◌, ◌++◌}
use Rattle.std.specs.Prelude.{Option, Some, None, option_and_then, slice_get, unwrap_or, Result, Ok, Err, if◌then◌else◌}
use Rattle.std.specs.Option.{option_map_or}
use Rattle.sql_trees.specs.declared.stmt.Level.{Level}
use Rattle.sql_trees.specs.declared.stmt.Level.TheVariants.{ReadCommitted}
use Rattle.sql_trees.specs.Statements.{ColumnTree, StmtTree, Begin, Commit, Rollback, SetTransaction, SetDeadlockTimeout, Create, DropTables, Inserts, Updates, Deletes, Selects}
use Rattle.sql_values.specs.declared.value.Value.{Value}
use Rattle.sql_values.specs.declared.fault.ValueFault.{ValueFault}
use Rattle.query_results.specs.Results.{Results}
use Rattle.query_results.specs.Queries.{result_of}
use Rattle.row_versions.specs.Log.{after_begin}
use Rattle.session_machine.specs.declared.session.OpenTransaction.{OpenTransaction}
use Rattle.session_machine.specs.declared.session.Progress.{Progress}
use Rattle.session_machine.specs.declared.session.Transaction.{Transaction}
use Rattle.session_machine.specs.declared.session.Transaction.TheVariants.{Closed, Open, Aborted}
use Rattle.session_machine.specs.declared.fault.StmtFault.{StmtFault}
use Rattle.session_machine.specs.declared.fault.StmtFault.TheVariants.{Value as OfValue, NoTable, NoTableToDrop, TableExists}
use Rattle.session_machine.specs.declared.reply.Outcome.TheVariants.{Done, Rows}
use Rattle.session_machine.specs.Tables.{Database, Table, find_table}
use Rattle.session_machine.specs.Transactions.{fresh, view_of}
use Rattle.session_machine.specs.Views.{rows_shown}
use Rattle.session_machine.specs.Statements.{Surroundings, Effect, fails, answers, drop_tables, level_set}
use Rattle.session_machine.specs.Walks.{Stop, Walk, Blocked, Fails}
use Rattle.session_machine.specs.Rows.{Work, columns_in, table_named, walk_of}
use Rattle.session_machine.specs.Running.{fault_in, leads_to, at_once, begin_at, run_in, run_stmt}
use Rattle.session_laws.proofs.Fitting.{find_table_within}
use Rattle.wait_laws.specs.Laws.{table_at}

none_not : (p : Progress) → None ≡ Some p → ⊥
none_not p h = cc

-- it isn't over
abbrev GoesOn : Effect → Progress → Type 0
GoesOn d q = d.statement ≡ Some q

over_if : (b : Bool) (d e : Effect) → d.statement ≡ None → e.statement ≡ None → (if b then d else e).statement ≡ None
over_if true d e h k = h
over_if false d e h k = k

over_level : (db : Database) (t : OpenTransaction) (explicit : Bool) (level : Level) → (level_set db t explicit level).statement ≡ None
over_level db t explicit level = over_if _ _ _ refl refl

over_drop : (t : OpenTransaction) (if_exists : Bool) (names : List (List ℕ)) (db : Database) → (drop_tables db t if_exists names).statement ≡ None
over_drop t if_exists [] db = refl
over_drop t if_exists (name ∷ names) db = by (over_drop t if_exists names) (find_table db (Some t.tx) name) where
  by : ((d : Database) → (drop_tables d t if_exists names).statement ≡ None) → (o : Option ℕ)
      → (option_map_or (λ k. drop_tables (record db { catalog = record db.catalog { drops = db.catalog.drops ++ record { table = k; by = t.tx } ∷ [] } }) t if_exists names) o
      (if if_exists then drop_tables db t if_exists names else fails db t (NoTableToDrop name))).statement ≡ None
  by on (Some k) = on _
  by on None = over_if if_exists _ _ (on db) refl

over_once : (db : Database) (t : OpenTransaction) (columns : List ColumnTree) (rows : List (List Value)) (stmt : StmtTree) → (at_once db t columns rows stmt).statement ≡ None
over_once db t columns rows (Selects s) = by (result_of s columns rows) where
  by : (r : Result Results ValueFault) → (let d : Effect = elim r [ Ok set ↦ answers db.content db t (Rows set) | Err fault ↦ fails db t (OfValue fault) ] in d.statement) ≡ None
  by (Ok set) = refl
  by (Err fault) = refl
over_once db t columns rows (Inserts i) = refl
over_once db t columns rows (Updates u) = refl
over_once db t columns rows (Deletes d) = refl
over_once db t columns rows (Begin level) = refl
over_once db t columns rows Commit = refl
over_once db t columns rows Rollback = refl
over_once db t columns rows (SetTransaction level) = refl
over_once db t columns rows SetDeadlockTimeout = refl
over_once db t columns rows (Create c) = refl
over_once db t columns rows (DropTables d) = refl

-- a statement that begins at a table, and stops there
begins_at : (db : Database) (t : OpenTransaction) (around : Surroundings) (name : List ℕ) (stmt : StmtTree) (q : Progress) → GoesOn (begin_at db t around name stmt) q
    → find_table db (Some t.tx) name ≡ Some q.table.0
begins_at db t around name stmt q h = by (find_table db (Some t.tx) name) h where
  at : ℕ → Work
  at k = record { t = t; table = k; view = view_of db.content t; around = around }

  due : ℕ → Effect
  due k = option_map_or (leads_to db (at k) stmt) (walk_of (at k) stmt (record { db = db; place = 0; rows = []; stop = None })) (at_once db t (columns_in db (at k)) (rows_shown db.content (at k).view k) stmt)

  found : Option ℕ → Effect
  found None = fails db t (NoTable name)
  found (Some k) = option_map_or (fails db t) (fault_in (columns_in db (at k)) stmt) (due k)

  stops : (k : ℕ) (walk : Walk) → GoesOn (leads_to db (at k) stmt walk) q → Some k ≡ Some q.table.0
  stops k walk g = ended walk.stop g where
    same : (p : Progress) → Some p ≡ Some q → p.table.0 ≡ q.table.0
    same p e = let one : p ≡ q = cc in ap (λ (y : Progress). y.table.0) one

    ended : (o : Option Stop) → GoesOn (leads_to db (at k) stmt (record walk { stop = o })) q → Some k ≡ Some q.table.0
    ended None e = absurd (none_not q e)
    ended (Some (Blocked r)) e = ap Some (same _ e)
    ended (Some (Fails fault)) e = absurd (none_not q e)

  works : (k : ℕ) (o : Option Walk) → GoesOn (option_map_or (leads_to db (at k) stmt) o (at_once db t (columns_in db (at k)) (rows_shown db.content (at k).view k) stmt)) q → Some k ≡ Some q.table.0
  works k None g = absurd (none_not q (sym (over_once db t (columns_in db (at k)) (rows_shown db.content (at k).view k) stmt) ∙ g))
  works k (Some walk) g = stops k walk g

  fitting : (k : ℕ) (o : Option StmtFault) → GoesOn (option_map_or (fails db t) o (due k)) q → Some k ≡ Some q.table.0
  fitting k (Some fault) g = absurd (none_not q g)
  fitting k None g = works k (walk_of (at k) stmt (record { db = db; place = 0; rows = []; stop = None })) g

  by : (o : Option ℕ) → GoesOn (found o) q → o ≡ Some q.table.0
  by None g = absurd (none_not q g)
  by (Some k) g = fitting k (fault_in (columns_in db (at k)) stmt) g

-- the table that the statement's name means
abbrev named_in : Database → OpenTransaction → StmtTree → Option ℕ
named_in db t stmt = option_and_then (find_table db (Some t.tx)) (table_named stmt)

begins_in : (db : Database) (t : OpenTransaction) (around : Surroundings) (stmt : StmtTree) (q : Progress) → GoesOn (run_in db t around stmt) q → named_in db t stmt ≡ Some q.table.0
begins_in db t around (Inserts i) q h = begins_at db t around i.table (Inserts i) q h
begins_in db t around (Updates u) q h = begins_at db t around u.table (Updates u) q h
begins_in db t around (Deletes d) q h = begins_at db t around d.table (Deletes d) q h
begins_in db t around (Selects s) q h = by s.table h where
  bare : (o : Option StmtFault) → (option_map_or (fails db t) o (at_once db t [] ([] ∷ []) (Selects s))).statement ≡ None
  bare None = over_once db t [] ([] ∷ []) (Selects s)
  bare (Some fault) = refl

  by : (o : Option (List ℕ))
      → GoesOn (option_map_or (λ name. begin_at db t around name (Selects s)) o (option_map_or (fails db t) (fault_in [] (Selects s)) (at_once db t [] ([] ∷ []) (Selects s)))) q
      → option_and_then (find_table db (Some t.tx)) o ≡ Some q.table.0
  by None g = absurd (none_not q (sym (bare (fault_in [] (Selects s))) ∙ g))
  by (Some name) g = begins_at db t around name (Selects s) q g
begins_in db t around (Begin level) q h = absurd (none_not q (sym (over_if t.explicit _ _ refl (over_level db t true (unwrap_or level t.level))) ∙ h))
begins_in db t around Commit q h = absurd (none_not q h)
begins_in db t around Rollback q h = absurd (none_not q h)
begins_in db t around (SetTransaction level) q h = absurd (none_not q (sym (over_level db t t.explicit level) ∙ h))
begins_in db t around SetDeadlockTimeout q h = absurd (none_not q h)
begins_in db t around (Create c) q h = absurd (none_not q (sym (by (find_table db (Some t.tx) c.name)) ∙ h)) where
  made : Effect
  made = answers db.content (record db { catalog = record db.catalog { tables = db.catalog.tables ++ record { made = c; by = t.tx } ∷ [] } }) t Done

  by : (o : Option ℕ) → (option_map_or (λ k. fails db t (TableExists c.name)) o made).statement ≡ None
  by None = refl
  by (Some k) = refl
begins_in db t around (DropTables d) q h = absurd (none_not q (sym (over_drop t d.if_exists d.names db) ∙ h))

pub begins_there : (db : Database) (tr : Transaction) (around : Surroundings) (stmt : StmtTree) (q : Progress) → GoesOn (run_stmt db tr None around stmt) q
    → table_at db tr None stmt ≡ Some q.table.0
begins_there db (Open t) around stmt q h = begins_in db t around stmt q h
begins_there db Closed around stmt q h = by stmt h where
  first : OpenTransaction
  first = fresh db.content ReadCommitted false

  begun : Database
  begun = record db { content = after_begin db.content }

  by : (s : StmtTree) → GoesOn (run_stmt db Closed None around s) q → named_in begun first s ≡ Some q.table.0
  by Commit g = absurd (none_not q g)
  by Rollback g = absurd (none_not q g)
  by SetDeadlockTimeout g = absurd (none_not q g)
  by (Begin level) g = begins_in begun first around (Begin level) q g
  by (SetTransaction level) g = begins_in begun first around (SetTransaction level) q g
  by (Create c) g = begins_in begun first around (Create c) q g
  by (DropTables d) g = begins_in begun first around (DropTables d) q g
  by (Inserts i) g = begins_in begun first around (Inserts i) q g
  by (Updates u) g = begins_in begun first around (Updates u) q g
  by (Deletes d) g = begins_in begun first around (Deletes d) q g
  by (Selects s) g = begins_in begun first around (Selects s) q g
begins_there db Aborted around stmt q h = absurd (none_not q (sym (by stmt) ∙ h)) where
  by : (s : StmtTree) → (run_stmt db Aborted None around s).statement ≡ None
  by Commit = refl
  by Rollback = refl
  by SetDeadlockTimeout = refl
  by (Begin level) = refl
  by (SetTransaction level) = refl
  by (Create c) = refl
  by (DropTables d) = refl
  by (Inserts i) = refl
  by (Updates u) = refl
  by (Deletes d) = refl
  by (Selects s) = refl

-- a table that a statement's name means is there
pub is_there : (db : Database) (tr : Transaction) (stmt : StmtTree) (k : ℕ) → table_at db tr None stmt ≡ Some k → (made : Table) × (slice_get db.catalog.tables k ≡ Some made)
is_there db tr stmt k h = by tr h where
  named : (d : Database) (t : OpenTransaction) (o : Option (List ℕ)) → option_and_then (find_table d (Some t.tx)) o ≡ Some k → (made : Table) × (slice_get d.catalog.tables k ≡ Some made)
  named d t None e = let f : None ≡ Some k = e in cc
  named d t (Some name) e = find_table_within d (Some t.tx) name k e

  by : (r : Transaction) → table_at db r None stmt ≡ Some k → (made : Table) × (slice_get db.catalog.tables k ≡ Some made)
  by (Open t) e = named db t (table_named stmt) e
  by Closed e = named (record db { content = after_begin db.content }) (fresh db.content ReadCommitted false) (table_named stmt) e
  by Aborted e = named (record db { content = after_begin db.content }) (fresh db.content ReadCommitted false) (table_named stmt) e

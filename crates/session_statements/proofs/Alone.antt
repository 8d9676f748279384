-- A statement that has no targets is over at once.
use Rattle.std.proofs.Common.{◌≡◌, refl, ℕ, List, [], ◌∷◌}
use Rattle.std.specs.Prelude.{Option, Some, None, Bool, true, false, if◌then◌else◌, ◌++◌, Result, Ok, Err, is_some, unwrap_or, not, ◌&&◌}
use Rattle.std.specs.Option.{option_map_or}
use denote.Enum.Bare.{sameb}
use Rattle.sql_trees.specs.contracts.stmt.Level.{the_type as the_level}
use Rattle.sql_trees.specs.declared.stmt.Level.{Level}
use Rattle.sql_trees.specs.Statements.{ColumnTree, CreateTree, SelectTree, StmtTree, Begin, Commit, Rollback, SetTransaction, SetDeadlockTimeout, Create, DropTables, Inserts, Updates, Deletes, Selects}
use Rattle.sql_values.specs.declared.value.Value.{Value}
use Rattle.sql_values.specs.declared.fault.ValueFault.{ValueFault}
use Rattle.query_results.specs.Results.{Results}
use Rattle.query_results.specs.Queries.{result_of}
use Rattle.session_machine.specs.declared.session.OpenTransaction.{OpenTransaction}
use Rattle.session_machine.specs.declared.session.Transaction.TheVariants.{Aborted, Open}
use Rattle.session_machine.specs.declared.session.Progress.{Progress}
use Rattle.session_machine.specs.declared.fault.StmtFault.{StmtFault}
use Rattle.session_machine.specs.declared.fault.StmtFault.TheVariants.{LevelTooLate, NoTableToDrop, TableExists, Value as OfValue}
use Rattle.session_machine.specs.declared.reply.Outcome.TheVariants.{Done, Rows}
use Rattle.session_machine.specs.Tables.{Database, find_table}
use Rattle.session_machine.specs.Statements.{Effect, Surroundings, answers, drop_tables, fails, level_set, turns}
use Rattle.session_machine.specs.Running.{at_once, fault_in, run_in, run_stmt}
use Rattle.session_machine.specs.Inner.Statements.{begin_in}

abbrev IsOver : Effect → Type 0
IsOver e = e.statement ≡ None

either : (b : Bool) (d e : Effect) → IsOver d → IsOver e → IsOver (if b then d else e)
either true d e h k = h
either false d e h k = k

pub level_over : (db : Database) (t : OpenTransaction) (explicit : Bool) (level : Level) → IsOver (level_set db t explicit level)
level_over db t explicit level =
    either (is_some t.snapshot && not (sameb the_level t.level level)) (fails db t LevelTooLate) (turns db (Open (record t { explicit = explicit; level = level }))) refl refl

pub begin_over : (db : Database) (t : OpenTransaction) (level : Option Level) → IsOver (begin_in db t level)
begin_over db t level = either t.explicit (turns db (Open t)) (level_set db t true (unwrap_or level t.level)) refl (level_over db t true (unwrap_or level t.level))

pub create_over : (db : Database) (t : OpenTransaction) (around : Surroundings) (c : CreateTree) → IsOver (run_in db t around (Create c))
create_over db t around c = by (find_table db (Some t.tx) c.name) where
  made : Effect
  made = answers db.content (record db { catalog = record db.catalog { tables = db.catalog.tables ++ record { made = c; by = t.tx } ∷ [] } }) t Done

  by : (o : Option ℕ) → IsOver (option_map_or (λ k. fails db t (TableExists c.name)) o made)
  by None = refl
  by (Some k) = refl

pub drop_over : (db : Database) (t : OpenTransaction) (if_exists : Bool) (names : List (List ℕ)) → IsOver (drop_tables db t if_exists names)
drop_over db t if_exists [] = refl
drop_over db t if_exists (name ∷ names) = by (λ d. drop_over d t if_exists names) (find_table db (Some t.tx) name) where
  by : ((d : Database) → IsOver (drop_tables d t if_exists names)) → (o : Option ℕ)
      → IsOver (option_map_or (λ k. drop_tables (record db { catalog = record db.catalog { drops = db.catalog.drops ++ record { table = k; by = t.tx } ∷ [] } }) t if_exists names)
      o (if if_exists then drop_tables db t if_exists names else fails db t (NoTableToDrop name)))
  by rest None = either if_exists (drop_tables db t if_exists names) (fails db t (NoTableToDrop name)) (rest db) refl
  by rest (Some k) = rest (record db { catalog = record db.catalog { drops = db.catalog.drops ++ record { table = k; by = t.tx } ∷ [] } })

-- in an aborted transaction each is
pub aborted_over : (db : Database) (statement : Option Progress) (around : Surroundings) (stmt : StmtTree) → IsOver (run_stmt db Aborted statement around stmt)
aborted_over db statement around (Begin level) = refl
aborted_over db statement around Commit = refl
aborted_over db statement around Rollback = refl
aborted_over db statement around (SetTransaction level) = refl
aborted_over db statement around SetDeadlockTimeout = refl
aborted_over db statement around (Create c) = refl
aborted_over db statement around (DropTables d) = refl
aborted_over db statement around (Inserts i) = refl
aborted_over db statement around (Updates u) = refl
aborted_over db statement around (Deletes d) = refl
aborted_over db statement around (Selects s) = refl

once_over : (db : Database) (t : OpenTransaction) (r : Result Results ValueFault)
    → IsOver (elim r [ Ok set ↦ answers db.content db t (Rows set) | Err fault ↦ fails db t (OfValue fault) ])
once_over db t (Ok set) = refl
once_over db t (Err fault) = refl

pub select_over : (db : Database) (t : OpenTransaction) (columns : List ColumnTree) (rows : List (List Value)) (s : SelectTree) → IsOver (at_once db t columns rows (Selects s))
select_over db t columns rows s = once_over db t (result_of s columns rows)

pub constant_over : (db : Database) (t : OpenTransaction) (s : SelectTree)
    → IsOver (option_map_or (fails db t) (fault_in [] (Selects s)) (at_once db t [] ([] ∷ []) (Selects s)))
constant_over db t s = by (fault_in [] (Selects s)) where
  by : (o : Option StmtFault) → IsOver (option_map_or (fails db t) o (at_once db t [] ([] ∷ []) (Selects s)))
  by None = select_over db t [] ([] ∷ []) s
  by (Some fault) = refl

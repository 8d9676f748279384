-- A statement begins at its table, and goes over the targets that were found.
use Rattle.std.proofs.Common.{◌≡◌, ◌∙◌, refl, ap, ℕ, List, [], drop}
use Rattle.std.specs.Prelude.{Option, Some, None, option_map, Result, Ok, Err}
use Rattle.std.specs.Option.{option_map_or}
use Rattle.std.proofs.lemmas.Option.{same_Some}
use Rattle.sql_trees.specs.declared.stmt.Lock.{Lock}
use Rattle.sql_trees.specs.Statements.{ColumnTree, ItemTree, StmtTree, InsertTree, UpdateTree, DeleteTree, SelectTree, Inserts, Updates, Deletes, Selects}
use Rattle.sql_values.specs.declared.value.Value.{Value}
use Rattle.sql_values.specs.declared.fault.ValueFault.{ValueFault}
use Rattle.row_versions.specs.declared.write.Seen.{Seen}
use Rattle.sql_trees.specs.declared.stmt.Strength.TheVariants.{Share}
use Rattle.query_results.specs.Results.{Results}
use Rattle.query_results.specs.Queries.{result_of, taken}
use Rattle.session_machine.specs.declared.session.OpenTransaction.{OpenTransaction}
use Rattle.session_machine.specs.declared.session.Transaction.TheVariants.{Open}
use Rattle.session_machine.specs.declared.session.Progress.{Progress}
use Rattle.session_machine.specs.declared.session.Request.TheVariants.{Row}
use Rattle.session_machine.specs.declared.fault.StmtFault.{StmtFault}
use Rattle.session_machine.specs.declared.reply.Outcome.{Outcome}
use Rattle.session_machine.specs.declared.reply.Outcome.TheVariants.{Rows}
use Rattle.row_versions.specs.declared.write.Fate.{Fate}
use Rattle.row_versions.specs.Log.{Content}
use Rattle.session_machine.specs.Transactions.{started}
use Rattle.session_statements.specs.declared.act.Halt.{Halt}
use Rattle.session_statements.specs.Inner.Acting.{halted_walk}
use Rattle.session_machine.specs.declared.fault.StmtFault.TheVariants.{NoTable, Value as OfValue}
use Rattle.session_machine.specs.Tables.{Database, Catalog, find_table}
use Rattle.session_machine.specs.Views.{rows_shown}
use Rattle.session_machine.specs.Walks.{Walk}
use Rattle.session_machine.specs.Statements.{Effect, Surroundings, answers, fails}
use Rattle.session_machine.specs.Rows.{Work, columns_in, over_targets}
use Rattle.session_machine.specs.Running.{at_once, begin_at, fault_in, leads_to, run_in}
use Rattle.session_machine.specs.Inner.Statements.{after_walk, walked_from, answer, beginning, answered, insert_from, update_from, delete_from, lock_from, select, Visit, walked}
use Rattle.session_machine.specs.Inner.Pieces.{table_columns}
use Rattle.session_machine.proofs.ByKind.{runs_by_kind}
use Rattle.session_statements.specs.Inner.Going.{go_from}

-- targets that were found are gone over from the place on
pub goes_over : (at : Database → Seen → Visit) (db : Database) (w : Work) (outcome : List (List Value) → Outcome) (place : ℕ) (rows : List (List Value)) (targets : List Seen)
    {r : Result (List Seen) ValueFault} → r ≡ Ok targets
    → after_walk db.content w outcome (walked_from at db place rows r) ≡ after_walk db.content w outcome (walked at db place rows (drop place targets))
goes_over at db w outcome place rows targets is = ap (λ (x : Result (List Seen) ValueFault). after_walk db.content w outcome (walked_from at db place rows x)) is

-- ---- one that ends

-- no transaction has ended since, so a transaction is in the same way begun
pub same_started : (before now : Content) (t : OpenTransaction) → before.fates ≡ now.fates → started before t ≡ started now t
same_started before now t same = ap (λ (fates : List Fate). started (record now { fates = fates }) t) same

-- the walk's database has the same columns
pub same_end : (before : Content) (d e : Database) (w : Work) (items : Option (List ItemTree)) (rows : List (List Value)) (halt : Option Halt) → e.catalog ≡ d.catalog
    → halted_walk before w (answer (columns_in e w) items) e rows halt ≡ halted_walk before w (answer (columns_in d w) items) e rows halt
same_end before d e w items rows halt same =
    ap (λ (catalog : Catalog). halted_walk before w (answer (columns_in (record d { catalog = catalog }) w) items) e rows halt) same

-- ---- a statement that begins

-- at the table of that place, or at none
abbrev at_found : Database → OpenTransaction → Surroundings → List ℕ → StmtTree → Option ℕ → Effect
at_found db t around name stmt None = fails db t (NoTable name)
at_found db t around name stmt (Some k) =
    let w = beginning db t around k in
    option_map_or (fails db t) (fault_in (columns_in db w) stmt) (go_from db w stmt 0 [])

pub begins_there : (db : Database) (t : OpenTransaction) (around : Surroundings) (name : List ℕ) (stmt : StmtTree) (k : ℕ)
    → find_table db (Some t.tx) name ≡ Some k → fault_in (table_columns db.catalog k) stmt ≡ None → (let w = beginning db t around k in begin_at db t around name stmt ≡ go_from db w stmt 0 [])
begins_there db t around name stmt k at right =
    let w = beginning db t around k in
    let due = go_from db w stmt 0 [] in
    ap (at_found db t around name stmt) at ∙ ap (λ (o : Option StmtFault). option_map_or (fails db t) o due) right

-- ---- one that goes on, kind by kind

-- where it stands
abbrev stands : Work → ℕ → List (List Value) → Progress
stands w place rows = record { table = record { 0 = w.table }; view = w.view; place = place; rows = rows; wait = record { number = 0; request = Row (record { 0 = 0 }) Share } }

-- the walk of a locking SELECT
abbrev locked : Database → Work → ℕ → List (List Value) → SelectTree → Lock → Walk
locked db w place rows s l =
    over_targets w (Selects s) (record { db = db; place = place; rows = rows; stop = None })
    (taken s (columns_in db w) (rows_shown db.content w.view w.table))

module _ (db : Database) (w : Work) (place : ℕ) (rows : List (List Value)) where
  pub inserts_on : (i : InsertTree) → go_from db w (Inserts i) place rows ≡ insert_from db w i place rows
  inserts_on i = runs_by_kind db (Open w.t) (Some (stands w place rows)) w.around (Inserts i)

  pub updates_on : (u : UpdateTree) → go_from db w (Updates u) place rows ≡ update_from db w u place rows
  updates_on u = runs_by_kind db (Open w.t) (Some (stands w place rows)) w.around (Updates u)

  pub deletes_on : (d : DeleteTree) → go_from db w (Deletes d) place rows ≡ delete_from db w d place rows
  deletes_on d = runs_by_kind db (Open w.t) (Some (stands w place rows)) w.around (Deletes d)

  pub locks_on : (s : SelectTree) (l : Lock) → s.lock ≡ Some l → go_from db w (Selects s) place rows ≡ lock_from db w s l place rows
  locks_on s l is = by s.lock (runs_by_kind db (Open w.t) (Some (stands w place rows)) w.around (Selects s)) is where
    due : Effect
    due = at_once db w.t (columns_in db w) (rows_shown db.content w.view w.table) (Selects s)

    by : (o : Option Lock)
        → option_map_or (leads_to db w (Selects s)) (option_map (locked db w place rows s) o) (run_in db w.t w.around (Selects s)) ≡ option_map_or (λ m. lock_from db w s m place rows) o (select db w.t w.around s s.table)
        → o ≡ Some l → option_map_or (leads_to db w (Selects s)) (option_map (locked db w place rows s) o) due ≡ lock_from db w s l place rows
    by None runs h = cc
    by (Some m) runs h = runs ∙ ap (λ (x : Lock). lock_from db w s x place rows) (same_Some m l h)

-- a SELECT that answers at once has its result, or its fault
pub answers_at_once : (db : Database) (t : OpenTransaction) (columns : List ColumnTree) (rows : List (List Value)) (s : SelectTree) → at_once db t columns rows (Selects s) ≡ answered db t (result_of s columns rows)
answers_at_once db t columns rows s = by (result_of s columns rows) where
  by : (r : Result Results ValueFault) → (elim r [ Ok set ↦ answers db.content db t (Rows set) | Err fault ↦ fails db t (OfValue fault) ]) ≡ answered db t r
  by (Ok set) = refl
  by (Err fault) = refl

-- A statement that goes on does so in its view, and at no earlier target.
use Rattle.std.proofs.Common.{◌≡◌, refl, ap, sym, ◌∙◌, subst, ℕ, ◌+◌, ◌≤◌, List, [], ◌∷◌, ◌++◌, arith}
use Rattle.std.specs.Prelude.{Option, Some, None, drop, Result, Ok, Err}
use Rattle.sql_values.specs.declared.value.Value.{Value}
use Rattle.sql_values.specs.declared.fault.ValueFault.{ValueFault}
use Rattle.sql_trees.specs.Statements.{StmtTree, Inserts, Updates, Deletes, Selects}
use Rattle.session_machine.specs.declared.session.Transaction.TheVariants.{Open}
use Rattle.query_results.specs.Queries.{columns_assigned}
use Rattle.query_results.specs.Updates.{columns_set}
use Rattle.row_versions.specs.Log.{Content}
use Rattle.session_machine.specs.declared.session.OpenTransaction.{OpenTransaction}
use Rattle.session_machine.specs.declared.session.Progress.{Progress}
use Rattle.session_machine.specs.declared.reply.Outcome.{Outcome}
use Rattle.session_machine.specs.Tables.{Database}
use Rattle.session_machine.specs.Statements.{Surroundings, Effect}
use Rattle.session_machine.specs.Walks.{Stop, Walk, Blocked, Fails}
use Rattle.session_machine.specs.Rows.{columns_in}
use Rattle.session_machine.specs.Inner.Statements.{walked_from, insert_one, update_one, delete_one, lock_one, comes_to, after_walk, answer, put_insert, assigned_to, run_on, Visit, walked}
use Rattle.session_machine.specs.Running.{run_stmt}
use Rattle.session_machine.proofs.ByKind.{runs_by_kind}
use Rattle.session_machine.specs.Targets.{passing_targets, taken_targets, going_on}
use Rattle.session_machine.specs.Inner.Pieces.{unless_stopped, lock_again}
use Rattle.wait_laws.specs.Laws.{IsInViewOf, StatementsGoOnInTheirView}

no_progress : (p : Progress) → None ≡ Some p → ⊥
no_progress p h = cc

same_progress : (p q : Progress) → Some p ≡ Some q → p ≡ q
same_progress p q h = cc

-- a walk doesn't come back behind its first place
walked_on : {A : Type 0} (visit : Database → A → Visit) (db : Database) (place : ℕ) (rows : List (List Value)) (xs : List A) → place ≤ (walked visit db place rows xs).place
walked_on visit db place rows [] = omega arith
walked_on visit db place rows (a ∷ more) = by (visit db a).stop (walked_on visit (visit db a).db (place + 1) (rows ++ (visit db a).rows) more) where
  by : (o : Option Stop) → place + 1 ≤ (walked visit (visit db a).db (place + 1) (rows ++ (visit db a).rows) more).place
      → place ≤ (unless_stopped (visit db a) place rows o (walked visit (visit db a).db (place + 1) (rows ++ (visit db a).rows) more)).place
  by None h = omega (arith, h)
  by (Some stop) h = omega arith

walked_from_on : {A : Type 0} (visit : Database → A → Visit) (db : Database) (place : ℕ) (rows : List (List Value)) (targets : Result (List A) ValueFault)
    → place ≤ (walked_from visit db place rows targets).place
walked_from_on visit db place rows (Err fault) = omega arith
walked_from_on visit db place rows (Ok targets) = walked_on visit db place rows (drop place targets)

-- a statement that stops stands in its view
pub stands : (before : Content) (t : OpenTransaction) (around : Surroundings) (p q : Progress) (f : List (List Value) → Outcome) (k : Walk) → p.place ≤ k.place
    → (after_walk before (going_on t around p) f k).statement ≡ Some q → IsInViewOf p around q
stands before t around p q f k on h = by k.stop h where
  by : (o : Option Stop) → (comes_to before (going_on t around p) f k o).statement ≡ Some q → IsInViewOf p around q
  by None e = absurd (no_progress q e)
  by (Some (Fails fault)) e = absurd (no_progress q e)
  by (Some (Blocked r)) e = subst (IsInViewOf p around) (same_progress _ q e) (record { table = refl; view = refl; onward = on; number = refl })

pub statements_go_on_in_their_view : StatementsGoOnInTheirView
statements_go_on_in_their_view db t around p q =
    let by : (stmt : StmtTree) → (run_stmt db (Open t) (Some p) around stmt).statement ≡ Some q → (run_on db t around p stmt).statement ≡ Some q =
    λ stmt h. ap (λ (d : Effect). d.statement) (sym (runs_by_kind db (Open t) (Some p) around stmt)) ∙ h in
    let w = going_on t around p in
    record {
      inserts = λ i h.
          let at = insert_one w (put_insert i) (assigned_to (columns_assigned (columns_in db w) i.columns)) in
          stands db.content t around p q (answer (columns_in db w) i.returning) (walked at db p.place p.rows (drop p.place i.rows)) (walked_on at db p.place p.rows (drop p.place i.rows)) (by (Inserts i) h);
      updates = λ u h.
          let at = update_one w u (assigned_to (columns_set (columns_in db w) u.sets)) in
          let targets = passing_targets db w u.filter in
          stands db.content t around p q (answer (columns_in db w) u.returning) (walked_from at db p.place p.rows targets) (walked_from_on at db p.place p.rows targets) (by (Updates u) h);
      deletes = λ d h.
          let targets = passing_targets db w d.filter in
          stands db.content t around p q (answer (columns_in db w) d.returning) (walked_from (delete_one w d) db p.place p.rows targets) (walked_from_on (delete_one w d) db p.place p.rows targets) (by (Deletes d) h);
      locks = λ s l is h.
          let targets = taken_targets db w s in
          stands db.content t around p q (answer (columns_in db w) (Some s.items)) (walked_from (lock_one w s l) db p.place p.rows targets) (walked_from_on (lock_one w s l) db p.place p.rows targets)
          (subst (λ o. (lock_again db t around s p o).statement ≡ Some q) is (by (Selects s) h));
    }

-- Targets that are the definition's, and what a statement keeps that waits.
use Rattle.std.proofs.Common.{◌≡◌, refl, sym, ap, subst, ◌∙◌, ℕ, List, [], map, arith}
use Rattle.std.specs.Prelude.{◌≢◌, OnOk, Option, Some, None, unwrap_or, Result, Ok, Err, IfOk}
use Rattle.std.specs.Global.{Vec}
use Rattle.std.specs.Option.{option_map_or}
use Rattle.sql_trees.specs.declared.stmt.Lock.{Lock}
use Rattle.sql_trees.specs.Trees.{Tree}
use Rattle.sql_trees.specs.Statements.{StmtTree, SelectTree, Begin, Commit, Rollback, SetTransaction, SetDeadlockTimeout, Create, DropTables, Inserts, Updates, Deletes, Selects}
use Rattle.sql_values.specs.declared.value.Value.{Value}
use Rattle.sql_values.specs.declared.fault.ValueFault.{ValueFault}
use Rattle.sql_values.specs.declared.fault.ValueFault.TheVariants.{Memory}
use Rattle.query_results.specs.Queries.{passing, taken}
use Rattle.query_results.specs.Updates.{columns_set}
use Rattle.row_versions.specs.declared.write.Seen.{Seen}
use Rattle.row_versions.specs.Log.{Content, after_begin, values_at}
use Rattle.row_versions.proofs.Seeing.{sees-after_begin}
use Rattle.row_versions.proofs.Shown.{rows-same}
use Rattle.session_machine.specs.declared.session.OpenTransaction.{OpenTransaction}
use Rattle.session_machine.specs.declared.session.Progress.{Progress}
use Rattle.session_machine.specs.declared.fault.StmtFault.TheVariants.{Value as OfValue}
use Rattle.session_machine.specs.Tables.{Database}
use Rattle.session_machine.specs.Statements.{Effect, Surroundings, fails}
use Rattle.session_machine.specs.Rows.{Work, columns_in, cols_in}
use Rattle.session_machine.specs.Views.{rows_shown}
use Rattle.session_machine.specs.Targets.{at_places, going_on, passing_targets, seen_by, taken_targets}
use Rattle.session_machine.specs.Sound.{RowsStay}
use Rattle.session_machine.specs.Inner.Statements.{after_walk, answer, assigned_to, begun, delete_one, lock_one, update_one, walked_from}
use Rattle.session_statements.specs.declared.effect.Effect.{Effect as Left}
use Rattle.session_statements.specs.Inner.Going.{go_from}
use Rattle.session_statements.specs.Inner.Keeping.{RowIn, RowsIn}
use Rattle.session_statements.specs.Inner.Kept.{HasKept}
use Rattle.session_statements.specs.Inner.Left.{left}
use Rattle.session_statements.specs.Targets.{AreKept, targets_of}
use Rattle.session_statements.proofs.Going.{deletes_on, locks_on, updates_on}
use Rattle.session_statements.proofs.Keeping.{picked_hold, shown_in}

-- ---- targets that were found, and that weren't

abbrev found : List Seen → Result (List Seen) ValueFault
found targets = Ok targets

abbrev faulty : ValueFault → Result (List Seen) ValueFault
faulty fault = Err fault

same_found : (a b : List Seen) → found a ≡ found b → a ≡ b
same_found a b h = cc

not_faulty : (a : List Seen) (fault : ValueFault) → found a ≡ faulty fault → ⊥
not_faulty a fault h = cc

-- versions that a view shows of a table are of rows of the table
picked_in : (db : Database) (w : Work) (r : Result (List ℕ) ValueFault) (targets : List Seen) → RowsStay db.content → at_places (seen_by db w) r ≡ Ok targets
    → RowsIn db.content w.table targets
picked_in db w (Err fault) targets stay is = absurd (not_faulty targets fault (sym is))
picked_in db w (Ok places) targets stay is =
    subst (RowsIn db.content w.table) (same_found _ targets is)
    (picked_hold (λ (s : Seen). RowIn db.content w.table s.row) (seen_by db w) places (shown_in db.content w.view w.table stay))

none_in : (c : Content) (k : ℕ) (targets : List Seen) → found [] ≡ found targets → RowsIn c k targets
none_in c k targets is = subst (RowsIn c k) (same_found [] targets is) (λ i d l. absurd (omega (arith, l)))

-- and so are the targets of a statement
pub targets_in : (db : Database) (w : Work) (stmt : StmtTree) (targets : List Seen) → RowsStay db.content → targets_of db w stmt ≡ Ok targets → RowsIn db.content w.table targets
targets_in db w (Begin level) targets stay is = none_in db.content w.table targets is
targets_in db w Commit targets stay is = none_in db.content w.table targets is
targets_in db w Rollback targets stay is = none_in db.content w.table targets is
targets_in db w (SetTransaction level) targets stay is = none_in db.content w.table targets is
targets_in db w SetDeadlockTimeout targets stay is = none_in db.content w.table targets is
targets_in db w (Create c) targets stay is = none_in db.content w.table targets is
targets_in db w (DropTables d) targets stay is = none_in db.content w.table targets is
targets_in db w (Inserts i) targets stay is = none_in db.content w.table targets is
targets_in db w (Updates u) targets stay is = picked_in db w (passing (cols_in db w) u.filter (rows_shown db.content w.view w.table)) targets stay is
targets_in db w (Deletes d) targets stay is = picked_in db w (passing (cols_in db w) d.filter (rows_shown db.content w.view w.table)) targets stay is
targets_in db w (Selects s) targets stay is = by s.lock is where
  by : (o : Option Lock) → option_map_or (λ l. taken_targets db w s) o (Ok []) ≡ Ok targets → RowsIn db.content w.table targets
  by None h = none_in db.content w.table targets h
  by (Some l) h = picked_in db w (taken s (columns_in db w) (rows_shown db.content w.view w.table)) targets stay h

-- a statement whose targets couldn't be found fails
pub fails_there : (db : Database) (w : Work) (stmt : StmtTree) (place : ℕ) (rows : List (List Value)) (fault : ValueFault) → targets_of db w stmt ≡ Err fault
    → go_from db w stmt place rows ≡ fails db w.t (OfValue fault)
fails_there db w (Begin level) place rows fault is = absurd (not_faulty [] fault is)
fails_there db w Commit place rows fault is = absurd (not_faulty [] fault is)
fails_there db w Rollback place rows fault is = absurd (not_faulty [] fault is)
fails_there db w (SetTransaction level) place rows fault is = absurd (not_faulty [] fault is)
fails_there db w SetDeadlockTimeout place rows fault is = absurd (not_faulty [] fault is)
fails_there db w (Create c) place rows fault is = absurd (not_faulty [] fault is)
fails_there db w (DropTables d) place rows fault is = absurd (not_faulty [] fault is)
fails_there db w (Inserts i) place rows fault is = absurd (not_faulty [] fault is)
fails_there db w (Updates u) place rows fault is =
    updates_on db w place rows u
    ∙ ap (λ (r : Result (List Seen) ValueFault). after_walk db.content w (answer (columns_in db w) u.returning)
    (walked_from (update_one w u (assigned_to (columns_set (columns_in db w) u.sets))) db place rows r)) is
fails_there db w (Deletes d) place rows fault is =
    deletes_on db w place rows d
    ∙ ap (λ (r : Result (List Seen) ValueFault). after_walk db.content w (answer (columns_in db w) d.returning) (walked_from (delete_one w d) db place rows r)) is
fails_there db w (Selects s) place rows fault is = by s.lock refl is where
  by : (o : Option Lock) → s.lock ≡ o → option_map_or (λ l. taken_targets db w s) o (Ok []) ≡ Err fault → go_from db w (Selects s) place rows ≡ fails db w.t (OfValue fault)
  by None e h = absurd (not_faulty [] fault h)
  by (Some l) e h =
      locks_on db w place rows s l e
      ∙ ap (λ (r : Result (List Seen) ValueFault). after_walk db.content w (answer (columns_in db w) (Some s.items)) (walked_from (lock_one w s l) db place rows r)) h

-- so does one that fails by that fault, but for want of memory
pub failed_there : {E : Type 0} (db after : Database) (w : Work) (stmt : StmtTree) (r : Result Left E) (fault : ValueFault) → (fault ≢ Memory → targets_of db w stmt ≡ Err fault)
    → IfOk r (λ did. fails db w.t (OfValue fault) ≡ left after did) → OnOk r (fault ≢ Memory) → IfOk r (λ did. go_from db w stmt 0 [] ≡ left after did)
failed_there db after w stmt (Ok did) fault is h other = fails_there db w stmt 0 [] fault (is other) ∙ h
failed_there db after w stmt (Err x) fault is h other = tt

-- of a locking SELECT they are those that it takes
pub locked_targets : (db : Database) (w : Work) (s : SelectTree) (l : Lock) → s.lock ≡ Some l → targets_of db w (Selects s) ≡ taken_targets db w s
locked_targets db w s l is = ap (λ (o : Option Lock). option_map_or (λ m. taken_targets db w s) o (Ok [])) is

-- ---- what is kept

-- the targets are of a table and a view alone
of_work : (db : Database) (w : Work) (t : OpenTransaction) (around : Surroundings) (stmt : StmtTree)
    → (let at : Work = record { t = t; table = w.table; view = w.view; around = around } in targets_of db at stmt ≡ targets_of db w stmt)
of_work db w t around (Begin level) = refl
of_work db w t around Commit = refl
of_work db w t around Rollback = refl
of_work db w t around (SetTransaction level) = refl
of_work db w t around SetDeadlockTimeout = refl
of_work db w t around (Create c) = refl
of_work db w t around (DropTables d) = refl
of_work db w t around (Inserts i) = refl
of_work db w t around (Updates u) = refl
of_work db w t around (Deletes d) = refl
of_work db w t around (Selects s) = refl

-- what a statement has kept are its targets
pub kept_here : (db : Database) (w : Work) (stmt : StmtTree) (targets : List Seen) (statement : Option Progress) (kept : Option (Vec Seen))
    → targets_of db w stmt ≡ Ok targets → HasKept w targets statement kept → AreKept db stmt statement kept
kept_here db w stmt targets None kept is h = tt
kept_here db w stmt targets (Some p) None is h = h
kept_here db w stmt targets (Some p) (Some v) is h = λ t around.
    let table = h.1 in
    let view = h.2 in
    let moved : Result (List Seen) ValueFault = targets_of db (record { t = t; table = w.table; view = w.view; around = around }) stmt in
    let there : targets_of db (going_on t around p) stmt ≡ moved = λ i. targets_of db (record { t = t; table = table i; view = view i; around = around }) stmt in
    there ∙ (of_work db w t around stmt ∙ (is ∙ ap found (sym h.0)))

-- one that is over keeps nothing
pub over_keeps : (db after : Database) (stmt : StmtTree) (e : Effect) (did : Left) → e.statement ≡ None → e ≡ left after did → AreKept db stmt did.statement did.targets
over_keeps db after stmt e did none is = by did.statement (sym (ap (λ (x : Effect). x.statement) is) ∙ none) where
  by : (o : Option Progress) → o ≡ None → AreKept db stmt o did.targets
  by None h = tt
  by (Some p) h = cc

pub over_all : {E : Type 0} (db after : Database) (stmt : StmtTree) (e : Effect) (r : Result Left E) → e.statement ≡ None → IfOk r (λ did. e ≡ left after did)
    → IfOk r (λ did. AreKept db stmt did.statement did.targets)
over_all db after stmt e (Ok did) none is = over_keeps db after stmt e did none is
over_all db after stmt e (Err x) none is = tt

-- ---- a transaction begins, and nothing else is done

shown_still : (db : Database) (w : Work) → seen_by (begun db) w ≡ seen_by db w
shown_still db w = rows-same db.content (after_begin db.content).fates w.view (record { 0 = w.table }) (sees-after_begin db.content w.view)

passing_still : (db : Database) (w : Work) (filter : Option Tree) → passing_targets (begun db) w filter ≡ passing_targets db w filter
passing_still db w filter = let seen = shown_still db w in
    λ i. at_places (seen i) (passing (cols_in db w) filter (map (λ (s : Seen). unwrap_or (values_at db.content s.place) []) (seen i)))

taken_still : (db : Database) (w : Work) (s : SelectTree) → taken_targets (begun db) w s ≡ taken_targets db w s
taken_still db w s = let seen = shown_still db w in
    λ i. at_places (seen i) (taken s (columns_in db w) (map (λ (x : Seen). unwrap_or (values_at db.content x.place) []) (seen i)))

targets_still : (db : Database) (w : Work) (stmt : StmtTree) → targets_of (begun db) w stmt ≡ targets_of db w stmt
targets_still db w (Begin level) = refl
targets_still db w Commit = refl
targets_still db w Rollback = refl
targets_still db w (SetTransaction level) = refl
targets_still db w SetDeadlockTimeout = refl
targets_still db w (Create c) = refl
targets_still db w (DropTables d) = refl
targets_still db w (Inserts i) = refl
targets_still db w (Updates u) = passing_still db w u.filter
targets_still db w (Deletes d) = passing_still db w d.filter
targets_still db w (Selects s) = ap (λ (r : Result (List Seen) ValueFault). option_map_or (λ l. r) s.lock (Ok [])) (taken_still db w s)

kept_before : (db : Database) (stmt : StmtTree) (statement : Option Progress) (kept : Option (Vec Seen)) → AreKept (begun db) stmt statement kept → AreKept db stmt statement kept
kept_before db stmt None kept h = tt
kept_before db stmt (Some p) None h = h
kept_before db stmt (Some p) (Some v) h = λ t around. sym (targets_still db (going_on t around p) stmt) ∙ h t around

pub kept_since_begun : {E : Type 0} (db : Database) (stmt : StmtTree) (r : Result Left E) → IfOk r (λ did. AreKept (begun db) stmt did.statement did.targets)
    → IfOk r (λ did. AreKept db stmt did.statement did.targets)
kept_since_begun db stmt (Ok did) h = kept_before db stmt did.statement did.targets h
kept_since_begun db stmt (Err x) h = tt

-- Which reply a statement gives, by what it asks for; and so each event.
use Rattle.std.proofs.Common.{◌≡◌, ◌↔◌, refl, sym, ◌∙◌, ap, subst, Bool, true, false, ℕ, ◌+◌, List, [], ◌∷◌, ◌++◌, length}
use Rattle.std.specs.Prelude.{ℤ, Option, Some, None, option_map, unwrap_or, slice_get, flat_map, nat_lt, is_some, Result, Ok, Err, if◌then◌else◌}
use Rattle.std.specs.List.{list_any}
use Rattle.std.specs.Option.{option_map_or, option_or}
use Rattle.sql_trees.specs.declared.stmt.Level.{Level}
use Rattle.sql_trees.specs.declared.stmt.Level.TheVariants.{ReadCommitted}
use Rattle.sql_trees.specs.declared.stmt.Lock.{Lock}
use Rattle.sql_trees.specs.Statements.{ColumnTree, ItemTree, StmtTree, InsertTree, UpdateTree, Begin, Commit, Rollback, SetTransaction, SetDeadlockTimeout, Create, DropTables, Inserts, Updates, Deletes, Selects}
use Rattle.sql_values.specs.declared.value.Value.{Value}
use Rattle.sql_values.specs.declared.fault.ValueFault.{ValueFault}
use Rattle.sql_values.specs.declared.fault.ValueFault.TheVariants.{NoColumn}
use Rattle.query_results.specs.Results.{Results}
use Rattle.query_results.specs.Queries.{AssignedColumn, cols_of, titles_of, result_of, returned_exprs, columns_assigned, taken, undefined_among}
use Rattle.query_results.specs.Updates.{columns_set, update_exprs}
use Rattle.row_versions.specs.declared.names.TxId.{TxId}
use Rattle.row_versions.specs.Log.{after_begin}
use Rattle.session_machine.specs.declared.session.OpenTransaction.{OpenTransaction}
use Rattle.session_machine.specs.declared.session.Place.{Place}
use Rattle.session_machine.specs.declared.session.Progress.{Progress}
use Rattle.session_machine.specs.declared.session.Request.{Request}
use Rattle.session_machine.specs.declared.session.Session.{Session}
use Rattle.session_machine.specs.declared.session.Transaction.{Transaction}
use Rattle.session_machine.specs.declared.session.Transaction.TheVariants.{Closed, Open, Aborted}
use Rattle.session_machine.specs.declared.event.Event.{Event}
use Rattle.session_machine.specs.declared.event.Event.TheVariants.{Launch, Step, Leave}
use Rattle.session_machine.specs.declared.event.Mode.{Mode}
use Rattle.session_machine.specs.declared.fault.Refusal.TheVariants.{Busy, NotYourTurn, BlockNotAllowed}
use Rattle.session_machine.specs.declared.fault.StmtFault.{StmtFault}
use Rattle.session_machine.specs.declared.fault.StmtFault.TheVariants.{Value as OfValue, NoColumnOf, NoPosition, NoTable, NoTableToDrop, TableExists, TooManyValues, LevelTooLate, Aborted as AbortedFault, Deadlock}
use Rattle.session_machine.specs.declared.reply.Outcome.{Outcome}
use Rattle.session_machine.specs.declared.reply.Outcome.TheVariants.{Launched, Done, Rows, Waits, Failed, Left}
use Rattle.session_machine.specs.Tables.{Database, find_table}
use Rattle.session_machine.specs.Transactions.{committed, fresh, view_of}
use Rattle.session_machine.specs.Views.{rows_shown}
use Rattle.session_machine.specs.Statements.{Surroundings, Effect, fails, answers, turns, drop_tables, level_set}
use Rattle.session_machine.specs.Walks.{Stop, Walk, Blocked, Fails}
use Rattle.session_machine.specs.Rows.{Work, columns_in, over_targets, table_named, walk_of}
use Rattle.session_machine.specs.Running.{undefined_in, fault_in, items_answered, leads_to, at_once, begin_at, run_in, run_stmt}
use Rattle.session_machine.specs.Targets.{going_on}
use Rattle.session_machine.specs.Machine.{Machine, Blocks, Next, next, stmts_of, after_stmt, closed_at_end, is_failed, leaves}
use Rattle.session_machine.specs.Inner.Steps.{launch_of, step_of, leave_of}
use Rattle.wait_laws.specs.Laws.{stmt_at, transaction_at}
use Rattle.wait_laws.specs.Replies.{AskedIn, Asks, AsksFromStart, AsksOver, asking, surroundings, walk_from}
use Rattle.wait_laws.proofs.Events.{ok_is, ok_else, session_there, stepped}
use Rattle.wait_laws.proofs.Stops.{Tells, inserts, neither, none_some, over_all}

-- the one exactly where the other, and that exactly where a third
by_both : {A B D : Type 0} → A ↔ B → B ↔ D → A ↔ D
by_both f g = (λ a. g.0 (f.0 a), λ d. f.1 (g.1 d))

-- something is wrong with a statement before it looks at a row, which is no deadlock
wrong_not : (columns : List ColumnTree) (stmt : StmtTree) (fault : StmtFault) → fault_in columns stmt ≡ Some fault → fault ≡ Deadlock → ⊥
wrong_not columns stmt fault h e = never (fault_in columns stmt) (of_kind stmt) (h ∙ ap Some e) where
  Not : Option StmtFault → Type 0
  Not o = o ≡ Some Deadlock → ⊥

  never : (o : Option StmtFault) → Not o → Not o
  never o f = f

  undefined : (o : Option (List ℕ)) → Not (option_map (λ name. OfValue (NoColumn name)) o)
  undefined None k = cc
  undefined (Some name) k = cc

  else_so : (o : Option (List ℕ)) (p : Option StmtFault) → Not p → Not (option_or (option_map (λ name. OfValue (NoColumn name)) o) p)
  else_so None p f k = f k
  else_so (Some name) p f k = cc

  many : (b : Bool) → (let o : Option StmtFault = if b then Some TooManyValues else None in Not o)
  many true k = cc
  many false k = cc

  position : (o : Option ℤ) → Not (option_map NoPosition o)
  position None k = cc
  position (Some n) k = cc

  inserted : (i : InsertTree) (r : Result (List AssignedColumn) (List ℕ)) → Not (elim r [
    | Err column ↦ Some (NoColumnOf column i.table)
    | Ok to ↦
        option_or (undefined_in [] (flat_map (λ row. row) i.rows)) (option_or (undefined_in (cols_of columns) (returned_exprs i.returning))
        (if list_any (λ row. nat_lt (length to) (length row)) i.rows then Some TooManyValues else None))
  ])
  inserted i (Err column) k = cc
  inserted i (Ok to) k =
      else_so (undefined_among [] (flat_map (λ row. row) i.rows)) _
      (else_so (undefined_among (cols_of columns) (returned_exprs i.returning)) _ (many (list_any (λ row. nat_lt (length to) (length row)) i.rows))) k

  updated : (u : UpdateTree) (r : Result (List AssignedColumn) (List ℕ)) → Not (elim r [ Err column ↦ Some (NoColumnOf column u.table) | Ok to ↦ undefined_in (cols_of columns) (update_exprs u) ])
  updated u (Err column) k = cc
  updated u (Ok to) k = undefined _ k

  of_kind : (s : StmtTree) → Not (fault_in columns s)
  of_kind (Inserts i) k = inserted i (columns_assigned columns i.columns) k
  of_kind (Updates u) k = updated u (columns_set columns u.sets) k
  of_kind (Deletes d) k = undefined _ k
  of_kind (Selects s) k = else_so _ _ (position _) k
  of_kind (Begin level) k = cc
  of_kind Commit k = cc
  of_kind Rollback k = cc
  of_kind (SetTransaction level) k = cc
  of_kind SetDeadlockTimeout k = cc
  of_kind (Create c) k = cc
  of_kind (DropTables d) k = cc

-- the replies that are spoken of come exactly with the stops that are
pub record Shows (S : Option Stop → Type 0) (R : Outcome → Type 0) : Type 0 where
  pub launched : R Launched → ⊥
  pub left : R Left → ⊥
  pub done : R Done → ⊥
  pub rows : (set : Results) → R (Rows set) → ⊥
  pub fault : (f : StmtFault) → R (Failed f) ↔ S (Some (Fails f))
  pub waits : (r : Request) → R Waits ↔ S (Some (Blocked r))

same_name : (a b : List ℕ) → Some a ≡ Some b → a ≡ b
same_name a b h = cc

same_place : (a b : ℕ) → Some a ≡ Some b → a ≡ b
same_place a b h = cc

launch_not : (i block session : ℕ) → Launch i block ≡ Step session → ⊥
launch_not i block session h = cc

leave_not : (i session : ℕ) → Leave i ≡ Step session → ⊥
leave_not i session h = cc

-- a session's reply is that of its statement
outcome_after : (m : Machine) (i : ℕ) (place : Place) (count : ℕ) (d : Effect) → (after_stmt m i place count d).reply.outcome ≡ d.outcome
outcome_after m i place count d = at (is_some d.statement) where
  ends : (tr : Transaction) → (closed_at_end d tr).outcome ≡ d.outcome
  ends Closed = refl
  ends Aborted = refl
  ends (Open t) = by t.explicit where
    by : (b : Bool) → (let e : Effect = if b then d else record { db = committed d.db t.tx; transaction = Closed; statement = None; outcome = d.outcome } in e.outcome) ≡ d.outcome
    by true = refl
    by false = refl

  goes : (b : Bool) → (let y : Next = if b then leaves m i d None (Some (record { block = place.block; next = place.next + 1 })) else leaves m i (closed_at_end d d.transaction) None None in y.reply.outcome) ≡ d.outcome
  goes true = refl
  goes false = ends d.transaction

  failed : (b : Bool) → (let y : Next = if b then leaves m i d None None else if nat_lt (place.next + 1) count then leaves m i d None (Some (record { block = place.block; next = place.next + 1 }))
      else leaves m i (closed_at_end d d.transaction) None None in y.reply.outcome) ≡ d.outcome
  failed true = refl
  failed false = goes (nat_lt (place.next + 1) count)

  at : (b : Bool) → (let y : Next = if b then leaves m i d d.statement (Some place) else if is_failed d.outcome then leaves m i d None None
      else if nat_lt (place.next + 1) count then leaves m i d None (Some (record { block = place.block; next = place.next + 1 })) else leaves m i (closed_at_end d d.transaction) None None in y.reply.outcome) ≡ d.outcome
  at true = refl
  at false = failed (is_failed d.outcome)

module _ (S : Option Stop → Type 0) (C : TxId → List Session → Database → Request → Type 0) (R : Outcome → Type 0) (tells : Tells S C) (shows : Shows S R) where
  -- what is asked for of which it is so
  abbrev For : TxId → Surroundings → (Database → Request → Type 0) → Type 0
  For tx around asks = (db : Database) × (request : Request) × asks db request × C tx around.sessions db request

  never : (f : StmtFault) → (f ≡ Deadlock → ⊥) → R (Failed f) → ⊥
  never f other r = tells.other f other ((shows.fault f).0 r)

  -- what a walk leads to
  leads : (db : Database) (w : Work) (stmt : StmtTree) (walk : Walk) → R (leads_to db w stmt walk).outcome ↔ S walk.stop
  leads db w stmt walk = by walk.stop where
    ends : (o : Option (List ItemTree)) → R (option_map_or (λ items. Rows (record { titles = titles_of (columns_in db w) items; rows = walk.rows })) o Done) → ⊥
    ends None = shows.done
    ends (Some items) = shows.rows _

    by : (o : Option Stop) → R (leads_to db w stmt (record walk { stop = o })).outcome ↔ S o
    by None = neither (ends (items_answered stmt)) tells.none
    by (Some (Blocked r)) = shows.waits r
    by (Some (Fails f)) = shows.fault f

  -- a statement at its targets, and else what is due where it has none
  works : (db : Database) (w : Work) (stmt : StmtTree) (start : Walk) → start.stop ≡ None → (due : Effect) → (walk_of w stmt start ≡ None → R due.outcome → ⊥)
      → R (option_map_or (leads_to db w stmt) (walk_of w stmt start) due).outcome ↔ For w.t.tx w.around (AsksOver w stmt start)
  works db w (Inserts i) start h due not_so = by_both (leads db w (Inserts i) _) (inserts S C tells w i start h)
  works db w (Updates u) start h due not_so = by_both (leads db w (Updates u) _) (over_all S C tells w (Updates u) start h _)
  works db w (Deletes d) start h due not_so = by_both (leads db w (Deletes d) _) (over_all S C tells w (Deletes d) start h _)
  works db w (Selects s) start h due not_so = by s.lock refl not_so where
    places : Result (List ℕ) ValueFault
    places = taken s (columns_in start.db w) (rows_shown start.db.content w.view w.table)

    walk : Walk
    walk = over_targets w (Selects s) start places

    none_lock : (l : Lock) → None ≡ Some l → ⊥
    none_lock l k = cc

    by : (o : Option Lock) → s.lock ≡ o → (option_map (λ l. walk) o ≡ None → R due.outcome → ⊥)
        → R (option_map_or (leads_to db w (Selects s)) (option_map (λ l. walk) o) due).outcome ↔ For w.t.tx w.around (AsksOver w (Selects s) start)
    by None e f = neither (f refl) (λ c. none_lock c.2.0 (sym e ∙ c.2.1))
    by (Some l) e f =
        let on = by_both (leads db w (Selects s) walk) (over_all S C tells w (Selects s) start h places) in
        (λ r. let c = on.0 r in (c.0, c.1, (l, e, c.2), c.3), λ c. on.1 (c.0, c.1, c.2.2, c.3))
  works db w (Begin level) start h due not_so = neither (not_so refl) (λ c. c.2)
  works db w Commit start h due not_so = neither (not_so refl) (λ c. c.2)
  works db w Rollback start h due not_so = neither (not_so refl) (λ c. c.2)
  works db w (SetTransaction level) start h due not_so = neither (not_so refl) (λ c. c.2)
  works db w SetDeadlockTimeout start h due not_so = neither (not_so refl) (λ c. c.2)
  works db w (Create c) start h due not_so = neither (not_so refl) (λ c. c.2)
  works db w (DropTables d) start h due not_so = neither (not_so refl) (λ c. c.2)

  -- a statement without targets answers at once
  once : (db : Database) (t : OpenTransaction) (columns : List ColumnTree) (rows : List (List Value)) (stmt : StmtTree) → R (at_once db t columns rows stmt).outcome → ⊥
  once db t columns rows (Selects s) = by (result_of s columns rows) where
    by : (r : Result Results ValueFault) → (let d : Effect = elim r [ Ok set ↦ answers db.content db t (Rows set) | Err fault ↦ fails db t (OfValue fault) ] in R d.outcome) → ⊥
    by (Ok set) = shows.rows set
    by (Err fault) = never (OfValue fault) (λ e. cc)
  once db t columns rows (Inserts i) = shows.done
  once db t columns rows (Updates u) = shows.done
  once db t columns rows (Deletes d) = shows.done
  once db t columns rows (Begin level) = shows.done
  once db t columns rows Commit = shows.done
  once db t columns rows Rollback = shows.done
  once db t columns rows (SetTransaction level) = shows.done
  once db t columns rows SetDeadlockTimeout = shows.done
  once db t columns rows (Create c) = shows.done
  once db t columns rows (DropTables d) = shows.done

  -- a statement that begins at a table
  begins : (db : Database) (t : OpenTransaction) (around : Surroundings) (name : List ℕ) (stmt : StmtTree) → table_named stmt ≡ Some name
      → R (begin_at db t around name stmt).outcome ↔ For t.tx around (AsksFromStart db t around stmt)
  begins db t around name stmt named = by (find_table db (Some t.tx) name) refl where
    at : ℕ → Work
    at k = record { t = t; table = k; view = view_of db.content t; around = around }

    due : ℕ → Effect
    due k = option_map_or (leads_to db (at k) stmt) (walk_of (at k) stmt (walk_from db 0 [])) (at_once db t (columns_in db (at k)) (rows_shown db.content (at k).view k) stmt)

    found : Option ℕ → Effect
    found None = fails db t (NoTable name)
    found (Some k) = option_map_or (fails db t) (fault_in (columns_in db (at k)) stmt) (due k)

    -- what it asks for it asks at the table that was found
    Here : ℕ → Type 0
    Here k = For t.tx around (λ d r. (fault_in (columns_in db (at k)) stmt ≡ None) × AsksOver (at k) stmt (walk_from db 0 []) d r)

    its : (k : ℕ) → find_table db (Some t.tx) name ≡ Some k → For t.tx around (AsksFromStart db t around stmt) → Here k
    its k e c =
        let one = same_name c.2.0 name (sym c.2.2 ∙ named) in
        let same = same_place c.2.1 k (sym (subst (λ (y : List ℕ). find_table db (Some t.tx) y ≡ Some c.2.1) one c.2.3) ∙ e) in
        (c.0, c.1, subst (λ (y : ℕ). (fault_in (columns_in db (at y)) stmt ≡ None) × AsksOver (at y) stmt (walk_from db 0 []) c.0 c.1) same c.2.4, c.3)

    fitting : (k : ℕ) → find_table db (Some t.tx) name ≡ Some k → (o : Option StmtFault) → fault_in (columns_in db (at k)) stmt ≡ o
        → R (option_map_or (fails db t) o (due k)).outcome ↔ For t.tx around (AsksFromStart db t around stmt)
    fitting k e (Some fault) f = neither (never fault (wrong_not (columns_in db (at k)) stmt fault f)) (λ c. none_some fault (sym (its k e c).2.0 ∙ f))
    fitting k e None f =
        let on = works db (at k) stmt (walk_from db 0 []) refl _ (λ none. once db t (columns_in db (at k)) (rows_shown db.content (at k).view k) stmt) in
        (λ r. let c = on.0 r in (c.0, c.1, (name, k, named, e, (f, c.2)), c.3), λ c. let h = its k e c in on.1 (h.0, h.1, h.2.1, h.3))

    by : (o : Option ℕ) → find_table db (Some t.tx) name ≡ o → R (found o).outcome ↔ For t.tx around (AsksFromStart db t around stmt)
    by None e = neither (never (NoTable name) (λ f. cc)) (λ c. none_some c.2.1 (sym e ∙ subst (λ (y : List ℕ). find_table db (Some t.tx) y ≡ Some c.2.1) (same_name c.2.0 name (sym c.2.2 ∙ named)) c.2.3))
    by (Some k) e = fitting k e (fault_in (columns_in db (at k)) stmt) refl

  -- a statement that names no table asks for nothing
  silent : (db : Database) (t : OpenTransaction) (around : Surroundings) (stmt : StmtTree) (outcome : Outcome) → table_named stmt ≡ None → (R outcome → ⊥)
      → R outcome ↔ For t.tx around (AsksFromStart db t around stmt)
  silent db t around stmt outcome none not_so = neither not_so (λ c. none_some c.2.0 (sym none ∙ c.2.2))

  levels : (db : Database) (t : OpenTransaction) (explicit : Bool) (level : Level) → R (level_set db t explicit level).outcome → ⊥
  levels db t explicit level = by _ where
    by : (b : Bool) → (let d : Effect = if b then fails db t LevelTooLate else turns db (Open (record t { explicit = explicit; level = level })) in R d.outcome) → ⊥
    by true = never LevelTooLate (λ e. cc)
    by false = shows.done

  drops : (t : OpenTransaction) (if_exists : Bool) (names : List (List ℕ)) (db : Database) → R (drop_tables db t if_exists names).outcome → ⊥
  drops t if_exists [] db = shows.done
  drops t if_exists (name ∷ names) db = by (drops t if_exists names) (find_table db (Some t.tx) name) where
    missing : (b : Bool) → (R (drop_tables db t if_exists names).outcome → ⊥)
        → (let d : Effect = if b then drop_tables db t if_exists names else fails db t (NoTableToDrop name) in R d.outcome) → ⊥
    missing true on = on
    missing false on = never (NoTableToDrop name) (λ e. cc)

    by : ((d : Database) → R (drop_tables d t if_exists names).outcome → ⊥) → (o : Option ℕ)
        → R (option_map_or (λ k. drop_tables (record db { catalog = record db.catalog { drops = db.catalog.drops ++ record { table = k; by = t.tx } ∷ [] } }) t if_exists names) o
        (if if_exists then drop_tables db t if_exists names else fails db t (NoTableToDrop name))).outcome → ⊥
    by on (Some k) = on _
    by on None = missing if_exists (on db)

  -- a statement that begins in an open transaction
  pub runs_in : (db : Database) (t : OpenTransaction) (around : Surroundings) (stmt : StmtTree) → R (run_in db t around stmt).outcome ↔ For t.tx around (AsksFromStart db t around stmt)
  runs_in db t around (Begin level) = silent db t around (Begin level) _ refl (by t.explicit) where
    by : (b : Bool) → (let d : Effect = if b then turns db (Open t) else level_set db t true (unwrap_or level t.level) in R d.outcome) → ⊥
    by true = shows.done
    by false = levels db t true (unwrap_or level t.level)
  runs_in db t around Commit = silent db t around Commit _ refl shows.done
  runs_in db t around Rollback = silent db t around Rollback _ refl shows.done
  runs_in db t around (SetTransaction level) = silent db t around (SetTransaction level) _ refl (levels db t t.explicit level)
  runs_in db t around SetDeadlockTimeout = silent db t around SetDeadlockTimeout _ refl shows.done
  runs_in db t around (Create c) = silent db t around (Create c) _ refl (by (find_table db (Some t.tx) c.name)) where
    made : Effect
    made = answers db.content (record db { catalog = record db.catalog { tables = db.catalog.tables ++ record { made = c; by = t.tx } ∷ [] } }) t Done

    by : (o : Option ℕ) → R (option_map_or (λ k. fails db t (TableExists c.name)) o made).outcome → ⊥
    by None = shows.done
    by (Some k) = never (TableExists c.name) (λ e. cc)
  runs_in db t around (DropTables d) = silent db t around (DropTables d) _ refl (drops t d.if_exists d.names db)
  runs_in db t around (Inserts i) = begins db t around i.table (Inserts i) refl
  runs_in db t around (Updates u) = begins db t around u.table (Updates u) refl
  runs_in db t around (Deletes d) = begins db t around d.table (Deletes d) refl
  runs_in db t around (Selects s) = by s.table refl where
    bare : (o : Option StmtFault) → fault_in [] (Selects s) ≡ o → R (option_map_or (fails db t) o (at_once db t [] ([] ∷ []) (Selects s))).outcome → ⊥
    bare None e = once db t [] ([] ∷ []) (Selects s)
    bare (Some fault) e = never fault (wrong_not [] (Selects s) fault e)

    by : (o : Option (List ℕ)) → s.table ≡ o
        → R (option_map_or (λ name. begin_at db t around name (Selects s)) o (option_map_or (fails db t) (fault_in [] (Selects s)) (at_once db t [] ([] ∷ []) (Selects s)))).outcome
        ↔ For t.tx around (AsksFromStart db t around (Selects s))
    by None e = silent db t around (Selects s) _ e (bare (fault_in [] (Selects s)) refl)
    by (Some name) e = begins db t around name (Selects s) e

  -- one without targets asks for nothing, wherever it is
  idle : (w v : Work) (stmt : StmtTree) (start from : Walk) → walk_of w stmt start ≡ None → (d : Database) (r : Request) → AsksOver v stmt from d r → ⊥
  idle w v (Inserts i) start from h d r c = none_some _ (sym h)
  idle w v (Updates u) start from h d r c = none_some _ (sym h)
  idle w v (Deletes e) start from h d r c = none_some _ (sym h)
  idle w v (Selects s) start from h d r c = by s.lock c.1 h where
    places : Result (List ℕ) ValueFault
    places = taken s (columns_in start.db w) (rows_shown start.db.content w.view w.table)

    by : (o : Option Lock) → o ≡ Some c.0 → option_map (λ l. over_targets w (Selects s) start places) o ≡ None → ⊥
    by None e k = let f : None ≡ Some c.0 = e in cc
    by (Some l) e k = none_some _ (sym k)
  idle w v (Begin level) start from h d r c = c
  idle w v Commit start from h d r c = c
  idle w v Rollback start from h d r c = c
  idle w v (SetTransaction level) start from h d r c = c
  idle w v SetDeadlockTimeout start from h d r c = c
  idle w v (Create made) start from h d r c = c
  idle w v (DropTables names) start from h d r c = c

  -- any statement
  pub runs : (db : Database) (tr : Transaction) (statement : Option Progress) (around : Surroundings) (stmt : StmtTree)
      → R (run_stmt db tr statement around stmt).outcome ↔ For (transaction_at db.content tr).tx around (Asks db tr statement around stmt)
  runs db (Open t) None around stmt = runs_in db t around stmt
  runs db (Open t) (Some p) around stmt =
      let w = going_on t around p in
      let start = walk_from db p.place p.rows in
      works db w stmt start refl (run_in db t around stmt)
      (λ none r. let c = (runs_in db t around stmt).0 r in idle w (record { t = t; table = c.2.1; view = view_of db.content t; around = around }) stmt start (walk_from db 0 []) none c.0 c.1 c.2.4.1)
  runs db Closed statement around stmt = by stmt where
    first : OpenTransaction
    first = fresh db.content ReadCommitted false

    begun : Database
    begun = record db { content = after_begin db.content }

    in_new : (s : StmtTree) → R (run_in begun first around s).outcome ↔ For first.tx around (AsksFromStart begun first around s)
    in_new s = runs_in begun first around s

    by : (s : StmtTree) → R (run_stmt db Closed statement around s).outcome ↔ For first.tx around (AsksFromStart begun first around s)
    by Commit = silent begun first around Commit _ refl shows.done
    by Rollback = silent begun first around Rollback _ refl shows.done
    by SetDeadlockTimeout = silent begun first around SetDeadlockTimeout _ refl shows.done
    by (Begin level) = in_new (Begin level)
    by (SetTransaction level) = in_new (SetTransaction level)
    by (Create c) = in_new (Create c)
    by (DropTables d) = in_new (DropTables d)
    by (Inserts i) = in_new (Inserts i)
    by (Updates u) = in_new (Updates u)
    by (Deletes d) = in_new (Deletes d)
    by (Selects s) = in_new (Selects s)
  runs db Aborted statement around stmt = neither (by stmt) (λ c. c.2) where
    by : (s : StmtTree) → R (run_stmt db Aborted statement around s).outcome → ⊥
    by Commit = shows.done
    by Rollback = shows.done
    by SetDeadlockTimeout = never AbortedFault (λ e. cc)
    by (Begin level) = never AbortedFault (λ e. cc)
    by (SetTransaction level) = never AbortedFault (λ e. cc)
    by (Create c) = never AbortedFault (λ e. cc)
    by (DropTables d) = never AbortedFault (λ e. cc)
    by (Inserts i) = never AbortedFault (λ e. cc)
    by (Updates u) = never AbortedFault (λ e. cc)
    by (Deletes d) = never AbortedFault (λ e. cc)
    by (Selects s) = never AbortedFault (λ e. cc)

  -- an event that isn't refused
  pub events : (given : Blocks) (mode : Mode) (m : Machine) (event : Event) (n : Next) → next given mode m event ≡ Ok n
      → R n.reply.outcome ↔ ((a : AskedIn given m event) × C (asking given m event a) (surroundings m a.session a.state).sessions a.db a.request)
  events given mode m (Launch i block) n h =
      let there = session_there given mode m (Launch i block) n h in
      let a = ok_else BlockNotAllowed _ _ n (subst (λ o. launch_of given mode m i block o ≡ Ok n) there.1 h) in
      let b = ok_else Busy _ _ n a.1 in
      let c = ok_else NotYourTurn _ _ n b.1 in
      neither (λ r. shows.launched (subst (λ (y : Next). R y.reply.outcome) (ok_is _ n c.1) r)) (λ k. launch_not i block k.0.session k.0.its)
  events given mode m (Leave i) n h =
      let there = session_there given mode m (Leave i) n h in
      let c = ok_else NotYourTurn _ _ n (subst (λ o. leave_of mode m i o ≡ Ok n) there.1 h) in
      neither (λ r. shows.left (subst (λ (y : Next). R y.reply.outcome) (ok_is _ n c.1) r)) (λ k. leave_not i k.0.session k.0.its)
  events given mode m (Step i) n h =
      let there = session_there given mode m (Step i) n h in
      let s = there.0 in
      let k = stepped given mode m i s n (subst (λ o. step_of given mode m i o ≡ Ok n) there.1 h) in
      let tree : stmt_at given s.place ≡ Some k.stmt = ap (stmt_at given) k.there ∙ k.found in
      let on = runs m.db s.transaction s.statement (surroundings m i s) k.stmt in
      let same : n.reply.outcome ≡ (run_stmt m.db s.transaction s.statement (surroundings m i s) k.stmt).outcome =
      ap (λ (y : Next). y.reply.outcome) k.is ∙ outcome_after m i k.place (length (stmts_of given k.place.block)) _ in (
        λ r.
            let c = on.0 (subst R same r) in
            (record { session = i; its = refl; state = s; there = there.1; stmt = k.stmt; tree = tree; db = c.0; request = c.1; asks = c.2 }, c.3),
        λ c. let b = back s k.stmt there.1 tree c.0 c.1 in subst R (sym same) (on.1 (c.0.db, c.0.request, b.0, b.1)),
      ) where
        same_step : (a b : ℕ) → Step a ≡ Step b → a ≡ b
        same_step a b e = cc

        same_state : (a b : Session) → Some a ≡ Some b → a ≡ b
        same_state a b e = cc

        same_stmt : (a b : StmtTree) → Some a ≡ Some b → a ≡ b
        same_stmt a b e = cc

        Told : (db : Database) (request : Request) → ℕ → Session → StmtTree → Type 0
        Told db request j u stmt =
            Asks m.db u.transaction u.statement (surroundings m j u) stmt db request
            × C (transaction_at m.db.content u.transaction).tx (surroundings m j u).sessions db request

        back : (s : Session) (stmt : StmtTree) → slice_get m.sessions i ≡ Some s → stmt_at given s.place ≡ Some stmt → (a : AskedIn given m (Step i))
            → C (asking given m (Step i) a) (surroundings m a.session a.state).sessions a.db a.request → Told a.db a.request i s stmt
        back s stmt at tree a c =
            let one = sym (same_step i a.session a.its) in
            let who : a.state ≡ s = same_state a.state s (sym (subst (λ j. slice_get m.sessions j ≡ Some a.state) one a.there) ∙ at) in
            let what : a.stmt ≡ stmt = same_stmt a.stmt stmt (sym a.tree ∙ (ap (λ (y : Session). stmt_at given y.place) who ∙ tree)) in
            subst (Told a.db a.request i s) what (subst (λ u. Told a.db a.request i u a.stmt) who (subst (λ j. Told a.db a.request j a.state a.stmt) one (a.asks, c)))

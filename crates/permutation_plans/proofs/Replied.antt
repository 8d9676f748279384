-- What replies say of a block's end: a statement that waits doesn't end its block, and a session that leaves has ended its own.
use Rattle.std.proofs.Common.{◌≡◌, refl, sym, ◌∙◌, subst, Bool, true, false, true≢false, ℕ, ◌+◌, List, [], ◌∷◌, ◌++◌, length}
use Rattle.std.specs.Prelude.{Option, Some, None, unwrap_or, slice_get, nat_lt, is_some, Result, Ok, Err, if◌then◌else◌}
use Rattle.std.specs.Option.{option_map_or}
use Rattle.sql_trees.specs.declared.stmt.Level.{Level}
use Rattle.sql_trees.specs.declared.stmt.Level.TheVariants.{ReadCommitted}
use Rattle.sql_trees.specs.Statements.{ColumnTree, ItemTree, StmtTree, Begin, Commit, Rollback, SetTransaction, SetDeadlockTimeout, Create, DropTables, Inserts, Updates, Deletes, Selects}
use Rattle.sql_values.specs.declared.value.Value.{Value}
use Rattle.sql_values.specs.declared.fault.ValueFault.{ValueFault}
use Rattle.query_results.specs.Results.{Results}
use Rattle.query_results.specs.Queries.{titles_of, result_of}
use Rattle.row_versions.specs.Log.{after_begin}
use Rattle.session_machine.specs.declared.session.OpenTransaction.{OpenTransaction}
use Rattle.session_machine.specs.declared.session.Place.{Place}
use Rattle.session_machine.specs.declared.session.Progress.{Progress}
use Rattle.session_machine.specs.declared.session.Session.{Session}
use Rattle.session_machine.specs.declared.session.Transaction.{Transaction}
use Rattle.session_machine.specs.declared.session.Transaction.TheVariants.{Closed, Open, Aborted}
use Rattle.session_machine.specs.declared.event.Event.{Event}
use Rattle.session_machine.specs.declared.event.Event.TheVariants.{Launch, Step, Leave}
use Rattle.session_machine.specs.declared.event.Mode.{Mode}
use Rattle.session_machine.specs.declared.fault.Refusal.{Refusal}
use Rattle.session_machine.specs.declared.fault.Refusal.TheVariants.{Busy, NotYourTurn, StillBlocked, Idle, NoSession, BlockNotAllowed}
use Rattle.session_machine.specs.declared.fault.StmtFault.{StmtFault}
use Rattle.session_machine.specs.declared.fault.StmtFault.TheVariants.{Value as OfValue, NoTable, NoTableToDrop, TableExists, LevelTooLate, Aborted as AbortedFault}
use Rattle.session_machine.specs.declared.reply.HistItem.{HistItem}
use Rattle.session_machine.specs.declared.reply.Outcome.{Outcome}
use Rattle.session_machine.specs.declared.reply.Outcome.TheVariants.{Launched, Done, Rows, Waits, Failed, Left}
use Rattle.session_machine.specs.declared.reply.Reply.{Reply}
use Rattle.session_machine.specs.Tables.{Database, find_table}
use Rattle.session_machine.specs.Transactions.{committed, rolled_back, fresh, view_of}
use Rattle.session_machine.specs.Views.{rows_shown}
use Rattle.session_machine.specs.Statements.{Surroundings, Effect, fails, answers, turns, drop_tables, level_set}
use Rattle.session_machine.specs.Walks.{Stop, Walk, Blocked, Fails}
use Rattle.session_machine.specs.Rows.{Work, columns_in, walk_of}
use Rattle.session_machine.specs.Running.{fault_in, items_answered, leads_to, at_once, begin_at, run_in, run_stmt}
use Rattle.session_machine.specs.Machine.{Machine, Blocks, Next, Run, next, next_for, opening, stmts_of, after_stmt, closed_at_end, is_failed, leaves, session_of}
use Rattle.session_machine.specs.Inner.Steps.{around as found_around, step_from_place, step_stmt}
use Rattle.session_machine.specs.Engine.{IsLegal}

-- ---- statements

-- one that waits stands among its targets
abbrev StaysIfWaiting : Effect → Type 0
StaysIfWaiting d = d.outcome ≡ Waits → is_some d.statement ≡ true

failed_not : (f : StmtFault) → Failed f ≡ Waits → ⊥
failed_not f h = cc

done_not : Done ≡ Waits → ⊥
done_not h = cc

rows_not : (set : Results) → Rows set ≡ Waits → ⊥
rows_not set h = cc

failing : (db : Database) (t : OpenTransaction) (f : StmtFault) → StaysIfWaiting (fails db t f)
failing db t f h = absurd (failed_not f h)

turning : (db : Database) (t : Transaction) → StaysIfWaiting (turns db t)
turning db t h = absurd (done_not h)

either : (b : Bool) (x y : Effect) → StaysIfWaiting x → StaysIfWaiting y → StaysIfWaiting (if b then x else y)
either true x y h k = h
either false x y h k = k

leading : (db : Database) (w : Work) (stmt : StmtTree) (walk : Walk) → StaysIfWaiting (leads_to db w stmt walk)
leading db w stmt walk = by walk.stop where
  ends : (items : Option (List ItemTree)) → option_map_or (λ is. Rows (record { titles = titles_of (columns_in db w) is; rows = walk.rows })) items Done ≡ Waits → ⊥
  ends None = done_not
  ends (Some is) = rows_not _

  by : (o : Option Stop) → StaysIfWaiting (leads_to db w stmt (record walk { stop = o }))
  by None h = absurd (ends (items_answered stmt) h)
  by (Some (Blocked r)) h = refl
  by (Some (Fails f)) h = absurd (failed_not f h)

walking : (db : Database) (w : Work) (stmt : StmtTree) (o : Option Walk) (d : Effect) → StaysIfWaiting d → StaysIfWaiting (option_map_or (leads_to db w stmt) o d)
walking db w stmt None d h = h
walking db w stmt (Some walk) d h = leading db w stmt walk

unless_wrong : (db : Database) (t : OpenTransaction) (o : Option StmtFault) (d : Effect) → StaysIfWaiting d → StaysIfWaiting (option_map_or (fails db t) o d)
unless_wrong db t None d h = h
unless_wrong db t (Some f) d h = failing db t f

once : (db : Database) (t : OpenTransaction) (columns : List ColumnTree) (rows : List (List Value)) (stmt : StmtTree) → StaysIfWaiting (at_once db t columns rows stmt)
once db t columns rows (Selects s) = by (result_of s columns rows) where
  by : (r : Result Results ValueFault) → (let d : Effect = elim r [ Ok set ↦ answers db.content db t (Rows set) | Err fault ↦ fails db t (OfValue fault) ] in StaysIfWaiting d)
  by (Ok set) h = absurd (rows_not set h)
  by (Err fault) h = absurd (failed_not (OfValue fault) h)
once db t columns rows (Inserts i) = λ h. absurd (done_not h)
once db t columns rows (Updates u) = λ h. absurd (done_not h)
once db t columns rows (Deletes d) = λ h. absurd (done_not h)
once db t columns rows (Begin level) = λ h. absurd (done_not h)
once db t columns rows Commit = λ h. absurd (done_not h)
once db t columns rows Rollback = λ h. absurd (done_not h)
once db t columns rows (SetTransaction level) = λ h. absurd (done_not h)
once db t columns rows SetDeadlockTimeout = λ h. absurd (done_not h)
once db t columns rows (Create c) = λ h. absurd (done_not h)
once db t columns rows (DropTables d) = λ h. absurd (done_not h)

beginning : (db : Database) (t : OpenTransaction) (around : Surroundings) (name : List ℕ) (stmt : StmtTree) → StaysIfWaiting (begin_at db t around name stmt)
beginning db t around name stmt = by (find_table db (Some t.tx) name) where
  at : ℕ → Work
  at k = record { t = t; table = k; view = view_of db.content t; around = around }

  due : ℕ → Effect
  due k = option_map_or (leads_to db (at k) stmt) (walk_of (at k) stmt (record { db = db; place = 0; rows = []; stop = None })) (at_once db t (columns_in db (at k)) (rows_shown db.content (at k).view k) stmt)

  found : Option ℕ → Effect
  found None = fails db t (NoTable name)
  found (Some k) = option_map_or (fails db t) (fault_in (columns_in db (at k)) stmt) (due k)

  by : (o : Option ℕ) → StaysIfWaiting (found o)
  by None = failing db t (NoTable name)
  by (Some k) =
      unless_wrong db t (fault_in (columns_in db (at k)) stmt) (due k)
      (walking db (at k) stmt (walk_of (at k) stmt (record { db = db; place = 0; rows = []; stop = None })) _ (once db t (columns_in db (at k)) (rows_shown db.content (at k).view k) stmt))

setting : (db : Database) (t : OpenTransaction) (explicit : Bool) (level : Level) → StaysIfWaiting (level_set db t explicit level)
setting db t explicit level = either _ (fails db t LevelTooLate) (turns db (Open (record t { explicit = explicit; level = level }))) (failing db t LevelTooLate) (turning db (Open (record t { explicit = explicit; level = level })))

dropping : (t : OpenTransaction) (if_exists : Bool) (names : List (List ℕ)) (db : Database) → StaysIfWaiting (drop_tables db t if_exists names)
dropping t if_exists [] db = λ h. absurd (done_not h)
dropping t if_exists (name ∷ names) db = by (dropping t if_exists names) (find_table db (Some t.tx) name) where
  by : ((d : Database) → StaysIfWaiting (drop_tables d t if_exists names)) → (o : Option ℕ)
      → StaysIfWaiting (option_map_or (λ k. drop_tables (record db { catalog = record db.catalog { drops = db.catalog.drops ++ record { table = k; by = t.tx } ∷ [] } }) t if_exists names) o
      (if if_exists then drop_tables db t if_exists names else fails db t (NoTableToDrop name)))
  by on (Some k) = on _
  by on None = either if_exists (drop_tables db t if_exists names) (fails db t (NoTableToDrop name)) (on db) (failing db t (NoTableToDrop name))

in_open : (db : Database) (t : OpenTransaction) (around : Surroundings) (stmt : StmtTree) → StaysIfWaiting (run_in db t around stmt)
in_open db t around (Begin level) = either t.explicit (turns db (Open t)) (level_set db t true (unwrap_or level t.level)) (turning db (Open t)) (setting db t true (unwrap_or level t.level))
in_open db t around Commit = turning (committed db t.tx) Closed
in_open db t around Rollback = turning (rolled_back db t.tx) Closed
in_open db t around (SetTransaction level) = setting db t t.explicit level
in_open db t around SetDeadlockTimeout = turning db (Open t)
in_open db t around (Create c) = by (find_table db (Some t.tx) c.name) where
  made : Effect
  made = answers db.content (record db { catalog = record db.catalog { tables = db.catalog.tables ++ record { made = c; by = t.tx } ∷ [] } }) t Done

  by : (o : Option ℕ) → StaysIfWaiting (option_map_or (λ k. fails db t (TableExists c.name)) o made)
  by None = λ h. absurd (done_not h)
  by (Some k) = failing db t (TableExists c.name)
in_open db t around (DropTables d) = dropping t d.if_exists d.names db
in_open db t around (Inserts i) = beginning db t around i.table (Inserts i)
in_open db t around (Updates u) = beginning db t around u.table (Updates u)
in_open db t around (Deletes d) = beginning db t around d.table (Deletes d)
in_open db t around (Selects s) = by s.table where
  by : (o : Option (List ℕ)) → StaysIfWaiting (option_map_or (λ name. begin_at db t around name (Selects s)) o (option_map_or (fails db t) (fault_in [] (Selects s)) (at_once db t [] ([] ∷ []) (Selects s))))
  by None = unless_wrong db t (fault_in [] (Selects s)) _ (once db t [] ([] ∷ []) (Selects s))
  by (Some name) = beginning db t around name (Selects s)

-- one that begins with its transaction
with_new : (db : Database) (around : Surroundings) (stmt : StmtTree) → StaysIfWaiting (run_in (record db { content = after_begin db.content }) (fresh db.content ReadCommitted false) around stmt)
with_new db around stmt = in_open (record db { content = after_begin db.content }) (fresh db.content ReadCommitted false) around stmt

in_closed : (db : Database) (statement : Option Progress) (around : Surroundings) (stmt : StmtTree) → StaysIfWaiting (run_stmt db Closed statement around stmt)
in_closed db statement around Commit = turning db Closed
in_closed db statement around Rollback = turning db Closed
in_closed db statement around SetDeadlockTimeout = turning db Closed
in_closed db statement around (Begin level) = with_new db around (Begin level)
in_closed db statement around (SetTransaction level) = with_new db around (SetTransaction level)
in_closed db statement around (Create c) = with_new db around (Create c)
in_closed db statement around (DropTables d) = with_new db around (DropTables d)
in_closed db statement around (Inserts i) = with_new db around (Inserts i)
in_closed db statement around (Updates u) = with_new db around (Updates u)
in_closed db statement around (Deletes d) = with_new db around (Deletes d)
in_closed db statement around (Selects s) = with_new db around (Selects s)

in_aborted : (db : Database) (statement : Option Progress) (around : Surroundings) (stmt : StmtTree) → StaysIfWaiting (run_stmt db Aborted statement around stmt)
in_aborted db statement around Commit = turning db Closed
in_aborted db statement around Rollback = turning db Closed
in_aborted db statement around SetDeadlockTimeout = λ h. absurd (failed_not AbortedFault h)
in_aborted db statement around (Begin level) = λ h. absurd (failed_not AbortedFault h)
in_aborted db statement around (SetTransaction level) = λ h. absurd (failed_not AbortedFault h)
in_aborted db statement around (Create c) = λ h. absurd (failed_not AbortedFault h)
in_aborted db statement around (DropTables d) = λ h. absurd (failed_not AbortedFault h)
in_aborted db statement around (Inserts i) = λ h. absurd (failed_not AbortedFault h)
in_aborted db statement around (Updates u) = λ h. absurd (failed_not AbortedFault h)
in_aborted db statement around (Deletes d) = λ h. absurd (failed_not AbortedFault h)
in_aborted db statement around (Selects s) = λ h. absurd (failed_not AbortedFault h)

stays : (db : Database) (t : Transaction) (statement : Option Progress) (around : Surroundings) (stmt : StmtTree) → StaysIfWaiting (run_stmt db t statement around stmt)
stays db (Open t) None around stmt = in_open db t around stmt
stays db (Open t) (Some p) around stmt = let w : Work = record { t = t; table = p.table.0; view = p.view; around = around } in walking db w stmt (walk_of w stmt (record { db = db; place = p.place; rows = p.rows; stop = None })) _ (in_open db t around stmt)
stays db Closed statement around stmt = in_closed db statement around stmt
stays db Aborted statement around stmt = in_aborted db statement around stmt

-- ---- events

-- a wait doesn't end the session's block, and a Leave does
pub record EndsSo (event : Event) (reply : Reply) : Type 0 where
  pub waits : reply.outcome ≡ Waits → reply.ended ≡ false
  pub left : (session : ℕ) → event ≡ Leave session → reply.ended ≡ true

step_not : (a b : ℕ) → Step a ≡ Leave b → ⊥
step_not a b h = cc

launch_not : (a block b : ℕ) → Launch a block ≡ Leave b → ⊥
launch_not a block b h = cc

launched_not : Launched ≡ Waits → ⊥
launched_not h = cc

left_not : Left ≡ Waits → ⊥
left_not h = cc

at_stmt : (m : Machine) (i session : ℕ) (place : Place) (count : ℕ) (d : Effect) → StaysIfWaiting d → EndsSo (Step session) (after_stmt m i place count d).reply
at_stmt m i session place count d h = record { waits = at (is_some d.statement) refl; left = λ s e. absurd (step_not session s e) } where
  ends : (tr : Transaction) → (closed_at_end d tr).outcome ≡ d.outcome
  ends Closed = refl
  ends Aborted = refl
  ends (Open t) = by t.explicit where
    by : (b : Bool) → (let e : Effect = if b then d else record { db = committed d.db t.tx; transaction = Closed; statement = None; outcome = d.outcome } in e.outcome) ≡ d.outcome
    by true = refl
    by false = refl

  goes : (b : Bool) → (let y : Next = if b then leaves m i d None (Some (record { block = place.block; next = place.next + 1 })) else leaves m i (closed_at_end d d.transaction) None None in y.reply.outcome) ≡ d.outcome
  goes true = refl
  goes false = ends d.transaction

  other : (b : Bool) → (let y : Next = if b then leaves m i d None None else if nat_lt (place.next + 1) count then leaves m i d None (Some (record { block = place.block; next = place.next + 1 }))
      else leaves m i (closed_at_end d d.transaction) None None in y.reply.outcome) ≡ d.outcome
  other true = refl
  other false = goes (nat_lt (place.next + 1) count)

  at : (b : Bool) → is_some d.statement ≡ b → (let y : Next = if b then leaves m i d d.statement (Some place) else if is_failed d.outcome then leaves m i d None None
      else if nat_lt (place.next + 1) count then leaves m i d None (Some (record { block = place.block; next = place.next + 1 })) else leaves m i (closed_at_end d d.transaction) None None in
      y.reply.outcome ≡ Waits → y.reply.ended ≡ false)
  at true e w = refl
  at false e w = absurd (true≢false (sym (h (sym (other (is_failed d.outcome)) ∙ w)) ∙ e))

ok_else : (b : Bool) (e : Refusal) (r : Result Next Refusal) (n : Next) → (if b then Err e else r) ≡ Ok n → r ≡ Ok n
ok_else true e r n h = cc
ok_else false e r n h = h

ok_is : (a n : Next) → ◌≡◌ {A = Result Next Refusal} (Ok a) (Ok n) → a ≡ n
ok_is a n h = cc

err_not : (e : Refusal) (n : Next) → Err e ≡ Ok n → ⊥
err_not e n h = cc

by_event : (blocks : Blocks) (mode : Mode) (m : Machine) (s : Session) (event : Event) (n : Next) → next_for blocks mode m s event ≡ Ok n → EndsSo event n.reply
by_event blocks mode m s (Launch session block) n h =
    subst (λ (x : Next). EndsSo (Launch session block) x.reply)
    (ok_is _ n (ok_else _ NotYourTurn _ n (ok_else _ Busy _ n (ok_else _ BlockNotAllowed _ n h))))
    (record { waits = λ w. absurd (launched_not w); left = λ a e. absurd (launch_not session block a e) })
by_event blocks mode m s (Step session) n h = at s.place h where
  by_stmt : (place : Place) (o : Option StmtTree) → step_stmt mode m session s place (length (stmts_of blocks place.block)) o ≡ Ok n → EndsSo (Step session) n.reply
  by_stmt place None h = absurd (err_not Idle n h)
  by_stmt place (Some stmt) h =
      subst (λ (x : Next). EndsSo (Step session) x.reply)
      (ok_is _ n (ok_else _ StillBlocked _ n (ok_else _ NotYourTurn _ n h)))
      (at_stmt m session session place (length (stmts_of blocks place.block)) _ (stays m.db s.transaction s.statement (found_around m session s) stmt))

  at : (o : Option Place) → step_from_place blocks mode m session s o ≡ Ok n → EndsSo (Step session) n.reply
  at None h = absurd (err_not Idle n h)
  at (Some place) h = by_stmt place (slice_get (stmts_of blocks place.block) place.next) h
by_event blocks mode m s (Leave session) n h =
    subst (λ (x : Next). EndsSo (Leave session) x.reply) (ok_is _ n (ok_else _ NotYourTurn _ n h)) (record { waits = λ w. absurd (left_not w); left = λ a e. refl })

event_ends : (blocks : Blocks) (mode : Mode) (m : Machine) (event : Event) (n : Next) → next blocks mode m event ≡ Ok n → EndsSo event n.reply
event_ends blocks mode m event n h = at (slice_get m.sessions (session_of event)) h where
  at : (o : Option Session) → option_map_or (λ s. next_for blocks mode m s event) o (Err NoSession) ≡ Ok n → EndsSo event n.reply
  at None h = absurd (err_not NoSession n h)
  at (Some s) h = by_event blocks mode m s event n h

-- so of each item
abbrev pub AllEndSo : List HistItem → Type 0
AllEndSo [] = Unit {0}
AllEndSo (item ∷ items) = EndsSo item.event item.reply × AllEndSo items

run_ends : (blocks : Blocks) (mode : Mode) (items : List HistItem) (m after : Machine) → Run blocks mode m items after → AllEndSo items
run_ends blocks mode [] m after run = tt
run_ends blocks mode (item ∷ items) m after run = (event_ends blocks mode m item.event _ run.1, run_ends blocks mode items run.0 after run.2)

pub legal_ends : (blocks : Blocks) (count : ℕ) (mode : Mode) (items : List HistItem) → IsLegal blocks count mode items → AllEndSo items
legal_ends blocks count mode items legal = run_ends blocks mode items (opening count) legal.0 legal.1

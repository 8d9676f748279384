-- What a query sees for certain: what has committed, and what its own transaction wrote.
use Rattle.std.proofs.Common.{◌≡◌, ℕ, zero, suc, ◌<◌, ◌+◌, Bool, true, false, ◌||◌, List, [], ◌∷◌, length, map, get_or, Contains, refl, ap, sym, ◌∙◌, subst, arith}
use Rattle.std.specs.Prelude.{Option, Some, None, is_some, is_none, unwrap_or, option_and_then, slice_get, nat_lt, Ok, if◌then◌else◌}
use Rattle.std.proofs.lemmas.Bool.{or_left, lt-ltb}
use Rattle.std.proofs.lemmas.Option.{same_Some}
use Rattle.sql_trees.specs.declared.stmt.Level.{Level}
use Rattle.sql_trees.specs.declared.stmt.Level.TheVariants.{ReadCommitted, RepeatableRead}
use Rattle.sql_trees.specs.Statements.{StmtTree, Commit}
use Rattle.sql_values.specs.declared.value.Value.{Value}
use Rattle.row_versions.specs.declared.write.Write.{Write}
use Rattle.row_versions.specs.declared.write.View.{View}
use Rattle.row_versions.specs.declared.write.Seen.{Seen}
use Rattle.row_versions.specs.declared.write.Fate.{Fate}
use Rattle.row_versions.specs.declared.write.Fate.TheVariants.{RolledBack, Committed, Open as OpenFate}
use Rattle.row_versions.specs.Log.{Content, commit_count, fate_of, has_committed, values_at}
use Rattle.row_versions.specs.Inner.Searching.{is_committed}
use Rattle.row_versions.specs.View.{sees, committed_before}
use Rattle.row_versions.specs.Rows.{rows_of}
use Rattle.row_versions.specs.Laws.{IsShown}
use Rattle.row_versions.proofs.Gets.{get-set_same}
use Rattle.row_versions.proofs.Seeing.{own_seen}
use Rattle.row_versions.proofs.Shown.{rows_from_shown}
use Rattle.session_machine.specs.declared.session.Place.{Place}
use Rattle.session_machine.specs.declared.session.OpenTransaction.{OpenTransaction}
use Rattle.session_machine.specs.declared.session.Transaction.{Transaction}
use Rattle.session_machine.specs.declared.session.Transaction.TheVariants.{Closed, Open, Aborted}
use Rattle.session_machine.specs.declared.session.Session.{Session}
use Rattle.session_machine.specs.declared.event.Event.TheVariants.{Step}
use Rattle.session_machine.specs.declared.event.Mode.{Mode}
use Rattle.session_machine.specs.Tables.{Database}
use Rattle.session_machine.specs.Transactions.{committed, view_now}
use Rattle.session_machine.specs.Views.{rows_shown}
use Rattle.session_machine.specs.declared.session.Progress.{Progress}
use Rattle.session_machine.specs.Statements.{Surroundings, Effect, turns}
use Rattle.session_machine.specs.Inner.Statements.{is_level}
use Rattle.session_machine.specs.Running.{run_stmt}
use Rattle.session_machine.specs.Machine.{Machine, Blocks, Next, next, stmts_of, after_stmt}
use Rattle.session_machine.specs.Inner.Steps.{step_of, step_from_place, step_stmt, finished, around}
use Rattle.session_machine.specs.Sound.{tx_in}
use Rattle.session_laws.specs.Laws.{CommitsCount, CommitsAreSeen, OwnWritesAreSeen, IsLastOf, due_stmt, sees_all_committed}
use Rattle.session_laws.proofs.Sound.{ok_step, sound_open, ran}
use Rattle.session_laws.proofs.Growing.{Numbered}
use Rattle.session_laws.proofs.Ordering.{orderly_run}
use Rattle.session_laws.proofs.Orderly.{command_now}

-- what a step of the statement that is due leads to
pub record Began (m : Machine) (i : ℕ) (s : Session) (stmt : StmtTree) (n : Next) : Type 0 where
  pub place : Place
  pub count : ℕ
  pub leads : after_stmt m i place count (ran m i s stmt) ≡ n

pub begins_due : (blocks : Blocks) (mode : Mode) (m : Machine) (i : ℕ) (s : Session) (stmt : StmtTree) (n : Next) → slice_get m.sessions i ≡ Some s → due_stmt blocks s ≡ Some stmt
    → next blocks mode m (Step i) ≡ Ok n → Began m i s stmt n
begins_due blocks mode m i s stmt n at due h = at_place s.place due (sym (ap (step_of blocks mode m i) at) ∙ h) where
  at_stmt : (place : Place) (count : ℕ) (o : Option StmtTree) → o ≡ Some stmt → step_stmt mode m i s place count o ≡ Ok n → Began m i s stmt n
  at_stmt place count None e h = cc
  at_stmt place count (Some x) e h =
      record {
        place = place;
        count = count;
        leads = sym (ap (λ (y : StmtTree). after_stmt m i place count (ran m i s y)) (same_Some x stmt e)) ∙ ok_step mode m i s place count x n h;
      }

  at_place : (o : Option Place) → option_and_then (λ (p : Place). slice_get (stmts_of blocks p.block) p.next) o ≡ Some stmt → step_from_place blocks mode m i s o ≡ Ok n → Began m i s stmt n
  at_place None e h = cc
  at_place (Some place) e h = at_stmt place (length (stmts_of blocks place.block)) (slice_get (stmts_of blocks place.block) place.next) e h

commit_done : (m : Machine) (i : ℕ) (place : Place) (count : ℕ) (t : OpenTransaction) → (after_stmt m i place count (turns (committed m.db t.tx) Closed)).machine.db ≡ committed m.db t.tx
commit_done m i place count t = at_test (nat_lt (place.next + 1) count) where
  at_test : (b : Bool)
      → (let d : Effect = turns (committed m.db t.tx) Closed in
      let n : Next = if b then finished m i d (Some (record { block = place.block; next = place.next + 1 })) else finished m i d None in n.machine.db ≡ committed m.db t.tx)
  at_test true = refl
  at_test false = refl

-- a COMMIT commits, whatever the session was at
commit_is : (db : Database) (t : OpenTransaction) (p : Option Progress) (a : Surroundings) → run_stmt db (Open t) p a Commit ≡ turns (committed db t.tx) Closed
commit_is db t None a = refl
commit_is db t (Some p) a = refl

pub commits_count : CommitsCount
commits_count blocks count mode items m item after i s t few run at is due event follows =
    let n : Next = record { machine = after; reply = item.reply } in
    let sound = (orderly_run blocks count mode items m few run).0 in
    let is_open = sound_open m.db m.sessions m.events i s t sound at is in
    let began = begins_due blocks mode m i s Commit n at due (subst (λ e. next blocks mode m e ≡ Ok n) event follows) in
    let leads : after_stmt m i began.place began.count (turns (committed m.db t.tx) Closed) ≡ n =
    sym (ap (after_stmt m i began.place began.count) (ap (λ (u : Transaction). run_stmt m.db u s.statement (around m i s) Commit) is ∙ commit_is m.db t s.statement (around m i s))) ∙ began.leads in
    let db_is : after.db ≡ committed m.db t.tx = ap (λ (x : Next). x.machine.db) (sym leads) ∙ commit_done m i began.place began.count t in
    ap (λ (d : Database). has_committed d.content t.tx) db_is
    ∙ ap is_committed (get-set_same m.db.content.fates t.tx.0 OpenFate (Committed (commit_count m.db.content)) is_open)

-- the image of an element is in the image
contains_map : {A B : Type 0} (f : A → B) (x : A) (xs : List A) (k : ℕ) → k < length xs → get_or xs k x ≡ x → Contains (map f xs) (f x)
contains_map f x [] k l e = absurd (omega arith)
contains_map f x (y ∷ ys) zero l e = (0, omega arith, ap f e)
contains_map f x (y ∷ ys) (suc k) l e = let r = contains_map f x ys k (omega arith) e in (suc r.0, omega (arith, r.1), r.2)

-- a last write that the view sees is among the rows that it shows
last_is_shown : (c : Content) (view : View) (place : ℕ) (w : Write) (values : List Value) → IsLastOf c place w values → sees c.fates view w ≡ true → Contains (rows_shown c view w.table.0) values
last_is_shown c view place w values last seen_write =
    let seen : Seen = record { row = w.row; place = place } in
    let shown : IsShown c view w.table seen = record {
      write = w;
      there = last.there;
      its_row = refl;
      its_table = refl;
      has_values = ap is_some last.gave;
      is_seen = seen_write;
      last = λ later v after at its. absurd (last.last later v after at its);
    } in
    let among = rows_from_shown c view w.table seen shown in
    let f : Seen → List Value = λ s. unwrap_or (values_at c s.place) [] in
    let gives : f seen ≡ values =
    ap (λ (o : Option Write). unwrap_or (option_and_then (λ (v : Write). v.values) o) []) last.there ∙ ap (λ (o : Option (List Value)). unwrap_or o []) last.gave in
    subst (Contains (rows_shown c view w.table.0)) gives (contains_map f seen (rows_of c view w.table) among.0 among.1 among.2)

seen_committed : (c : Content) (view : View) (w : Write) → Numbered c → has_committed c w.tx ≡ true → view.commits ≡ commit_count c → sees c.fates view w ≡ true
seen_committed c view w numbered done all = at_fate (fate_of c.fates w.tx) refl done where
  at_fate : (o : Option Fate) → fate_of c.fates w.tx ≡ o → is_committed o ≡ true → sees c.fates view w ≡ true
  at_fate None is h = cc
  at_fate (Some OpenFate) is h = cc
  at_fate (Some RolledBack) is h = cc
  at_fate (Some (Committed k)) is h =
      or_left _ _ (ap (committed_before view.commits) is ∙ lt-ltb _ _ (let l : k < commit_count c = numbered w.tx.0 k is in omega arith))

-- a query that sees all that has committed counts all commits
counts_all : (c : Content) (t : Transaction) (p : Option Progress) → sees_all_committed t ≡ true → (view_now c t p).commits ≡ commit_count c
counts_all c Closed p h = refl
counts_all c Aborted p h = refl
counts_all c (Open t) p h = at_level t.level t.snapshot p h where
  at_level : (l : Level) (o : Option ℕ) (q : Option Progress) → (is_level l ReadCommitted || is_none o) ≡ true
      → (let u : OpenTransaction = record t { level = l; snapshot = o } in (view_now c (Open u) q).commits ≡ commit_count c)
  at_level ReadCommitted o None h = refl
  at_level ReadCommitted o (Some q) h = refl
  at_level RepeatableRead None None h = refl
  at_level RepeatableRead None (Some q) h = refl
  at_level RepeatableRead (Some k) q h = cc

pub commits_are_seen : CommitsAreSeen
commits_are_seen blocks count mode items m i s place w values few run at all last done =
    let orderly = (orderly_run blocks count mode items m few run).1 in
    let view = view_now m.db.content s.transaction s.statement in
    last_is_shown m.db.content view place w values last (seen_committed m.db.content view w orderly.known.numbered done (counts_all m.db.content s.transaction s.statement all))

-- the view of an open transaction sees the writes of its commands up to the present one
sees_own : (c : Content) (t : OpenTransaction) (p : Option Progress) (w : Write) → w.tx ≡ t.tx → w.command < command_now (Open t) p → sees c.fates (view_now c (Open t) p) w ≡ true
sees_own c t None w own h = own_seen c.fates (view_now c (Open t) None) w (ap Some (sym own)) h
sees_own c t (Some p) w own h = own_seen c.fates (view_now c (Open t) (Some p)) w (ap Some (sym own)) h

pub own_writes_are_seen : OwnWritesAreSeen
own_writes_are_seen blocks count mode items m i s t place w values few run at is last own =
    let orderly = (orderly_run blocks count mode items m few run).1 in
    let c = m.db.content in
    let its : tx_in s.transaction ≡ Some w.tx.0 = ap tx_in is ∙ ap (λ x. Some x.0) (sym own) in
    let earlier : w.command < command_now (Open t) s.statement = subst (λ (u : Transaction). w.command < command_now u s.statement) is (orderly.behind i s at place w last.there its) in
    subst (λ (u : Transaction). Contains (rows_shown c (view_now c u s.statement) w.table.0) values) (sym is)
    (last_is_shown c (view_now c (Open t) s.statement) place w values last (sees_own c t s.statement w own earlier))

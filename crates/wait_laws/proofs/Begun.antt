-- A statement that waits finds the same when it goes on.
use Rattle.std.proofs.Common.{◌≡◌, ◌≢◌, refl, sym, ◌∙◌, ap, subst, ◌⊎◌, inl, inr, ⊎_elim, ℕ, zero, suc, ◌≤◌, ◌+◌, List, [], ◌∷◌, ◌++◌, length, set, replicate, arith}
use Rattle.std.specs.Prelude.{Option, Some, None, option_map, unwrap_or, slice_get, Ok}
use Rattle.std.proofs.lemmas.Bool.{cases_eq}
use Rattle.std.proofs.lemmas.Option.{slice_get_within}
use Rattle.sql_trees.specs.declared.stmt.Level.{Level}
use Rattle.sql_trees.specs.declared.stmt.Level.TheVariants.{ReadCommitted, RepeatableRead}
use Rattle.sql_trees.specs.declared.stmt.Strength.TheVariants.{Update}
use Rattle.query_results.specs.Queries.{cols_of, passing, taken}
use Rattle.row_versions.specs.declared.names.TxId.{TxId}
use Rattle.row_versions.specs.declared.write.View.{View}
use Rattle.row_versions.specs.declared.write.Write.{Write}
use Rattle.row_versions.specs.declared.write.Fate.{Fate}
use Rattle.row_locks.specs.declared.held.Held.{Held}
use Rattle.row_locks.specs.Held.{with_lock}
use Rattle.row_versions.specs.declared.write.Fate.TheVariants.{RolledBack, Committed, Open as OpenFate}
use Rattle.row_versions.specs.Log.{IsOpen, commit_count, after_write, after_commit, after_roll_back}
use Rattle.row_versions.proofs.Gets.{get-append_left, get-append_last}
use Rattle.session_machine.specs.declared.session.OpenTransaction.{OpenTransaction}
use Rattle.session_machine.specs.declared.session.Transaction.{Transaction}
use Rattle.session_machine.specs.declared.session.Transaction.TheVariants.{Closed, Open, Aborted}
use Rattle.session_machine.specs.declared.session.Progress.{Progress}
use Rattle.session_machine.specs.declared.session.Session.{Session}
use Rattle.session_machine.specs.declared.event.Event.{Event}
use Rattle.session_machine.specs.declared.event.Event.TheVariants.{Launch, Step, Leave}
use Rattle.session_machine.specs.declared.event.Mode.{Mode}
use Rattle.session_machine.specs.declared.fault.Refusal.TheVariants.{Busy, NotYourTurn, BlockNotAllowed}
use Rattle.session_machine.specs.Tables.{Database, Table}
use Rattle.session_machine.specs.Transactions.{view_of}
use Rattle.session_machine.specs.Inner.Statements.{begun, commits_seen}
use Rattle.session_machine.specs.Inner.Pieces.{table_columns}
use Rattle.session_machine.specs.Targets.{at_places}
use Rattle.session_machine.specs.Running.{run_stmt}
use Rattle.session_machine.specs.Machine.{Machine, Blocks, Next, next, opening, stmts_of, at_rest, with_session, session_of}
use Rattle.session_machine.specs.Inner.Steps.{launch_of, step_of, leave_of, around, first_place}
use Rattle.session_machine.specs.Sound.{command_in, tx_in, tx_of}
use Rattle.wait_laws.specs.Laws.{Reaches, FindsTheSame, WaitsGoOnAsBegun, lock_of_write}
use Rattle.session_laws.proofs.Lists.{slice_get-set_same, slice_get-set_other}
use Rattle.wait_laws.proofs.Doing.{Keeps, Ran, doer, start, Allows}
use Rattle.wait_laws.proofs.Events.{session_there, ok_is, ok_else, stepped, after, left_as, Rests, Moved, moved, always}
use Rattle.session_laws.proofs.Staying.{Stays, stays_here, stays_on, stays-begin, stays-roll_back, stays-commit, shown_stays, count-begin}
use Rattle.wait_laws.proofs.Staying.{stays-unseen}
use Rattle.wait_laws.proofs.Snapshots.{Has, shot_stmt}
use Rattle.wait_laws.proofs.Cycles.{IsOrderly, orderly_next, orderly_opening, no_other}

-- what a transaction does leaves of others: what a view shows, their fates, and the tables that are there
pub record Stands (x : TxId) (view : View) (db e : Database) : Type 0 where
  pub stays : Stays view db.content e.content
  pub others : (n : ℕ) → (n ≡ x.0 → ⊥) → slice_get db.content.fates n ≡ Some OpenFate → slice_get e.content.fates n ≡ Some OpenFate
  pub tables : (k : ℕ) (made : Table) → slice_get db.catalog.tables k ≡ Some made → slice_get e.catalog.tables k ≡ Some made

pub record Works (x : TxId) (view : View) (db e : Database) : Type 0 where
  pub all : Stands x view db e
  pub mine : IsOpen e.content x

-- what the transaction writes at this command is unseen in the view: the view is another's, or of no later command; and it is of commits before
pub record IsBlind (x : TxId) (n : ℕ) (view : View) (db : Database) : Type 0 where
  pub unseen : (view.tx ≢ Some x) ⊎ (view.command ≤ n)
  pub before : view.commits ≤ commit_count db.content

set_fate : (fates : List Fate) (x : TxId) (f : Fate) (n : ℕ) → (n ≡ x.0 → ⊥) → slice_get fates n ≡ Some OpenFate → slice_get (set fates x.0 f) n ≡ Some OpenFate
set_fate fates x f n ne h = slice_get-set_other fates x.0 n f ne ∙ h

left_some : {A : Type 0} (xs : List A) (y : A) (k : ℕ) (z : A) → slice_get xs k ≡ Some z → slice_get (xs ++ y ∷ []) k ≡ Some z
left_some xs y k z h = get-append_left xs (y ∷ []) k (slice_get_within xs k z h) ∙ h

stands_write : (x : TxId) (n : ℕ) (view : View) (db : Database) → IsBlind x n view db → (d : Database) (w : Write) → w.tx ≡ x → w.command ≡ n → Works x view db d → (held : List Held)
    → Works x view db (record d { content = after_write d.content w; held = held })
stands_write x n view db blind d w own now p held = record {
  all = record {
    stays = stays_on view db.content d.content (after_write d.content w) p.all.stays (stays-unseen view d.content w (subst (IsOpen d.content) (sym own) p.mine) (elim blind.unseen [
      | inl other ↦ inl (λ e. other (e ∙ ap Some own))
      | inr late ↦ inr (omega (arith, late, now))
    ]));
    others = p.all.others;
    tables = p.all.tables;
  };
  mine = p.mine;
}

stands_keeps : (x : TxId) (n : ℕ) (view : View) (db : Database) → IsBlind x n view db → Keeps x n (Works x view db) (Stands x view db)
stands_keeps x n view db blind = record {
  lock = λ d h own may p. record { all = record { stays = p.all.stays; others = p.all.others; tables = p.all.tables }; mine = p.mine };
  insert = λ d w own now made p. stands_write x n view db blind d w own now p (with_lock d.held (lock_of_write Update w));
  write = λ d w strength own now enough held p. stands_write x n view db blind d w own now p d.held;
  create = λ d made p. record {
    all = record { stays = p.all.stays; others = p.all.others; tables = λ k t h. left_some d.catalog.tables (record { made = made; by = x }) k t (p.all.tables k t h) };
    mine = p.mine;
  };
  drop = λ d k p. record { all = record { stays = p.all.stays; others = p.all.others; tables = p.all.tables }; mine = p.mine };
  commit = λ d p. record {
    stays = stays_on view db.content d.content (after_commit d.content x) p.all.stays
        (stays-commit view d.content x p.mine (let a = blind.before in let b = p.all.stays.counts in omega arith));
    others = λ n ne h. set_fate d.content.fates x (Committed (commit_count d.content)) n ne (p.all.others n ne h);
    tables = p.all.tables;
  };
  roll_back = λ d p. record {
    stays = stays_on view db.content d.content (after_roll_back d.content x) p.all.stays (stays-roll_back view d.content x p.mine);
    others = λ n ne h. set_fate d.content.fates x RolledBack n ne (p.all.others n ne h);
    tables = p.all.tables;
  };
  rest = λ d p. p.all;
}

works_begun : (view : View) (db : Database) → Works (record { 0 = length db.content.fates }) view db (begun db)
works_begun view db = record {
  all = record {
    stays = stays-begin view db.content;
    others = λ n ne h. left_some db.content.fates OpenFate n OpenFate h;
    tables = λ k made h. h;
  };
  mine = get-append_last db.content.fates OpenFate;
}

works_start : (view : View) (db : Database) (tr : Transaction) → ((n : ℕ) → tx_in tr ≡ Some n → slice_get db.content.fates n ≡ Some OpenFate) → Works (doer db tr) view db (start db tr)
works_start view db Closed h = works_begun view db
works_start view db Aborted h = works_begun view db
works_start view db (Open t) h = record { all = record { stays = stays_here view db.content; others = λ n ne k. k; tables = λ k made f. f }; mine = h t.tx.0 refl }

-- a view of the transaction's, of commits before and of commands up to this one
abbrev pub IsOwn : TxId → ℕ → Database → View → Type 0
IsOwn x n db view = (view.tx ≡ Some x) × (view.commits ≤ commit_count db.content) × (view.command ≤ n)

-- what holds of the transactions and the waits of every state
pub record IsBegun (m : Machine) : Type 0 where
  pub orderly : IsOrderly m
  pub shots : (i : ℕ) (s : Session) → slice_get m.sessions i ≡ Some s → (t : OpenTransaction) → s.transaction ≡ Open t → Has (commit_count m.db.content) t
  pub views : (i : ℕ) (s : Session) (p : Progress) → slice_get m.sessions i ≡ Some s → s.statement ≡ Some p
      → (t : OpenTransaction) × (s.transaction ≡ Open t) × IsOwn t.tx t.command m.db p.view

bounded : (count : ℕ) (o : Option ℕ) → ((k : ℕ) → o ≡ Some k → k ≤ count) → unwrap_or o count ≤ count
bounded count None h = omega arith
bounded count (Some k) h = h k refl

own_view : (db : Database) (t : OpenTransaction) → Has (commit_count db.content) t → IsOwn t.tx t.command db (view_of db.content t)
own_view db t has = (refl, at t.level, omega arith) where
  at : (level : Level) → commits_seen level db.content t ≤ commit_count db.content
  at ReadCommitted = omega arith
  at RepeatableRead = bounded (commit_count db.content) t.snapshot has

same_progress : (p q : Progress) → Some p ≡ Some q → p ≡ q
same_progress p q h = cc

same_open : (t u : OpenTransaction) → Open t ≡ Open u → t ≡ u
same_open t u h = cc

allows_own : (m : Machine) (i : ℕ) (s : Session) → IsBegun m → slice_get m.sessions i ≡ Some s → Allows (IsOwn (doer m.db s.transaction) (command_in s.transaction) m.db) m.db s.transaction s.statement
allows_own m i s old at = by s.transaction s.statement refl refl where
  by : (tr : Transaction) (o : Option Progress) → s.transaction ≡ tr → s.statement ≡ o → Allows (IsOwn (doer m.db tr) (command_in tr) m.db) m.db tr o
  by Closed o e f = let same = count-begin m.db.content.fates in (refl, omega arith, omega arith)
  by Aborted o e f = tt
  by (Open t) None e f = own_view m.db t (old.shots i s at t e)
  by (Open t) (Some p) e f =
      let v = old.views i s p at f in
      (own_view m.db t (old.shots i s at t e), subst (λ (y : OpenTransaction). IsOwn y.tx y.command m.db p.view) (same_open v.0 t (sym v.1 ∙ e)) v.2)

moved_with : (view : View) (blocks : Blocks) (mode : Mode) (m : Machine) (event : Event) (s : Session) (n : Next) → IsBegun m → slice_get m.sessions (session_of event) ≡ Some s
    → IsBlind (doer m.db s.transaction) (command_in s.transaction) view m.db → next blocks mode m event ≡ Ok n
    → Moved (Works (doer m.db s.transaction) view m.db) (Stands (doer m.db s.transaction) view m.db) (IsOwn (doer m.db s.transaction) (command_in s.transaction) m.db) m (session_of event) s n.machine
moved_with view blocks mode m event s n old at blind h =
    let x = doer m.db s.transaction in
    let c = command_in s.transaction in
    moved (Works x view m.db) (Stands x view m.db) (IsOwn x c m.db) blocks mode m event s n at (stands_keeps x c view m.db blind) (allows_own m (session_of event) s old at)
    (works_start view m.db s.transaction (λ q f. old.orderly.opened (session_of event) q (ap tx_of at ∙ f))) h

stands_same : (x : TxId) (view : View) (db e : Database) → e ≡ db → Stands x view db e
stands_same x view db e same = subst (Stands x view db) (sym same) (record { stays = stays_here view db.content; others = λ n ne k. k; tables = λ k made f. f })

stands_after : (P : Database → Type 0) (V : View → Type 0) (m : Machine) (i : ℕ) (s : Session) (view : View) (e : Database) (u : Session)
    → Rests m s e u ⊎ Ran (doer m.db s.transaction) (command_in s.transaction) P (Stands (doer m.db s.transaction) view m.db) V (around m i s).sessions (left_as e u) → Stands (doer m.db s.transaction) view m.db e
stands_after P V m i s view e u (inl r) = stands_same (doer m.db s.transaction) view m.db e r.same
stands_after P V m i s view e u (inr r) = r.db

same_session : (s u : Session) → Some s ≡ Some u → s ≡ u
same_session s u h = cc

closed_not : (t : OpenTransaction) → Closed ≡ Open t → ⊥
closed_not t h = cc

none_not : (p : Progress) → None ≡ Some p → ⊥
none_not p h = cc

-- the one session that changed
changed : (ss : List Session) (i : ℕ) (s u v : Session) → slice_get ss i ≡ Some s → slice_get (set ss i u) i ≡ Some v → v ≡ u
changed ss i s u v at h = same_session v u (sym h ∙ slice_get-set_same ss i u (slice_get_within ss i s at))

-- after an event the session's transaction has a snapshot of commits before it
shot_next : (blocks : Blocks) (mode : Mode) (m : Machine) (event : Event) (s : Session) (n : Next) → slice_get m.sessions (session_of event) ≡ Some s
    → ((t : OpenTransaction) → s.transaction ≡ Open t → Has (commit_count m.db.content) t) → next blocks mode m event ≡ Ok n
    → (v : Session) → slice_get n.machine.sessions (session_of event) ≡ Some v → (t : OpenTransaction) → v.transaction ≡ Open t → Has (commit_count m.db.content) t
shot_next blocks mode m (Launch i block) s n at has h v there t is =
    let f = subst (λ o. launch_of blocks mode m i block o ≡ Ok n) at h in
    let a = ok_else BlockNotAllowed _ _ n f in
    let b = ok_else Busy _ _ n a.1 in
    let c = ok_else NotYourTurn _ _ n b.1 in
    let same : v ≡ record { place = first_place block (stmts_of blocks block); transaction = s.transaction; statement = None } =
    changed m.sessions i s _ v at (subst (λ (y : Next). slice_get y.machine.sessions i ≡ Some v) (ok_is _ n c.1) there) in
    has t (ap (λ (y : Session). y.transaction) (sym same) ∙ is)
shot_next blocks mode m (Leave i) s n at has h v there t is =
    let f = subst (λ o. leave_of mode m i o ≡ Ok n) at h in
    let c = ok_else NotYourTurn _ _ n f in
    let same : v ≡ at_rest = changed m.sessions i s at_rest v at (subst (λ (y : Next). slice_get y.machine.sessions i ≡ Some v) (ok_is _ n c.1) there) in
    absurd (closed_not t (ap (λ (y : Session). y.transaction) (sym same) ∙ is))
shot_next blocks mode m (Step i) s n at has h v there t is =
    let k = stepped blocks mode m i s n (subst (λ o. step_of blocks mode m i o ≡ Ok n) at h) in
    let d = run_stmt m.db s.transaction s.statement (around m i s) k.stmt in
    let a = after m i k.place (length (stmts_of blocks k.place.block)) d in
    let there' : slice_get (set m.sessions i a.u) i ≡ Some v =
    subst (λ (y : Machine). slice_get y.sessions i ≡ Some v) a.is (subst (λ (y : Next). slice_get y.machine.sessions i ≡ Some v) k.is there) in
    let same = changed m.sessions i s a.u v at there' in
    let open_now : a.u.transaction ≡ Open t = ap (λ (y : Session). y.transaction) (sym same) ∙ is in
    let shot = shot_stmt m.db s.transaction s.statement (around m i s) k.stmt has in
    elim a.how [
      | inl w ↦ shot.its t (sym w.1 ∙ open_now)
      | inr w ↦ absurd (closed_not t (sym w.3 ∙ open_now))
    ]

begun_with : (m : Machine) (i : ℕ) (s : Session) (view : View) (e : Database) (u : Session) → IsBegun m → slice_get m.sessions i ≡ Some s
    → Rests m s e u ⊎ Ran (doer m.db s.transaction) (command_in s.transaction) (Works (doer m.db s.transaction) view m.db) (Stands (doer m.db s.transaction) view m.db) (IsOwn (doer m.db s.transaction) (command_in s.transaction) m.db)
    (around m i s).sessions (left_as e u)
    → IsOrderly (with_session m e i u) → ((t : OpenTransaction) → u.transaction ≡ Open t → Has (commit_count m.db.content) t) → IsBegun (with_session m e i u)
begun_with m i s view e u old at did orderly shot = record { orderly = orderly; shots = shots; views = views } where
  x : TxId
  x = doer m.db s.transaction

  stands : Stands x view m.db e
  stands = stands_after (Works x view m.db) (IsOwn x (command_in s.transaction) m.db) m i s view e u did

  counts : commit_count m.db.content ≤ commit_count e.content
  counts = stands.stays.counts

  here : (j : ℕ) (v : Session) → j ≡ i → slice_get (set m.sessions i u) j ≡ Some v → v ≡ u
  here j v is h = changed m.sessions i s u v at (subst (λ k. slice_get (set m.sessions i u) k ≡ Some v) is h)

  there : (j : ℕ) → (j ≡ i → ⊥) → slice_get (set m.sessions i u) j ≡ slice_get m.sessions j
  there j ne = slice_get-set_other m.sessions i j u ne

  shots : (j : ℕ) (v : Session) → slice_get (set m.sessions i u) j ≡ Some v → (t : OpenTransaction) → v.transaction ≡ Open t → Has (commit_count e.content) t
  shots j v h t is k f =
      let more = counts in
      ⊎_elim
      (λ y. let l = shot t (ap (λ (w : Session). w.transaction) (sym (here j v y h)) ∙ is) k f in omega arith)
      (λ ne. let l = old.shots j v (sym (there j ne) ∙ h) t is k f in omega arith)
      (cases_eq j i)

  u_view : (p : Progress) → u.statement ≡ Some p → (t : OpenTransaction) × (u.transaction ≡ Open t) × IsOwn t.tx t.command e p.view
  u_view p f = elim did [
    | inl r ↦ absurd (none_not p (sym r.over ∙ f))
    | inr r ↦
        let w = r.waits p f in
        let own = r.own w.2.0 w.2.1 in
        let l = w.1.1 in
        let late = w.1.2 in
        let now = w.2.2 in
        let more = counts in
        (w.2.0, w.2.1, (w.1.0 ∙ ap Some (sym own.0), omega arith, omega arith))
  ]

  views : (j : ℕ) (v : Session) (p : Progress) → slice_get (set m.sessions i u) j ≡ Some v → v.statement ≡ Some p
      → (t : OpenTransaction) × (v.transaction ≡ Open t) × IsOwn t.tx t.command e p.view
  views j v p h f =
      let more = counts in
      ⊎_elim
      (λ y. subst (λ (w : Session). (t : OpenTransaction) × (w.transaction ≡ Open t) × IsOwn t.tx t.command e p.view) (sym (here j v y h))
      (u_view p (ap (λ (w : Session). w.statement) (sym (here j v y h)) ∙ f)))
      (λ ne. let w = old.views j v p (sym (there j ne) ∙ h) f in let l = w.2.1 in (w.0, w.1, (w.2.0, omega arith, w.2.2)))
      (cases_eq j i)

none_tx : (x : TxId) → None ≡ Some x → ⊥
none_tx x h = cc

-- the view is nobody's, and of no commits
abbrev no_view : View
no_view = record { tx = None; commits = 0; command = 0 }

no_view_blind : (x : TxId) (n : ℕ) (db : Database) → IsBlind x n no_view db
no_view_blind x n db = record { unseen = inl (λ e. none_tx x e); before = omega arith }

-- what an event did, whatever is seen
pub did_next : (blocks : Blocks) (mode : Mode) (m : Machine) (event : Event) (s : Session) (n : Next) → IsBegun m → slice_get m.sessions (session_of event) ≡ Some s → next blocks mode m event ≡ Ok n
    → Moved (Works (doer m.db s.transaction) no_view m.db) (Stands (doer m.db s.transaction) no_view m.db) (IsOwn (doer m.db s.transaction) (command_in s.transaction) m.db) m (session_of event) s n.machine
did_next blocks mode m event s n old at h = moved_with no_view blocks mode m event s n old at (no_view_blind (doer m.db s.transaction) (command_in s.transaction) m.db) h

pub begun_next : (blocks : Blocks) (mode : Mode) (m : Machine) (event : Event) (n : Next) → IsBegun m → next blocks mode m event ≡ Ok n → IsBegun n.machine
begun_next blocks mode m event n old h =
    let there = session_there blocks mode m event n h in
    let s = there.0 in
    let i = session_of event in
    let k = did_next blocks mode m event s n old there.1 h in
    let at : slice_get n.machine.sessions i ≡ Some k.u =
    subst (λ (y : Machine). slice_get y.sessions i ≡ Some k.u) (sym k.is) (slice_get-set_same m.sessions i k.u (slice_get_within m.sessions i s there.1)) in
    subst IsBegun (sym k.is)
    (begun_with m i s no_view k.e k.u old there.1 k.did (subst IsOrderly k.is (orderly_next blocks mode m event n old.orderly h))
    (shot_next blocks mode m event s n there.1 (old.shots i s there.1) h k.u at))

no_session : (s : Session) → None ≡ Some s → ⊥
no_session s h = cc

pub rest_is : (count i : ℕ) (s : Session) → slice_get (replicate count at_rest) i ≡ Some s → s ≡ at_rest
rest_is zero i s h = absurd (no_session s h)
rest_is (suc count) zero s h = sym (same_session at_rest s h)
rest_is (suc count) (suc i) s h = rest_is count i s h

begun_opening : (count : ℕ) → IsBegun (opening count)
begun_opening count = record {
  orderly = orderly_opening count;
  shots = λ i s h t f. absurd (closed_not t (ap (λ (y : Session). y.transaction) (sym (rest_is (count + 1) i s h)) ∙ f));
  views = λ i s p h f. absurd (none_not p (ap (λ (y : Session). y.statement) (sym (rest_is (count + 1) i s h)) ∙ f));
}

-- what the view shows stays, and the tables that are there
pub record IsSame (view : View) (db e : Database) : Type 0 where
  pub stays : Stays view db.content e.content
  pub tables : (k : ℕ) (made : Table) → slice_get db.catalog.tables k ≡ Some made → slice_get e.catalog.tables k ≡ Some made

pub finds : (db e : Database) (p : Progress) → IsSame p.view db e → FindsTheSame db e p
finds db e p same = record {
  seen = same.stays.rows p.table;
  rows = shown_stays p.view db.content e.content p.table.0 same.stays;
  table = λ made there. same.tables p.table.0 made there;
  targets = λ made there t around.
      let seen = same.stays.rows p.table in
      let rows = shown_stays p.view db.content e.content p.table.0 same.stays in
      let found : slice_get e.catalog.tables p.table.0 ≡ slice_get db.catalog.tables p.table.0 = same.tables p.table.0 made there ∙ sym there in
      let columns : table_columns e.catalog p.table.0 ≡ table_columns db.catalog p.table.0 =
      ap (λ (o : Option Table). unwrap_or (option_map (λ (y : Table). y.made.columns) o) []) found in
      record {
        passing = λ filter. λ i. at_places (seen i) (passing (cols_of (columns i)) filter (rows i));
        taken = λ s. λ i. at_places (seen i) (taken s (columns i) (rows i));
      };
}

-- an event leaves of a view what it shows, where what is written at it is unseen in the view
pub same_next : (view : View) (blocks : Blocks) (mode : Mode) (m : Machine) (event : Event) (s : Session) (n : Next) → IsBegun m → slice_get m.sessions (session_of event) ≡ Some s
    → IsBlind (doer m.db s.transaction) (command_in s.transaction) view m.db → next blocks mode m event ≡ Ok n → IsSame view m.db n.machine.db
same_next view blocks mode m event s n old at blind h =
    let x = doer m.db s.transaction in
    let w = moved_with view blocks mode m event s n old at blind h in
    let stands = stands_after (Works x view m.db) (IsOwn x (command_in s.transaction) m.db) m (session_of event) s view w.e w.u w.did in
    subst (λ (y : Machine). IsSame view m.db y.db) (sym w.is) (record { stays = stands.stays; tables = stands.tables })

same_tx : (a b : TxId) → Some a ≡ Some b → a ≡ b
same_tx a b h = cc

-- what is done to a session leaves the others as they are
pub others_stay : (blocks : Blocks) (mode : Mode) (m : Machine) (k : ℕ) (event : Event) (n : Next) → IsBegun m → next blocks mode m event ≡ Ok n → session_of event ≢ k
    → slice_get n.machine.sessions k ≡ slice_get m.sessions k
others_stay blocks mode m k event n old h ne =
    let there = session_there blocks mode m event n h in
    let w = did_next blocks mode m event there.0 n old there.1 h in
    ap (λ (y : Machine). slice_get y.sessions k) w.is ∙ slice_get-set_other m.sessions (session_of event) k w.u (λ f. ne (sym f))

-- and leaves what the statement of one that waits sees
pub same_to_others : (blocks : Blocks) (mode : Mode) (m : Machine) (k : ℕ) (s : Session) (p : Progress) (event : Event) (n : Next) → IsBegun m → slice_get m.sessions k ≡ Some s
    → s.statement ≡ Some p → next blocks mode m event ≡ Ok n → session_of event ≢ k → IsSame p.view m.db n.machine.db
same_to_others blocks mode m k s p event n old at is h ne =
    let there = session_there blocks mode m event n h in
    let i = session_of event in
    let x = doer m.db there.0.transaction in
    let v = old.views k s p at is in
    let other : p.view.tx ≢ Some x = λ e. no_other m i k there.0 s v.0 old.orderly there.1 (λ f. ne (sym f)) at v.1 (same_tx v.0.tx x (sym v.2.0 ∙ e)) in
    same_next p.view blocks mode m event there.0 n old there.1 (record { unseen = inl other; before = v.2.1 }) h

-- every state is such
pub begun_there : (given : Blocks) (mode : Mode) (count : ℕ) (m : Machine) → Reaches given mode count m → IsBegun m
begun_there given mode count m reached = always IsBegun given mode (begun_next given mode) reached.0 (opening count) m (begun_opening count) reached.1

pub waits_go_on_as_begun : WaitsGoOnAsBegun
waits_go_on_as_begun given mode count m reached k s p at is event n h ne =
    let old = begun_there given mode count m reached in
    (others_stay given mode m k event n old h ne ∙ at, finds m.db n.machine.db p (same_to_others given mode m k s p event n old at is h ne))

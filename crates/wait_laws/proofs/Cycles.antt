-- No cycle of waits appears.
use Rattle.std.proofs.Common.{◌≡◌, refl, sym, ◌∙◌, ap, subst, ◌⊎◌, inl, inr, ⊎_elim, Bool, true, false, not, cond, ℕ, zero, suc, ◌<◌, ◌+◌, List, [], ◌∷◌, ◌++◌, length, set, map, filter, replicate, arith}
use Rattle.std.specs.Prelude.{Option, Some, None, slice_get, Ok}
use Rattle.std.proofs.lemmas.Bool.{cases_eq}
use Rattle.std.proofs.lemmas.Option.{slice_get_within}
use Rattle.sql_trees.specs.declared.stmt.Strength.{Strength}
use Rattle.sql_trees.specs.declared.stmt.Strength.TheVariants.{Update}
use Rattle.row_versions.specs.declared.names.TxId.{TxId}
use Rattle.row_versions.specs.declared.names.RowId.{RowId}
use Rattle.row_versions.specs.declared.write.Write.{Write}
use Rattle.row_versions.specs.declared.write.Fate.{Fate}
use Rattle.row_versions.specs.declared.write.Fate.TheVariants.{RolledBack, Committed, Open as OpenFate}
use Rattle.row_versions.specs.Log.{IsOpen, commit_count, after_write}
use Rattle.row_versions.proofs.Gets.{get-append_left}
use Rattle.row_locks.specs.declared.held.Held.{Held}
use Rattle.row_versions.specs.Members.{has, same_tx}
use Rattle.row_locks.specs.Held.{holders_against, released, with_lock}
use Rattle.row_locks.specs.Inner.Searching.{is_against}
use Rattle.row_locks.specs.Cycles.{blocks, NoCycle, closes}
use Rattle.row_locks.proofs.Paths.{run_kept, wait_kept, no_cycle_less}
use Rattle.row_locks.proofs.Cases.{bool_is, or_cases, or_left, or_right, is_same, same_is}
use Rattle.row_locks.proofs.Waiting.{closes_says, walk_ends}
use Rattle.session_machine.specs.declared.session.OpenTransaction.{OpenTransaction}
use Rattle.session_machine.specs.declared.session.Request.{Request}
use Rattle.session_machine.specs.declared.session.Request.TheVariants.{Row, Key}
use Rattle.session_machine.specs.declared.session.Transaction.{Transaction}
use Rattle.session_machine.specs.declared.session.Transaction.TheVariants.{Closed, Open, Aborted}
use Rattle.session_machine.specs.declared.session.Progress.{Progress}
use Rattle.session_machine.specs.declared.session.Session.{Session}
use Rattle.session_machine.specs.declared.event.Event.{Event}
use Rattle.session_machine.specs.declared.event.Mode.{Mode}
use Rattle.session_machine.specs.Tables.{Catalog, Database}
use Rattle.session_machine.specs.Transactions.{committed, rolled_back}
use Rattle.session_machine.specs.Inner.Statements.{begun}
use Rattle.session_machine.specs.Inner.Pieces.{with_table, with_drop}
use Rattle.session_machine.specs.Waits.{blockers, waits_in}
use Rattle.session_machine.specs.Machine.{Machine, Blocks, Next, next, opening, at_rest, empty_database, session_of}
use Rattle.session_machine.specs.Inner.Steps.{around}
use Rattle.session_machine.specs.Sound.{command_in, tx_in, tx_of}
use Rattle.wait_laws.specs.Laws.{Reaches, NoCycleOfWaits, lock_of_write}
use Rattle.session_laws.proofs.Lists.{slice_get-set_same, slice_get-set_other}
use Rattle.wait_laws.proofs.Doing.{Keeps, Ran, doer, start, Allows}
use Rattle.wait_laws.proofs.KeyBlockers.{less_written, less_begun, less_rolled_back, less_committed}
use Rattle.wait_laws.proofs.Exclusion.{AreHeld, AreHeldBy, held_keeps, held_start, writes_apart}
use Rattle.wait_laws.proofs.Events.{session_there, left_as, Rests, Moved, moved, always}
use Rattle.wait_laws.proofs.Edges.{Edge, edge_from, edge_to}

-- the transactions of sessions are open
abbrev pub AreOpen : Database → List Session → Type 0
AreOpen db ss = (i n : ℕ) → tx_of (slice_get ss i) ≡ Some n → slice_get db.content.fates n ≡ Some OpenFate

-- no two sessions have one transaction
abbrev pub AreDistinct : List Session → Type 0
AreDistinct ss = (i j n : ℕ) → tx_of (slice_get ss i) ≡ Some n → tx_of (slice_get ss j) ≡ Some n → i ≡ j

-- so they have begun
known_in : (db : Database) (ss : List Session) → AreOpen db ss → (i n : ℕ) → tx_of (slice_get ss i) ≡ Some n → n < length db.content.fates
known_in db ss opened i n h = slice_get_within db.content.fates n OpenFate (opened i n h)

-- the transaction alone may end, and may stand against more requests
pub record Adds (x : TxId) (db e : Database) : Type 0 where
  pub others : (n : ℕ) → (n ≡ x.0 → ⊥) → slice_get db.content.fates n ≡ Some OpenFate → slice_get e.content.fates n ≡ Some OpenFate
  pub rows : AreHeld e
  pub against : (r : Request) (tx u : TxId) → (u ≡ x → ⊥) → has (blockers e r tx) u ≡ true → has (blockers db r tx) u ≡ true

-- while it is at work it is open
pub record AddsBy (x : TxId) (db e : Database) : Type 0 where
  pub mine : IsOpen e.content x
  pub all : Adds x db e

abbrev pub by_rows : {x : TxId} {db e : Database} → AddsBy x db e → AreHeldBy x e
by_rows p = record { mine = p.mine; all = p.all.rows }

-- a lock more
against_more : (held : List Held) (h : Held) (row : RowId) (tx : TxId) (strength : Strength) (u : TxId) → (u ≡ h.tx → ⊥)
    → has (holders_against (held ++ h ∷ []) row tx strength) u ≡ true → has (holders_against held row tx strength) u ≡ true
against_more [] h row tx strength u ne e = at (is_against row tx strength h) e where
  at : (b : Bool) → has (map (λ (g : Held). g.tx) (cond b (h ∷ []) [])) u ≡ true → false ≡ true
  at true k = elim (or_cases (same_tx h.tx u) false k) [ inl m ↦ absurd (ne (sym (same_is h.tx u m))) | inr m ↦ m ]
  at false k = k
against_more (g ∷ held) h row tx strength u ne e = at (against_more held h row tx strength u ne) (is_against row tx strength g) e where
  at : (has (holders_against (held ++ h ∷ []) row tx strength) u ≡ true → has (holders_against held row tx strength) u ≡ true) → (b : Bool)
      → has (map (λ (g : Held). g.tx) (cond b (g ∷ filter (is_against row tx strength) (held ++ h ∷ [])) (filter (is_against row tx strength) (held ++ h ∷ [])))) u ≡ true
      → has (map (λ (g : Held). g.tx) (cond b (g ∷ filter (is_against row tx strength) held) (filter (is_against row tx strength) held))) u ≡ true
  at on true k = elim (or_cases (same_tx g.tx u) (has (holders_against (held ++ h ∷ []) row tx strength) u) k) [
    | inl m ↦ or_left (same_tx g.tx u) (has (holders_against held row tx strength) u) m
    | inr m ↦ or_right (same_tx g.tx u) (has (holders_against held row tx strength) u) (on m)
  ]
  at on false k = on k

-- fewer locks
against_fewer : (held : List Held) (x : TxId) (row : RowId) (tx : TxId) (strength : Strength) (u : TxId)
    → has (holders_against (released x held) row tx strength) u ≡ true → has (holders_against held row tx strength) u ≡ true
against_fewer [] x row tx strength u e = e
against_fewer (g ∷ held) x row tx strength u e = keep (against_fewer held x row tx strength u) (not (same_tx g.tx x)) e where
  later : (b : Bool) → has (holders_against held row tx strength) u ≡ true
      → has (map (λ (g : Held). g.tx) (cond b (g ∷ filter (is_against row tx strength) held) (filter (is_against row tx strength) held))) u ≡ true
  later true k = or_right (same_tx g.tx u) (has (holders_against held row tx strength) u) k
  later false k = k

  at : (has (holders_against (released x held) row tx strength) u ≡ true → has (holders_against held row tx strength) u ≡ true) → (b : Bool)
      → has (map (λ (g : Held). g.tx) (cond b (g ∷ filter (is_against row tx strength) (released x held)) (filter (is_against row tx strength) (released x held)))) u ≡ true
      → has (map (λ (g : Held). g.tx) (cond b (g ∷ filter (is_against row tx strength) held) (filter (is_against row tx strength) held))) u ≡ true
  at on true k = elim (or_cases (same_tx g.tx u) (has (holders_against (released x held) row tx strength) u) k) [
    | inl m ↦ or_left (same_tx g.tx u) (has (holders_against held row tx strength) u) m
    | inr m ↦ or_right (same_tx g.tx u) (has (holders_against held row tx strength) u) (on m)
  ]
  at on false k = on k

  keep : (has (holders_against (released x held) row tx strength) u ≡ true → has (holders_against held row tx strength) u ≡ true) → (b : Bool) → has (holders_against (cond b (g ∷ released x held) (released x held)) row tx strength) u ≡ true → has (holders_against (g ∷ held) row tx strength) u ≡ true
  keep on true k = at on (is_against row tx strength g) k
  keep on false k = later (is_against row tx strength g) (on k)

locked : (x : TxId) (d : Database) (h : Held) → h.tx ≡ x → (r : Request) (tx u : TxId) → (u ≡ x → ⊥) → has (blockers (record d { held = with_lock d.held h }) r tx) u ≡ true
    → has (blockers d r tx) u ≡ true
locked x d h own (Row row strength) tx u ne e = against_more d.held h row tx strength u (λ k. ne (k ∙ own)) e
locked x d h own (Key k) tx u ne e = e

wrote : (x : TxId) (d : Database) (w : Write) → w.tx ≡ x → IsOpen d.content x → (r : Request) (tx u : TxId) → (u ≡ x → ⊥) → has (blockers (record d { content = after_write d.content w }) r tx) u ≡ true
    → has (blockers d r tx) u ≡ true
wrote x d w own mine (Row row strength) tx u ne e = e
wrote x d w own mine (Key k) tx u ne e = less_written d.content w k tx u (subst (IsOpen d.content) (sym own) mine) (λ f. ne (f ∙ own)) e

made : (x : TxId) (d : Database) (w : Write) → w.tx ≡ x → IsOpen d.content x → (r : Request) (tx u : TxId) → (u ≡ x → ⊥)
    → has (blockers (record d { content = after_write d.content w; held = with_lock d.held (lock_of_write Update w) }) r tx) u ≡ true → has (blockers d r tx) u ≡ true
made x d w own mine (Row row strength) tx u ne e = against_more d.held (lock_of_write Update w) row tx strength u (λ k. ne (k ∙ own)) e
made x d w own mine (Key k) tx u ne e = less_written d.content w k tx u (subst (IsOpen d.content) (sym own) mine) (λ f. ne (f ∙ own)) e

same_rows : (d : Database) (catalog : Catalog) (r : Request) (tx u : TxId) → has (blockers (record d { catalog = catalog }) r tx) u ≡ true → has (blockers d r tx) u ≡ true
same_rows d catalog (Row row strength) tx u e = e
same_rows d catalog (Key k) tx u e = e

committed_less : (x : TxId) (d : Database) → AreHeldBy x d → (r : Request) (tx u : TxId) → (u ≡ x → ⊥) → has (blockers (committed d x) r tx) u ≡ true → has (blockers d r tx) u ≡ true
committed_less x d p (Row row strength) tx u ne e = against_fewer d.held x row tx strength u e
committed_less x d p (Key k) tx u ne e = less_committed d.content x k tx u p.mine (writes_apart d p.all) ne e

rolled_back_less : (x : TxId) (d : Database) → IsOpen d.content x → (r : Request) (tx u : TxId) → (u ≡ x → ⊥) → has (blockers (rolled_back d x) r tx) u ≡ true → has (blockers d r tx) u ≡ true
rolled_back_less x d mine (Row row strength) tx u ne e = against_fewer d.held x row tx strength u e
rolled_back_less x d mine (Key k) tx u ne e = less_rolled_back d.content x k tx u mine ne e

set_fate : (fates : List Fate) (x : TxId) (f : Fate) (n : ℕ) → (n ≡ x.0 → ⊥) → slice_get fates n ≡ Some OpenFate → slice_get (set fates x.0 f) n ≡ Some OpenFate
set_fate fates x f n ne h = slice_get-set_other fates x.0 n f ne ∙ h

pub adds_keeps : (x : TxId) (n : ℕ) (db : Database) → Keeps x n (AddsBy x db) (Adds x db)
adds_keeps x n db = record {
  lock = λ d h own may p. let k = (held_keeps x n).lock d h own may (by_rows p) in record {
    mine = p.mine;
    all = record { others = p.all.others; rows = k.all; against = λ r tx u ne e. p.all.against r tx u ne (locked x d h own r tx u ne e) };
  };
  insert = λ d w own now new p. let k = (held_keeps x n).insert d w own now new (by_rows p) in record {
    mine = p.mine;
    all = record { others = p.all.others; rows = k.all; against = λ r tx u ne e. p.all.against r tx u ne (made x d w own p.mine r tx u ne e) };
  };
  write = λ d w strength own now enough held p. let k = (held_keeps x n).write d w strength own now enough held (by_rows p) in record {
    mine = p.mine;
    all = record { others = p.all.others; rows = k.all; against = λ r tx u ne e. p.all.against r tx u ne (wrote x d w own p.mine r tx u ne e) };
  };
  create = λ d table p. let k = (held_keeps x n).create d table (by_rows p) in record {
    mine = p.mine;
    all = record { others = p.all.others; rows = k.all; against = λ r tx u ne e. p.all.against r tx u ne (same_rows d (with_table d.catalog table x) r tx u e) };
  };
  drop = λ d table p. let k = (held_keeps x n).drop d table (by_rows p) in record {
    mine = p.mine;
    all = record { others = p.all.others; rows = k.all; against = λ r tx u ne e. p.all.against r tx u ne (same_rows d (with_drop d.catalog table x) r tx u e) };
  };
  commit = λ d p. record {
    others = λ n ne h. set_fate d.content.fates x (Committed (commit_count d.content)) n ne (p.all.others n ne h);
    rows = (held_keeps x n).commit d (by_rows p);
    against = λ r tx u ne e. p.all.against r tx u ne (committed_less x d (by_rows p) r tx u ne e);
  };
  roll_back = λ d p. record {
    others = λ n ne h. set_fate d.content.fates x RolledBack n ne (p.all.others n ne h);
    rows = (held_keeps x n).roll_back d (by_rows p);
    against = λ r tx u ne e. p.all.against r tx u ne (rolled_back_less x d p.mine r tx u ne e);
  };
  rest = λ d p. p.all;
}

-- what holds of the waits of every state
pub record IsOrderly (m : Machine) : Type 0 where
  pub opened : AreOpen m.db m.sessions
  pub apart : AreDistinct m.sessions
  pub rows : AreHeld m.db
  pub free : NoCycle (blocks (waits_in m.db m.sessions))

no_session : (s : Session) → None ≡ Some s → ⊥
no_session s h = cc

same_session : (s u : Session) → Some s ≡ Some u → s ≡ u
same_session s u h = cc

no_progress : (p : Progress) → None ≡ Some p → ⊥
no_progress p h = cc

same_progress : (p q : Progress) → Some p ≡ Some q → p ≡ q
same_progress p q h = cc

-- in sessions of which one changed that one waits, or another does
edge_set : (db : Database) (ss : List Session) (i : ℕ) (s u : Session) (a b : TxId) → slice_get ss i ≡ Some s → blocks (waits_in db (set ss i u)) a b ≡ true
    → Edge db u a b ⊎ ((j : ℕ) × (v : Session) × (j ≡ i → ⊥) × (slice_get ss j ≡ Some v) × Edge db v a b)
edge_set db ss i s u a b at h =
    let r = edge_from db (set ss i u) a b h in
    ⊎_elim
    (λ e. inl (subst (λ (y : Session). Edge db y a b)
    (same_session r.1 u (sym r.2 ∙ (ap (slice_get (set ss i u)) e ∙ slice_get-set_same ss i u (slice_get_within ss i s at)))) r.3))
    (λ ne. inr (r.0, r.1, ne, sym (slice_get-set_other ss i r.0 u ne) ∙ r.2, r.3))
    (cases_eq r.0 i)

edge_other : (db : Database) (ss : List Session) (i j : ℕ) (u v : Session) (a b : TxId) → (j ≡ i → ⊥) → slice_get ss j ≡ Some v → Edge db v a b
    → blocks (waits_in db (set ss i u)) a b ≡ true
edge_other db ss i j u v a b ne at e = edge_to db (set ss i u) j v a b (slice_get-set_other ss i j u ne ∙ at) e

-- where a session waits no more there is no cycle
free_without : (db : Database) (ss : List Session) (i : ℕ) (s u : Session) → slice_get ss i ≡ Some s → u.statement ≡ None → NoCycle (blocks (waits_in db ss))
    → NoCycle (blocks (waits_in db (set ss i u)))
free_without db ss i s u at over free =
    no_cycle_less (blocks (waits_in db ss)) (blocks (waits_in db (set ss i u))) free
    (λ a b e. elim (edge_set db ss i s u a b at e) [
      | inl k ↦ absurd (no_progress k.p (sym over ∙ k.at))
      | inr k ↦ edge_to db ss k.0 k.1 a b k.3 k.4
    ])

-- a session's transaction after an event is the one before, or a new one
apart_set : (db : Database) (ss : List Session) (i : ℕ) (s u : Session) → AreOpen db ss → AreDistinct ss → slice_get ss i ≡ Some s
    → ((n : ℕ) → tx_in u.transaction ≡ Some n → (tx_in s.transaction ≡ Some n) ⊎ (n ≡ length db.content.fates)) → AreDistinct (set ss i u)
apart_set db ss i s u opened old at own = apart where
  here : slice_get (set ss i u) i ≡ Some u
  here = slice_get-set_same ss i u (slice_get_within ss i s at)

  there : (j : ℕ) → (j ≡ i → ⊥) → slice_get (set ss i u) j ≡ slice_get ss j
  there j ne = slice_get-set_other ss i j u ne

  at_i : (j n : ℕ) → j ≡ i → tx_of (slice_get (set ss i u) j) ≡ Some n → tx_in u.transaction ≡ Some n
  at_i j n is h = ap tx_of (sym (ap (slice_get (set ss i u)) is ∙ here)) ∙ h

  mixed : (j n : ℕ) → (j ≡ i → ⊥) → tx_in u.transaction ≡ Some n → tx_of (slice_get (set ss i u) j) ≡ Some n → ⊥
  mixed j n ne h k =
      let o : tx_of (slice_get ss j) ≡ Some n = ap tx_of (sym (there j ne)) ∙ k in
      ⊎_elim
      (λ f. ne (old j i n o (ap tx_of at ∙ f)))
      (λ (f : n ≡ length db.content.fates). let l = known_in db ss opened j n o in let z : ⊥ = omega arith in z)
      (own n h)

  apart : (j k n : ℕ) → tx_of (slice_get (set ss i u) j) ≡ Some n → tx_of (slice_get (set ss i u) k) ≡ Some n → j ≡ k
  apart j k n h l =
      ⊎_elim
      (λ x. ⊎_elim (λ f. x ∙ sym f) (λ nf. absurd (mixed k n nf (at_i j n x h) l)) (cases_eq k i))
      (λ ne. ⊎_elim
      (λ f. absurd (mixed j n ne (at_i k n f l) h))
      (λ nf. old j k n (ap tx_of (sym (there j ne)) ∙ h) (ap tx_of (sym (there k nf)) ∙ l))
      (cases_eq k i))
      (cases_eq j i)

pub open_tx : (tr : Transaction) (n : ℕ) → tx_in tr ≡ Some n → (t : OpenTransaction) × (tr ≡ Open t) × (t.tx.0 ≡ n)
open_tx Closed n h = cc
open_tx Aborted n h = cc
open_tx (Open t) n h = (t, refl, cc)

-- a doer is the session's transaction, or a new one
pub doer_is : (db : Database) (tr : Transaction) (t : OpenTransaction) → t.tx ≡ doer db tr → (tx_in tr ≡ Some t.tx.0) ⊎ (t.tx.0 ≡ length db.content.fates)
doer_is db Closed t e = inr (ap (λ (x : TxId). x.0) e)
doer_is db Aborted t e = inr (ap (λ (x : TxId). x.0) e)
doer_is db (Open v) t e = inl (ap (λ (x : TxId). Some x.0) (sym e))

pub allows_all : (db : Database) (tr : Transaction) (statement : Option Progress) → Allows (λ v. Unit {0}) db tr statement
allows_all db Closed statement = tt
allows_all db Aborted statement = tt
allows_all db (Open t) None = tt
allows_all db (Open t) (Some p) = (tt, tt)

-- at its start nothing was added
same_begun : (db : Database) → AreHeld db → (r : Request) (tx u : TxId) → has (blockers (begun db) r tx) u ≡ true → has (blockers db r tx) u ≡ true
same_begun db rows (Row row strength) tx u e = e
same_begun db rows (Key k) tx u e = less_begun db.content k tx u rows.known e

adds_begun : (db : Database) → AreHeld db → AreHeldBy (record { 0 = length db.content.fates }) (begun db) → AddsBy (record { 0 = length db.content.fates }) db (begun db)
adds_begun db rows there = record {
  mine = there.mine;
  all = record {
    others = λ n ne h. get-append_left db.content.fates (OpenFate ∷ []) n (slice_get_within db.content.fates n OpenFate h) ∙ h;
    rows = there.all;
    against = λ r tx u ne e. same_begun db rows r tx u e;
  };
}

pub adds_start : (db : Database) (tr : Transaction) → ((n : ℕ) → tx_in tr ≡ Some n → slice_get db.content.fates n ≡ Some OpenFate) → AreHeld db → AddsBy (doer db tr) db (start db tr)
adds_start db Closed opened rows = adds_begun db rows (held_start db Closed opened rows)
adds_start db Aborted opened rows = adds_begun db rows (held_start db Aborted opened rows)
adds_start db (Open t) opened rows = record {
  mine = opened t.tx.0 refl;
  all = record {
    others = λ n ne h. h;
    rows = rows;
    against = λ r tx u ne e. e;
  };
}

apart_moved : (m : Machine) (i : ℕ) (s : Session) (after : Machine) → IsOrderly m → slice_get m.sessions i ≡ Some s
    → Moved (AddsBy (doer m.db s.transaction) m.db) (Adds (doer m.db s.transaction) m.db) (λ v. Unit {0}) m i s after → AreDistinct after.sessions
apart_moved m i s after old at k = subst (λ (y : Machine). AreDistinct y.sessions) (sym k.is) (by k.did) where
  by : Rests m s k.e k.u ⊎ Ran (doer m.db s.transaction) (command_in s.transaction) (AddsBy (doer m.db s.transaction) m.db) (Adds (doer m.db s.transaction) m.db) (λ v. Unit {0}) (around m i s).sessions
      (left_as k.e k.u) → AreDistinct (set m.sessions i k.u)
  by (inl r) =
      apart_set m.db m.sessions i s k.u old.opened old.apart at
      (λ n h. let o = open_tx k.u.transaction n h in inl (ap tx_in (r.its o.0 o.1) ∙ ap Some o.2))
  by (inr r) =
      apart_set m.db m.sessions i s k.u old.opened old.apart at
      (λ n h.
      let o = open_tx k.u.transaction n h in
      let own = r.own o.0 o.1 in
      subst (λ y. (tx_in s.transaction ≡ Some y) ⊎ (y ≡ length m.db.content.fates)) o.2 (doer_is m.db s.transaction o.0 own.0))

false_true : (b : Bool) → b ≡ false → b ≡ true → ⊥
false_true true h k = cc
false_true false h k = cc

-- no other session has the doer's transaction
pub no_other : (m : Machine) (i j : ℕ) (s v : Session) (t : OpenTransaction) → IsOrderly m → slice_get m.sessions i ≡ Some s → (j ≡ i → ⊥) → slice_get m.sessions j ≡ Some v
    → v.transaction ≡ Open t → t.tx ≡ doer m.db s.transaction → ⊥
no_other m i j s v t old at ne there is own =
    let f : tx_of (slice_get m.sessions j) ≡ Some t.tx.0 = ap tx_of there ∙ ap tx_in is in
    ⊎_elim
    (λ k. ne (old.apart j i t.tx.0 f (ap tx_of at ∙ k)))
    (λ (k : t.tx.0 ≡ length m.db.content.fates). let l = known_in m.db m.sessions old.opened j t.tx.0 f in let z : ⊥ = omega arith in z)
    (doer_is m.db s.transaction t own)

free_moved : (m : Machine) (i : ℕ) (s : Session) (after : Machine) → IsOrderly m → slice_get m.sessions i ≡ Some s
    → Moved (AddsBy (doer m.db s.transaction) m.db) (Adds (doer m.db s.transaction) m.db) (λ v. Unit {0}) m i s after → NoCycle (blocks (waits_in after.db after.sessions))
free_moved m i s after old at k = subst (λ (y : Machine). NoCycle (blocks (waits_in y.db y.sessions))) (sym k.is) (by k.did) where
  x : TxId
  x = doer m.db s.transaction

  idle : Session
  idle = record s { statement = None }

  before : List Session
  before = set m.sessions i idle

  by : Rests m s k.e k.u ⊎ Ran x (command_in s.transaction) (AddsBy x m.db) (Adds x m.db) (λ v. Unit {0}) before (left_as k.e k.u) → NoCycle (blocks (waits_in k.e (set m.sessions i k.u)))
  by (inl r) =
      subst (λ (d : Database). NoCycle (blocks (waits_in d (set m.sessions i k.u)))) (sym r.same)
      (free_without m.db m.sessions i s k.u at r.over old.free)
  by (inr r) = ends k.u.statement refl where
    start_free : NoCycle (blocks (waits_in m.db before))
    start_free = free_without m.db m.sessions i s idle at refl old.free

    grows : (a b : TxId) → blocks (waits_in k.e before) a b ≡ true → (b ≡ x) ⊎ (blocks (waits_in m.db before) a b ≡ true)
    grows a b e = elim (bool_is (same_tx b x)) [
      | inl y ↦ inl (same_is b x y)
      | inr ne ↦
          let w = edge_from k.e before a b e in
          let g = w.3 in
          inr (edge_to m.db before w.0 w.1 a b w.2
          (record {
            t = g.t;
            p = g.p;
            open_now = g.open_now;
            at = g.at;
            its = g.its;
            against = r.db.against g.p.wait.request a b (λ f. false_true (same_tx b x) ne (subst (λ y. same_tx b y ≡ true) f (is_same b))) g.against;
          }))
    ]

    nobody : (b : TxId) → blocks (waits_in k.e before) x b ≡ true → ⊥
    nobody b e = elim (edge_set k.e m.sessions i s idle x b at e) [
      | inl w ↦ no_progress w.p w.at
      | inr w ↦ no_other m i w.0 s w.1 w.4.t old at w.2 w.3 w.4.open_now w.4.its
    ]

    ends : (o : Option Progress) → k.u.statement ≡ o → NoCycle (blocks (waits_in k.e (set m.sessions i k.u)))
    ends None over =
        no_cycle_less (blocks (waits_in k.e before)) (blocks (waits_in k.e (set m.sessions i k.u)))
        (run_kept (blocks (waits_in m.db before)) (blocks (waits_in k.e before)) x start_free grows nobody)
        (λ a b e. elim (edge_set k.e m.sessions i s k.u a b at e) [
          | inl w ↦ absurd (no_progress w.p (sym over ∙ w.at))
          | inr w ↦ edge_other k.e m.sessions i w.0 idle w.1 a b w.2 w.3 w.4
        ])
    ends (Some p) is =
        let refused = (r.waits p is).0 in
        let bs = blockers k.e p.wait.request x in
        wait_kept (blocks (waits_in m.db before)) (blocks (waits_in k.e before)) (blocks (waits_in k.e (set m.sessions i k.u))) x bs start_free grows
        (λ a b e. elim (edge_set k.e m.sessions i s k.u a b at e) [
          | inl w ↦
              let same : w.p ≡ p = same_progress w.p p (sym w.at ∙ is) in
              let own : a ≡ x = sym w.its ∙ (r.own w.t w.open_now).0 in
              inl (
                own,
                subst (λ (y : TxId). has (blockers k.e p.wait.request y) b ≡ true) own
                    (subst (λ (q : Progress). has (blockers k.e q.wait.request a) b ≡ true) same w.against),
              )
          | inr w ↦ inr (edge_other k.e m.sessions i w.0 idle w.1 a b w.2 w.3 w.4)
        ])
        (λ c. false_true (closes (waits_in k.e before) x bs) refused.free ((closes_says (waits_in k.e before) x bs).1 c))
        nobody

doer_number : (db : Database) (tr : Transaction) → (tx_in tr ≡ Some (doer db tr).0) ⊎ ((doer db tr).0 ≡ length db.content.fates)
doer_number db Closed = inr refl
doer_number db Aborted = inr refl
doer_number db (Open t) = inl refl

-- the transactions of sessions stay open
opened_moved : (m : Machine) (i : ℕ) (s : Session) (after : Machine) → IsOrderly m → slice_get m.sessions i ≡ Some s
    → Moved (AddsBy (doer m.db s.transaction) m.db) (Adds (doer m.db s.transaction) m.db) (λ v. Unit {0}) m i s after
    → AreOpen after.db after.sessions
opened_moved m i s after old at k = subst (λ (y : Machine). AreOpen y.db y.sessions) (sym k.is) opened where
  x : TxId
  x = doer m.db s.transaction

  others : (n : ℕ) → (n ≡ x.0 → ⊥) → slice_get m.db.content.fates n ≡ Some OpenFate → slice_get k.e.content.fates n ≡ Some OpenFate
  others n ne h = elim k.did [
    | inl r ↦ subst (λ (d : Database). slice_get d.content.fates n ≡ Some OpenFate) (sym r.same) h
    | inr r ↦ r.db.others n ne h
  ]

  u_open : (n : ℕ) → tx_in k.u.transaction ≡ Some n → slice_get k.e.content.fates n ≡ Some OpenFate
  u_open n h =
      let o = open_tx k.u.transaction n h in
      elim k.did [
        | inl r ↦ subst (λ (d : Database). slice_get d.content.fates n ≡ Some OpenFate) (sym r.same)
            (old.opened i n (ap tx_of at ∙ (ap tx_in (r.its o.0 o.1) ∙ ap Some o.2)))
        | inr r ↦ let own = r.own o.0 o.1 in subst (λ q. slice_get k.e.content.fates q ≡ Some OpenFate) (ap (λ (y : TxId). y.0) (sym own.0) ∙ o.2) own.1.mine
      ]

  other : (j n : ℕ) → (j ≡ i → ⊥) → tx_of (slice_get m.sessions j) ≡ Some n → n ≡ x.0 → ⊥
  other j n ne h is =
      ⊎_elim
      (λ f. ne (old.apart j i n h (ap tx_of at ∙ (f ∙ ap Some (sym is)))))
      (λ (f : x.0 ≡ length m.db.content.fates). let l = known_in m.db m.sessions old.opened j n h in let z : ⊥ = omega arith in z)
      (doer_number m.db s.transaction)

  opened : (j n : ℕ) → tx_of (slice_get (set m.sessions i k.u) j) ≡ Some n → slice_get k.e.content.fates n ≡ Some OpenFate
  opened j n h =
      ⊎_elim
      (λ is. u_open n (ap tx_of (sym (ap (slice_get (set m.sessions i k.u)) is ∙ slice_get-set_same m.sessions i k.u (slice_get_within m.sessions i s at))) ∙ h))
      (λ ne. let o : tx_of (slice_get m.sessions j) ≡ Some n = ap tx_of (sym (slice_get-set_other m.sessions i j k.u ne)) ∙ h in others n (other j n ne o) (old.opened j n o))
      (cases_eq j i)

rows_moved : (m : Machine) (i : ℕ) (s : Session) (after : Machine) → AreHeld m.db
    → Moved (AddsBy (doer m.db s.transaction) m.db) (Adds (doer m.db s.transaction) m.db) (λ v. Unit {0}) m i s after → AreHeld after.db
rows_moved m i s after old k = subst (λ (y : Machine). AreHeld y.db) (sym k.is) (by k.did) where
  by : Rests m s k.e k.u ⊎ Ran (doer m.db s.transaction) (command_in s.transaction) (AddsBy (doer m.db s.transaction) m.db) (Adds (doer m.db s.transaction) m.db) (λ v. Unit {0}) (around m i s).sessions (left_as k.e k.u)
      → AreHeld k.e
  by (inl r) = subst AreHeld (sym r.same) old
  by (inr r) = r.db.rows

pub orderly_next : (blocks : Blocks) (mode : Mode) (m : Machine) (event : Event) (n : Next) → IsOrderly m → next blocks mode m event ≡ Ok n → IsOrderly n.machine
orderly_next blocks mode m event n old h =
    let there = session_there blocks mode m event n h in
    let s = there.0 in
    let x = doer m.db s.transaction in
    let i = session_of event in
    let k = moved (AddsBy x m.db) (Adds x m.db) (λ v. Unit {0}) blocks mode m event s n there.1 (adds_keeps x (command_in s.transaction) m.db) (allows_all m.db s.transaction s.statement)
    (adds_start m.db s.transaction (λ q f. old.opened i q (ap tx_of there.1 ∙ f)) old.rows) h in
    record {
      opened = opened_moved m i s n.machine old there.1 k;
      apart = apart_moved m i s n.machine old there.1 k;
      rows = rows_moved m i s n.machine old.rows k;
      free = free_moved m i s n.machine old there.1 k;
    }

rest_tx : (count i n : ℕ) → tx_of (slice_get (replicate count at_rest) i) ≡ Some n → ⊥
rest_tx zero i n h = cc
rest_tx (suc count) zero n h = cc
rest_tx (suc count) (suc i) n h = rest_tx count i n h

rest_edge : (count j : ℕ) (s : Session) (a b : TxId) → slice_get (replicate count at_rest) j ≡ Some s → Edge empty_database s a b → ⊥
rest_edge zero j s a b h e = no_session s h
rest_edge (suc count) zero s a b h e = no_progress e.p (ap (λ (y : Session). y.statement) (same_session at_rest s h) ∙ e.at)
rest_edge (suc count) (suc j) s a b h e = rest_edge count j s a b h e

pub orderly_opening : (count : ℕ) → IsOrderly (opening count)
orderly_opening count = record {
  opened = λ i n h. absurd (rest_tx (count + 1) i n h);
  apart = λ i j n h k. absurd (rest_tx (count + 1) i n h);
  rows = record { known = λ k v e. cc; held = λ k v e o. cc; rows = λ k v e. cc; locks = λ h e. cc; opened = λ h e. cc; apart = λ row a b s t ne e k. cc };
  free = λ a b e l. let w = edge_from empty_database (replicate (count + 1) at_rest) a b e in rest_edge (count + 1) w.0 w.1 a b w.2 w.3;
}

-- every state is orderly
pub orderly_there : (given : Blocks) (mode : Mode) (count : ℕ) (m : Machine) → Reaches given mode count m → IsOrderly m
orderly_there given mode count m reached = always IsOrderly given mode (orderly_next given mode) reached.0 (opening count) m (orderly_opening count) reached.1

pub no_cycle_of_waits : NoCycleOfWaits
no_cycle_of_waits given mode count m reached =
    let o = orderly_there given mode count m reached in
    (o.free, walk_ends (waits_in m.db m.sessions) o.free)

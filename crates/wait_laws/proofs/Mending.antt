-- Who stands in the way of a request is open, stays there until its transaction ends, and comes there by its own doing.
use Rattle.std.proofs.Common.{◌≡◌, refl, sym, ◌∙◌, ap, subst, ◌⊎◌, inl, inr, Bool, true, false, ℕ, List}
use Rattle.std.specs.Prelude.{Some, slice_get, slice_set, Ok}
use Rattle.sql_trees.specs.declared.stmt.Strength.{Strength}
use Rattle.sql_trees.specs.declared.stmt.Strength.TheVariants.{Update}
use Rattle.row_versions.specs.declared.names.TxId.{TxId}
use Rattle.row_versions.specs.declared.names.RowId.{RowId}
use Rattle.row_versions.specs.declared.write.Write.{Write}
use Rattle.row_versions.specs.declared.write.Fate.{Fate}
use Rattle.row_versions.specs.declared.write.Fate.TheVariants.{RolledBack, Committed, Open as OpenFate}
use Rattle.row_versions.specs.Log.{IsOpen, commit_count, after_write}
use Rattle.row_versions.specs.Members.{has, same_tx}
use Rattle.row_locks.specs.declared.held.Held.{Held}
use Rattle.row_locks.specs.Held.{holders_against, holds, with_lock}
use Rattle.row_locks.proofs.Cases.{bool_is, is_same, same_is}
use Rattle.row_locks.proofs.Holding.{blockers_hold}
use Rattle.session_machine.specs.declared.session.Request.{Request}
use Rattle.session_machine.specs.declared.session.Request.TheVariants.{Row, Key}
use Rattle.session_machine.specs.declared.session.Session.{Session}
use Rattle.session_machine.specs.declared.session.Transaction.{Transaction}
use Rattle.session_machine.specs.declared.session.Transaction.TheVariants.{Closed, Open, Aborted}
use Rattle.session_machine.specs.declared.event.Event.{Event}
use Rattle.session_machine.specs.declared.event.Mode.{Mode}
use Rattle.session_machine.specs.Tables.{Catalog, Database}
use Rattle.session_machine.specs.Transactions.{committed, rolled_back}
use Rattle.session_machine.specs.Inner.Statements.{begun}
use Rattle.session_machine.specs.Inner.Pieces.{with_table, with_drop}
use Rattle.session_machine.specs.Inner.Steps.{around}
use Rattle.session_machine.specs.Waits.{blockers}
use Rattle.session_machine.specs.Machine.{Machine, Blocks, Next, next, session_of}
use Rattle.session_machine.specs.Sound.{command_in, tx_in, tx_of}
use Rattle.wait_laws.specs.Laws.{BlockersStayToTheirEnd, lock_of_write, transaction_at}
use Rattle.wait_laws.proofs.Lists.{holds_before}
use Rattle.wait_laws.proofs.Doing.{Keeps, Ran, doer, start}
use Rattle.wait_laws.proofs.Exclusion.{AreHeld, AreHeldBy, holds_left, not_open, writes_apart}
use Rattle.wait_laws.proofs.KeyBlockers.{blocker_is_open, more_begun, more_committed, more_rolled_back, more_written}
use Rattle.wait_laws.proofs.Cycles.{Adds, AddsBy, IsOrderly, adds_keeps, adds_start, allows_all, by_rows, orderly_there}
use Rattle.wait_laws.proofs.Events.{Moved, Rests, left_as, moved, session_there}

abbrev lock : RowId → TxId → Strength → Held
lock row tx strength = record { row = row; tx = tx; strength = strength }

-- ---- what a transaction does takes nobody away that stays open

-- whoever holds a row in conflict stands against a request as long as it holds that
still_against : (held others : List Held) (row : RowId) (tx : TxId) (s : Strength) (u : TxId) → ((k : Strength) → holds held (lock row u k) ≡ true → holds others (lock row u k) ≡ true)
    → has (holders_against held row tx s) u ≡ true → has (holders_against others row tx s) u ≡ true
still_against held others row tx s u still e =
    let k = (blockers_hold held row tx s u).0 e in
    (blockers_hold others row tx s u).1 (k.0, (k.1.0, still k.1.0 k.1.1, k.1.2))

still_locked : (d : Database) (h : Held) (r : Request) (tx u : TxId) → has (blockers d r tx) u ≡ true → has (blockers (record d { held = with_lock d.held h }) r tx) u ≡ true
still_locked d h (Row row s) tx u e = still_against d.held (with_lock d.held h) row tx s u (λ k. holds_before d.held h (lock row u k)) e
still_locked d h (Key k) tx u e = e

still_written : (d : Database) (w : Write) (r : Request) (tx u : TxId) → IsOpen d.content w.tx → has (blockers d r tx) u ≡ true → has (blockers (record d { content = after_write d.content w }) r tx) u ≡ true
still_written d w (Row row s) tx u mine e = e
still_written d w (Key k) tx u mine e = more_written d.content w k tx u mine e

still_made : (d : Database) (w : Write) (r : Request) (tx u : TxId) → IsOpen d.content w.tx → has (blockers d r tx) u ≡ true
    → has (blockers (record d { content = after_write d.content w; held = with_lock d.held (lock_of_write Update w) }) r tx) u ≡ true
still_made d w (Row row s) tx u mine e = still_against d.held (with_lock d.held (lock_of_write Update w)) row tx s u (λ k. holds_before d.held (lock_of_write Update w) (lock row u k)) e
still_made d w (Key k) tx u mine e = more_written d.content w k tx u mine e

same_rows : (d : Database) (catalog : Catalog) (r : Request) (tx u : TxId) → has (blockers d r tx) u ≡ true → has (blockers (record d { catalog = catalog }) r tx) u ≡ true
same_rows d catalog (Row row s) tx u e = e
same_rows d catalog (Key k) tx u e = e

-- who is open once a transaction has ended is another
other : (fates : List Fate) (x u : TxId) (f : Fate) → (f ≡ OpenFate → ⊥) → slice_get (slice_set fates x.0 f) u.0 ≡ Some OpenFate → u ≡ x → ⊥
other fates x u f ne o is = not_open fates x.0 f ne (subst (λ (t : TxId). slice_get (slice_set fates x.0 f) t.0 ≡ Some OpenFate) is o)

still_committed : (x : TxId) (d : Database) → AreHeldBy x d → (r : Request) (tx u : TxId) → IsOpen (committed d x).content u → has (blockers d r tx) u ≡ true → has (blockers (committed d x) r tx) u ≡ true
still_committed x d p (Row row s) tx u o e =
    let ne = other d.content.fates x u (Committed (commit_count d.content)) (λ k. cc) o in
    still_against d.held (committed d x).held row tx s u (λ k. holds_left d.held x (lock row u k) ne) e
still_committed x d p (Key k) tx u o e =
    let ne = other d.content.fates x u (Committed (commit_count d.content)) (λ k. cc) o in more_committed d.content x k tx u p.mine (writes_apart d p.all) ne e

still_rolled_back : (x : TxId) (d : Database) → IsOpen d.content x → (r : Request) (tx u : TxId) → IsOpen (rolled_back d x).content u → has (blockers d r tx) u ≡ true
    → has (blockers (rolled_back d x) r tx) u ≡ true
still_rolled_back x d mine (Row row s) tx u o e =
    let ne = other d.content.fates x u RolledBack (λ k. cc) o in still_against d.held (rolled_back d x).held row tx s u (λ k. holds_left d.held x (lock row u k) ne) e
still_rolled_back x d mine (Key k) tx u o e = let ne = other d.content.fates x u RolledBack (λ k. cc) o in more_rolled_back d.content x k tx u mine ne e

still_begun : (db : Database) → AreHeld db → (r : Request) (tx u : TxId) → has (blockers db r tx) u ≡ true → has (blockers (begun db) r tx) u ≡ true
still_begun db rows (Row row s) tx u e = e
still_begun db rows (Key k) tx u e = more_begun db.content k tx u rows.known e

-- what a transaction does adds at most itself, and takes nobody away that is open afterwards
record Mends (x : TxId) (db e : Database) : Type 0 where
  pub adds : Adds x db e
  pub still : (r : Request) (tx u : TxId) → IsOpen e.content u → has (blockers db r tx) u ≡ true → has (blockers e r tx) u ≡ true

-- and while it is at work nobody at all
record MendsBy (x : TxId) (db e : Database) : Type 0 where
  pub adds : AddsBy x db e
  pub still : (r : Request) (tx u : TxId) → has (blockers db r tx) u ≡ true → has (blockers e r tx) u ≡ true

mends_keeps : (x : TxId) (n : ℕ) (db : Database) → Keeps x n (MendsBy x db) (Mends x db)
mends_keeps x n db = record {
  lock = λ d h own may p. record { adds = (adds_keeps x n db).lock d h own may p.adds; still = λ r tx u e. still_locked d h r tx u (p.still r tx u e) };
  insert = λ d w own now new p. record {
    adds = (adds_keeps x n db).insert d w own now new p.adds;
    still = λ r tx u e. still_made d w r tx u (subst (IsOpen d.content) (sym own) p.adds.mine) (p.still r tx u e);
  };
  write = λ d w strength own now enough held p. record {
    adds = (adds_keeps x n db).write d w strength own now enough held p.adds;
    still = λ r tx u e. still_written d w r tx u (subst (IsOpen d.content) (sym own) p.adds.mine) (p.still r tx u e);
  };
  create = λ d made p. record { adds = (adds_keeps x n db).create d made p.adds; still = λ r tx u e. same_rows d (with_table d.catalog made x) r tx u (p.still r tx u e) };
  drop = λ d k p. record { adds = (adds_keeps x n db).drop d k p.adds; still = λ r tx u e. same_rows d (with_drop d.catalog k x) r tx u (p.still r tx u e) };
  commit = λ d p. record { adds = (adds_keeps x n db).commit d p.adds; still = λ r tx u o e. still_committed x d (by_rows p.adds) r tx u o (p.still r tx u e) };
  roll_back = λ d p. record { adds = (adds_keeps x n db).roll_back d p.adds; still = λ r tx u o e. still_rolled_back x d p.adds.mine r tx u o (p.still r tx u e) };
  rest = λ d p. record { adds = (adds_keeps x n db).rest d p.adds; still = λ r tx u o e. p.still r tx u e };
}

mends_start : (db : Database) (tr : Transaction) → ((n : ℕ) → tx_in tr ≡ Some n → slice_get db.content.fates n ≡ Some OpenFate) → AreHeld db → MendsBy (doer db tr) db (start db tr)
mends_start db Closed opened rows = record { adds = adds_start db Closed opened rows; still = λ r tx u e. still_begun db rows r tx u e }
mends_start db Aborted opened rows = record { adds = adds_start db Aborted opened rows; still = λ r tx u e. still_begun db rows r tx u e }
mends_start db (Open t) opened rows = record { adds = adds_start db (Open t) opened rows; still = λ r tx u e. e }

-- ---- an event

-- what an event leaves of who stands in the way
record Mended (x : TxId) (db e : Database) : Type 0 where
  pub stay : (r : Request) (tx u : TxId) → has (blockers db r tx) u ≡ true → IsOpen e.content u → has (blockers e r tx) u ≡ true
  pub come : (r : Request) (tx u : TxId) → has (blockers e r tx) u ≡ true → (has (blockers db r tx) u ≡ true) ⊎ (u ≡ x)

one_or : (x u : TxId) → (u ≡ x) ⊎ (u ≡ x → ⊥)
one_or x u = elim (bool_is (same_tx u x)) [
  | inl y ↦ inl (same_is u x y)
  | inr ne ↦ inr (λ f. not_both (same_tx u x) ne (subst (λ y. same_tx u y ≡ true) f (is_same u)))
] where
  not_both : (b : Bool) → b ≡ false → b ≡ true → ⊥
  not_both true h k = cc
  not_both false h k = cc

mended : (x : TxId) (db e : Database) → Mends x db e → Mended x db e
mended x db e p = record {
  stay = λ r tx u there o. p.still r tx u o there;
  come = λ r tx u there. elim (one_or x u) [
    | inl is ↦ inr is
    | inr ne ↦ inl (p.adds.against r tx u ne there)
  ];
}

mended_next : (given : Blocks) (mode : Mode) (m : Machine) (event : Event) (s : Session) (n : Next) → IsOrderly m → slice_get m.sessions (session_of event) ≡ Some s
    → next given mode m event ≡ Ok n → Mended (doer m.db s.transaction) m.db n.machine.db
mended_next given mode m event s n old at h = subst (λ (y : Machine). Mended x m.db y.db) (sym k.is) (by k.did) where
  x : TxId
  x = doer m.db s.transaction

  k : Moved (MendsBy x m.db) (Mends x m.db) (λ v. Unit {0}) m (session_of event) s n.machine
  k = moved (MendsBy x m.db) (Mends x m.db) (λ v. Unit {0}) given mode m event s n at (mends_keeps x (command_in s.transaction) m.db) (allows_all m.db s.transaction s.statement)
      (mends_start m.db s.transaction (λ q f. old.opened (session_of event) q (ap tx_of at ∙ f)) old.rows) h

  by : Rests m s k.e k.u ⊎ Ran x (command_in s.transaction) (MendsBy x m.db) (Mends x m.db) (λ v. Unit {0}) (around m (session_of event) s).sessions (left_as k.e k.u) → Mended x m.db k.e
  by (inl r) = subst (Mended x m.db) (sym r.same) (record { stay = λ r tx u there o. there; come = λ r tx u there. inl there })
  by (inr r) = mended x m.db k.e r.db

pub doer_at : (db : Database) (tr : Transaction) → doer db tr ≡ (transaction_at db.content tr).tx
doer_at db Closed = refl
doer_at db Aborted = refl
doer_at db (Open t) = refl

-- ---- the law

blocker_open : (db : Database) → AreHeld db → (r : Request) (tx u : TxId) → has (blockers db r tx) u ≡ true → IsOpen db.content u
blocker_open db rows (Row row s) tx u e = let k = (blockers_hold db.held row tx s u).0 e in rows.opened (lock row u k.1.0) k.1.1
blocker_open db rows (Key k) tx u e = blocker_is_open db.content k tx u e

pub blockers_stay_to_their_end : BlockersStayToTheirEnd
blockers_stay_to_their_end = record {
  opened = λ given mode count m reached r tx u there. blocker_open m.db (orderly_there given mode count m reached).rows r tx u there;
  stay = λ given mode count m reached event n h r tx u there o.
      let s = session_there given mode m event n h in
      (mended_next given mode m event s.0 n (orderly_there given mode count m reached) s.1 h).stay r tx u there o;
  come = λ given mode count m reached event n h s at r tx u there.
      subst (λ (x : TxId). (has (blockers m.db r tx) u ≡ true) ⊎ (u ≡ x)) (doer_at m.db s.transaction)
      ((mended_next given mode m event s n (orderly_there given mode count m reached) at h).come r tx u there);
}

-- An event ends no transaction but the one that does it, and that is open afterwards exactly where its session is in it.
use Rattle.std.proofs.Common.{◌≡◌, ◌↔◌, refl, sym, ◌∙◌, ap, subst, ◌⊎◌, inl, inr, ℕ, ◌<◌, List, [], ◌∷◌, length, length-set, set, arith}
use Rattle.std.specs.Prelude.{Some, slice_get, Ok}
use Rattle.std.proofs.lemmas.Option.{same_Some, slice_get_within}
use Rattle.row_versions.specs.declared.names.TxId.{TxId}
use Rattle.row_versions.specs.declared.write.Fate.{Fate}
use Rattle.row_versions.specs.declared.write.Fate.TheVariants.{RolledBack, Committed, Open as OpenFate}
use Rattle.row_versions.specs.Log.{IsOpen, commit_count, next_tx}
use Rattle.session_laws.proofs.Lists.{slice_get-append_left, slice_get-set_other, slice_get-set_same}
use Rattle.session_machine.specs.declared.session.OpenTransaction.{OpenTransaction}
use Rattle.session_machine.specs.declared.session.Session.{Session}
use Rattle.session_machine.specs.declared.session.Transaction.{Transaction}
use Rattle.session_machine.specs.declared.session.Transaction.TheVariants.{Closed, Open, Aborted}
use Rattle.session_machine.specs.declared.event.Event.{Event}
use Rattle.session_machine.specs.declared.event.Mode.{Mode}
use Rattle.session_machine.specs.Tables.{Database}
use Rattle.session_machine.specs.Inner.Steps.{around}
use Rattle.session_machine.specs.Machine.{Machine, Blocks, Next, next, session_of}
use Rattle.session_machine.specs.Sound.{command_in, tx_in, tx_of}
use Rattle.wait_laws.specs.Laws.{TransactionsEndThemselves, doer_of}
use Rattle.wait_laws.proofs.Doing.{Keeps, Ran, doer, start}
use Rattle.wait_laws.proofs.Cycles.{IsOrderly, allows_all, orderly_next, orderly_there}
use Rattle.wait_laws.proofs.Events.{Moved, Rests, left_as, moved}
use Rattle.wait_laws.proofs.Mending.{doer_at}

-- all others stay open
abbrev StayOpen : TxId → Database → Database → Type 0
StayOpen x db e = (u : TxId) → (u ≡ x → ⊥) → IsOpen db.content u → IsOpen e.content u

tx_is : (u x : TxId) → u.0 ≡ x.0 → u ≡ x
tx_is u x h = ap (λ (n : ℕ). let t : TxId = record { 0 = n } in t) h

still_open : (fates : List Fate) (x u : TxId) (f : Fate) → (u ≡ x → ⊥) → slice_get fates u.0 ≡ Some OpenFate → slice_get (set fates x.0 f) u.0 ≡ Some OpenFate
still_open fates x u f ne o = slice_get-set_other fates x.0 u.0 f (λ e. ne (tx_is u x e)) ∙ o

open_keeps : (x : TxId) (n : ℕ) (db : Database) → Keeps x n (StayOpen x db) (StayOpen x db)
open_keeps x n db = record {
  lock = λ d h own may p. p;
  insert = λ d w own now new p. p;
  write = λ d w strength own now enough held p. p;
  create = λ d made p. p;
  drop = λ d k p. p;
  commit = λ d p u ne o. still_open d.content.fates x u (Committed (commit_count d.content)) ne (p u ne o);
  roll_back = λ d p u ne o. still_open d.content.fates x u RolledBack ne (p u ne o);
  rest = λ d p. p;
}

open_start : (db : Database) (tr : Transaction) → StayOpen (doer db tr) db (start db tr)
open_start db Closed u ne o = slice_get-append_left db.content.fates (OpenFate ∷ []) u.0 OpenFate o
open_start db Aborted u ne o = slice_get-append_left db.content.fates (OpenFate ∷ []) u.0 OpenFate o
open_start db (Open t) u ne o = o

-- one that would begin now isn't open yet
next_not : (db : Database) → IsOpen db.content (next_tx db.content) → ⊥
next_not db o = let below : length db.content.fates < length db.content.fates = slice_get_within db.content.fates (length db.content.fates) OpenFate o in omega arith

was_open : (db : Database) (tr : Transaction) → IsOpen db.content (doer db tr) → (t : OpenTransaction) × (tr ≡ Open t)
was_open db Closed o = absurd (next_not db o)
was_open db Aborted o = absurd (next_not db o)
was_open db (Open t) o = (t, refl)

abbrev Its : TxId → Session → Type 0
Its x u = (t : OpenTransaction) × (u.transaction ≡ Open t) × (t.tx ≡ x)

-- what an event leaves open, where the session is this one afterwards
record Leaves (x : TxId) (db e : Database) (u : Session) : Type 0 where
  pub others : StayOpen x db e
  pub over : IsOpen e.content x → Its x u
  pub one : (t : OpenTransaction) → u.transaction ≡ Open t → t.tx ≡ x

in_or_not : (tr : Transaction) → ((t : OpenTransaction) × (tr ≡ Open t)) ⊎ ((t : OpenTransaction) → tr ≡ Open t → ⊥)
in_or_not Closed = inr (λ t h. cc)
in_or_not Aborted = inr (λ t h. cc)
in_or_not (Open t) = inl (t, refl)

leaves_next : (given : Blocks) (mode : Mode) (m : Machine) (event : Event) (s u : Session) (n : Next) → slice_get m.sessions (session_of event) ≡ Some s
    → slice_get n.machine.sessions (session_of event) ≡ Some u → next given mode m event ≡ Ok n → Leaves (doer m.db s.transaction) m.db n.machine.db u
leaves_next given mode m event s u n at there h = subst (λ (y : Machine). Leaves x m.db y.db u) (sym k.is) (subst (Leaves x m.db k.e) (sym same) (by k.did)) where
  i : ℕ
  i = session_of event

  x : TxId
  x = doer m.db s.transaction

  k : Moved (StayOpen x m.db) (StayOpen x m.db) (λ v. Unit {0}) m i s n.machine
  k = moved (StayOpen x m.db) (StayOpen x m.db) (λ v. Unit {0}) given mode m event s n at (open_keeps x (command_in s.transaction) m.db) (allows_all m.db s.transaction s.statement)
      (open_start m.db s.transaction) h

  same : u ≡ k.u
  same = same_Some u k.u (sym (subst (λ (y : Machine). slice_get y.sessions i ≡ Some u) k.is there) ∙ slice_get-set_same m.sessions i k.u (slice_get_within m.sessions i s at))

  by : Rests m s k.e k.u ⊎ Ran x (command_in s.transaction) (StayOpen x m.db) (StayOpen x m.db) (λ v. Unit {0}) (around m i s).sessions (left_as k.e k.u) → Leaves x m.db k.e k.u
  by (inl r) = record {
    others = λ v ne o. subst (λ (y : Database). IsOpen y.content v) (sym r.same) o;
    over = λ o.
        let w = was_open m.db s.transaction (subst (λ (y : Database). IsOpen y.content x) r.same o) in
        (w.0, r.stays w.0 w.1, sym (ap (doer m.db) w.1));
    one = λ t f. sym (ap (doer m.db) (r.its t f));
  }
  by (inr r) = record {
    others = r.db;
    over = λ o. elim (in_or_not k.u.transaction) [
      | inl w ↦ (w.0, w.1, (r.own w.0 w.1).0)
      | inr shut ↦ absurd (r.over shut o)
    ];
    one = λ t f. (r.own t f).0;
  }

-- the session is there afterwards, and all others
pub after_there : (given : Blocks) (mode : Mode) (m : Machine) (event : Event) (s : Session) (n : Next) → slice_get m.sessions (session_of event) ≡ Some s → next given mode m event ≡ Ok n
    → (u : Session) × (slice_get n.machine.sessions (session_of event) ≡ Some u) × (length n.machine.sessions ≡ length m.sessions)
after_there given mode m event s n at h =
    let x = doer m.db s.transaction in
    let k = moved (StayOpen x m.db) (StayOpen x m.db) (λ v. Unit {0}) given mode m event s n at (open_keeps x (command_in s.transaction) m.db) (allows_all m.db s.transaction s.statement)
    (open_start m.db s.transaction) h in (
      k.u,
      ap (λ (y : Machine). slice_get y.sessions (session_of event)) k.is ∙ slice_get-set_same m.sessions (session_of event) k.u (slice_get_within m.sessions (session_of event) s at),
      ap (λ (y : Machine). length y.sessions) k.is ∙ length-set m.sessions (session_of event) k.u,
    )

-- the transaction that does an event is open before it only where the session is in it
pub opened_before : (m : Machine) (s : Session) → IsOpen m.db.content (doer_of m s) → (t : OpenTransaction) × (s.transaction ≡ Open t)
opened_before m s o = was_open m.db s.transaction (subst (IsOpen m.db.content) (sym (doer_at m.db s.transaction)) o)

still : (event : Event) (u : Session) (after : Machine) → IsOrderly after → slice_get after.sessions (session_of event) ≡ Some u → (x : TxId) → Its x u → IsOpen after.db.content x
still event u after sound there x w =
    subst (IsOpen after.db.content) w.2 (sound.opened (session_of event) w.0.tx.0 (ap tx_of there ∙ ap tx_in w.1))

pub transactions_end_themselves : TransactionsEndThemselves
transactions_end_themselves = record {
  others = λ given mode count m reached event n h s at.
      let u = after_there given mode m event s n at h in
      subst (λ (x : TxId). StayOpen x m.db n.machine.db) (doer_at m.db s.transaction) (leaves_next given mode m event s u.0 n at u.1 h).others;
  stays = λ given mode count m reached event n h s u at there.
      let sound = orderly_next given mode m event n (orderly_there given mode count m reached) h in
      subst (λ (x : TxId). IsOpen n.machine.db.content x ↔ Its x u) (doer_at m.db s.transaction)
      ((leaves_next given mode m event s u n at there h).over, λ w. still event u n.machine sound there (doer m.db s.transaction) w);
  one = λ given mode count m reached event n h s u at there t f. (leaves_next given mode m event s u n at there h).one t f ∙ doer_at m.db s.transaction;
}

-- What an open transaction wrote is held by it, so that nobody else writes it: what holds of the locks and writes while a transaction is at work.
use Rattle.std.proofs.Common.{◌≡◌, refl, sym, ◌∙◌, ap, subst, ◌⊎◌, inl, inr, ⊎_elim, Bool, true, false, ◌||◌, ◌&&◌, ◌==◌, not, cond, ℕ, zero, suc, ◌<◌, ◌≤◌, List, [], ◌∷◌, length, length-append, length-set, set, arith}
use Rattle.std.specs.Prelude.{Option, Some, slice_get}
use Rattle.std.proofs.lemmas.Bool.{cases_eq}
use Rattle.std.proofs.lemmas.Option.{slice_get_within}
use Rattle.sql_trees.specs.declared.stmt.Strength.{Strength}
use Rattle.sql_trees.specs.declared.stmt.Strength.TheVariants.{KeyShare, Share, NoKeyUpdate, Update}
use Rattle.sql_values.specs.declared.value.Value.{Value}
use Rattle.row_versions.specs.declared.names.TxId.{TxId}
use Rattle.row_versions.specs.declared.names.RowId.{RowId}
use Rattle.row_versions.specs.declared.write.Write.{Write}
use Rattle.row_versions.specs.declared.write.Fate.{Fate}
use Rattle.row_versions.specs.declared.write.Fate.TheVariants.{RolledBack, Committed, Open as OpenFate}
use Rattle.row_versions.specs.Log.{IsOpen, commit_count, new_row, after_write}
use Rattle.row_versions.proofs.Gets.{get-append_left, get-append_last}
use Rattle.row_locks.specs.declared.held.Held.{Held}
use Rattle.row_versions.specs.Members.{has, same_tx, is_none_of}
use Rattle.row_locks.specs.Held.{conflicts, holders_against, holds, released, same_lock, same_strength, with_lock}
use Rattle.row_locks.proofs.Holding.{blockers_hold, conflicts_both_ways, ends_let_go, released as released_holds}
use Rattle.row_locks.proofs.Cases.{bool_is, or_cases, or_left, or_right, and_both, same_is}
use Rattle.session_machine.specs.declared.session.Transaction.{Transaction}
use Rattle.session_machine.specs.declared.session.Transaction.TheVariants.{Closed, Open, Aborted}
use Rattle.session_machine.specs.Tables.{Database}
use Rattle.session_machine.specs.Inner.Statements.{begun}
use Rattle.session_machine.specs.Sound.{tx_in}
use Rattle.session_laws.proofs.Lists.{slice_get-set_other}
use Rattle.wait_laws.specs.Laws.{lets_write, lock_of_write}
use Rattle.wait_laws.proofs.Lists.{get_more, holds_before, holds_last, holds_more, holds_released}
use Rattle.wait_laws.proofs.Doing.{Keeps, MayTake, doer, start}
use Rattle.wait_laws.proofs.KeyBlockers.{AreApart}

abbrev lock : RowId → TxId → Strength → Held
lock row tx strength = record { row = row; tx = tx; strength = strength }

-- a write's transaction holds its row: so strongly that it may write it, and at Update where this place of the log, which is the write's, names the row
pub record IsHeldFor (held : List Held) (place : ℕ) (w : Write) : Type 0 where
  pub strength : Strength
  pub locked : holds held (lock_of_write strength w) ≡ true
  pub enough : lets_write strength w.values ≡ true
  pub inserted : w.row.0 ≡ place → strength ≡ Update

-- each write is of a transaction that has begun, and that holds its row while it is open; what is written and locked is in the log; who holds a row is open; and no two hold
-- one in conflict
pub record AreHeld (db : Database) : Type 0 where
  pub known : (place : ℕ) (w : Write) → slice_get db.content.log place ≡ Some w → w.tx.0 < length db.content.fates
  pub held : (place : ℕ) (w : Write) → slice_get db.content.log place ≡ Some w → IsOpen db.content w.tx → IsHeldFor db.held place w
  pub rows : (place : ℕ) (w : Write) → slice_get db.content.log place ≡ Some w → w.row.0 < length db.content.log
  pub locks : (h : Held) → holds db.held h ≡ true → h.row.0 < length db.content.log
  pub opened : (h : Held) → holds db.held h ≡ true → IsOpen db.content h.tx
  pub apart : (row : RowId) (a b : TxId) (s t : Strength) → (a ≡ b → ⊥) → holds db.held (lock row a s) ≡ true → holds db.held (lock row b t) ≡ true → conflicts s t ≡ false

-- while a transaction is at work it is open
pub record AreHeldBy (x : TxId) (db : Database) : Type 0 where
  pub mine : IsOpen db.content x
  pub all : AreHeld db

pub begun_by : (x : TxId) (db : Database) → AreHeldBy x db → x.0 < length db.content.fates
begun_by x db p = slice_get_within db.content.fates x.0 OpenFate p.mine

-- strengths at which a row may be written conflict
writers_conflict : (s t : Strength) (v w : Option (List Value)) → lets_write s v ≡ true → lets_write t w ≡ true → conflicts s t ≡ true
writers_conflict Update Update v w h k = refl
writers_conflict Update NoKeyUpdate v w h k = refl
writers_conflict NoKeyUpdate Update v w h k = refl
writers_conflict NoKeyUpdate NoKeyUpdate v w h k = refl
writers_conflict Update Share v w h k = cc
writers_conflict Update KeyShare v w h k = cc
writers_conflict NoKeyUpdate Share v w h k = cc
writers_conflict NoKeyUpdate KeyShare v w h k = cc
writers_conflict Share t v w h k = cc
writers_conflict KeyShare t v w h k = cc

-- no two open transactions wrote one row
pub writes_apart : (db : Database) → AreHeld db → AreApart db.content
writes_apart db p i j v w at there v_open w_open row = ⊎_elim (λ e. let mk : ℕ → TxId = λ n. record { 0 = n } in ap mk e) (λ ne. absurd (never (sym both ∙ apart ne))) (cases_eq v.tx.0 w.tx.0) where
  mk : ℕ → RowId
  mk n = record { 0 = n }

  never : true ≡ false → ⊥
  never h = cc

  one : IsHeldFor db.held i v
  one = p.held i v at v_open

  other : IsHeldFor db.held j w
  other = p.held j w there w_open

  both : conflicts one.strength other.strength ≡ true
  both = writers_conflict one.strength other.strength v.values w.values one.enough other.enough

  apart : (v.tx.0 ≡ w.tx.0 → ⊥) → conflicts one.strength other.strength ≡ false
  apart ne =
      p.apart v.row v.tx w.tx one.strength other.strength (λ e. ne (ap (λ (t : TxId). t.0) e)) one.locked
      (subst (λ (r : RowId). holds db.held (lock r w.tx other.strength) ≡ true) (sym (ap mk row)) other.locked)

-- a transaction that ends isn't open
pub not_open : (fs : List Fate) (i : ℕ) (f : Fate) → (f ≡ OpenFate → ⊥) → slice_get (set fs i f) i ≡ Some OpenFate → ⊥
not_open [] i f ne h = cc
not_open (y ∷ ys) zero f ne h = ne (same f h) where
  same : (g : Fate) → Some g ≡ Some OpenFate → g ≡ OpenFate
  same g k = cc
not_open (y ∷ ys) (suc i) f ne h = not_open ys i f ne h

-- what others hold stays
pub holds_left : (held : List Held) (x : TxId) (h : Held) → (h.tx ≡ x → ⊥) → holds held h ≡ true → holds (released x held) h ≡ true
holds_left [] x h ne e = cc
holds_left (g ∷ held) x h ne e = at (holds_left held x h ne) (bool_is (same_tx g.tx x)) (or_cases (same_lock g h) (holds held h) e) where
  kept : (b : Bool) → same_tx g.tx x ≡ b → b ≡ false → (same_lock g h || holds (released x held) h) ≡ true → holds (released x (g ∷ held)) h ≡ true
  kept b f n k = subst (λ v. holds (cond (not v) (g ∷ released x held) (released x held)) h ≡ true) (sym (f ∙ n)) k

  gone : same_tx g.tx x ≡ true → holds (released x held) h ≡ true → holds (released x (g ∷ held)) h ≡ true
  gone f k = subst (λ v. holds (cond (not v) (g ∷ released x held) (released x held)) h ≡ true) (sym f) k

  not_its : same_lock g h ≡ true → same_tx g.tx x ≡ true → ⊥
  not_its k f =
      let p = and_both ((g.row.0 == h.row.0) && same_tx g.tx h.tx) (same_strength g.strength h.strength) k in
      let q = and_both (g.row.0 == h.row.0) (same_tx g.tx h.tx) p.0 in
      ne (sym (same_is g.tx h.tx q.1) ∙ same_is g.tx x f)

  at : (holds held h ≡ true → holds (released x held) h ≡ true) → (same_tx g.tx x ≡ true) ⊎ (same_tx g.tx x ≡ false) → (same_lock g h ≡ true) ⊎ (holds held h ≡ true)
      → holds (released x (g ∷ held)) h ≡ true
  at on (inl f) (inl k) = absurd (not_its k f)
  at on (inl f) (inr k) = gone f (on k)
  at on (inr f) (inl k) = kept false f refl (or_left (same_lock g h) (holds (released x held) h) k)
  at on (inr f) (inr k) = kept false f refl (or_right (same_lock g h) (holds (released x held) h) (on k))

-- and of the transaction itself nothing is held
released_not : (held : List Held) (x : TxId) (h : Held) → h.tx ≡ x → holds (released x held) h ≡ true → ⊥
released_not held x h is e = never (sym ((ends_let_go held (released x held) x (released_holds held x)).0 h is) ∙ e) where
  never : false ≡ true → ⊥
  never k = cc

-- a row is held for its write where what the write's transaction holds of it stays
still_held : (held others : List Held) (place : ℕ) (w : Write) → ((s : Strength) → holds held (lock_of_write s w) ≡ true → holds others (lock_of_write s w) ≡ true)
    → IsHeldFor held place w → IsHeldFor others place w
still_held held others place w stays h = record { strength = h.strength; locked = stays h.strength h.locked; enough = h.enough; inserted = h.inserted }

held_ends : (x : TxId) (d : Database) (f : Fate) → (f ≡ OpenFate → ⊥) → AreHeld d
    → AreHeld (record d { content = record { log = d.content.log; fates = set d.content.fates x.0 f }; held = released x d.held })
held_ends x d f ne h = record {
  known = λ place w at. rw length-set (h.known place w at);
  held = λ place w at is.
      ⊎_elim
      (λ e. absurd (not_open d.content.fates x.0 f ne (subst (λ n. slice_get (set d.content.fates x.0 f) n ≡ Some OpenFate) e is)))
      (λ other. still_held d.held (released x d.held) place w (λ s. holds_left d.held x (lock_of_write s w) (λ e. other (ap (λ (t : TxId). t.0) e)))
      (h.held place w at (sym (slice_get-set_other d.content.fates x.0 w.tx.0 f other) ∙ is)))
      (cases_eq w.tx.0 x.0);
  rows = h.rows;
  locks = λ l e. h.locks l (holds_released d.held x l e);
  opened = λ l e.
      let other : l.tx.0 ≡ x.0 → ⊥ = λ f. let mk : ℕ → TxId = λ n. record { 0 = n } in released_not d.held x l (ap mk f) e in
      slice_get-set_other d.content.fates x.0 l.tx.0 f other ∙ h.opened l (holds_released d.held x l e);
  apart = λ row a b s t ne e k. h.apart row a b s t ne (holds_released d.held x (lock row a s) e) (holds_released d.held x (lock row b t) k);
}

none_has : (bs : List TxId) (u : TxId) → is_none_of bs ≡ true → has bs u ≡ true → ⊥
none_has [] u h k = cc
none_has (b ∷ bs) u h k = cc

-- who takes a lock that nobody stands against is in conflict with nobody
free_apart : (held : List Held) (row : RowId) (a b : TxId) (s t : Strength) → (a ≡ b → ⊥) → is_none_of (holders_against held row a s) ≡ true → holds held (lock row b t) ≡ true → conflicts t s ≡ false
free_apart held row a b s t ne free e = elim (bool_is (conflicts t s)) [
  | inl k ↦ absurd (none_has (holders_against held row a s) b free ((blockers_hold held row a s b).1 ((λ f. ne (sym f)), (t, e, k))))
  | inr k ↦ k
]

-- the locks are apart with one more that nobody of the others conflicts with
apart_more : (held : List Held) (l : Held) → ((b : TxId) (t : Strength) → (l.tx ≡ b → ⊥) → holds held (lock l.row b t) ≡ true → conflicts t l.strength ≡ false)
    → ((row : RowId) (a b : TxId) (s t : Strength) → (a ≡ b → ⊥) → holds held (lock row a s) ≡ true → holds held (lock row b t) ≡ true → conflicts s t ≡ false)
    → (row : RowId) (a b : TxId) (s t : Strength) → (a ≡ b → ⊥) → holds (with_lock held l) (lock row a s) ≡ true → holds (with_lock held l) (lock row b t) ≡ true → conflicts s t ≡ false
apart_more held l free old row a b s t ne e k = by (holds_more held l (lock row a s) e) (holds_more held l (lock row b t) k) where
  first : (c : TxId) (r : Strength) → (a ≡ c → ⊥) → l ≡ lock row a s → holds held (lock row c r) ≡ true → conflicts r s ≡ false
  first c r nc is f =
      subst (λ (g : Held). conflicts r g.strength ≡ false) is
      (free c r (λ m. nc (sym (ap (λ (g : Held). g.tx) is) ∙ m)) (subst (λ (y : RowId). holds held (lock y c r) ≡ true) (sym (ap (λ (g : Held). g.row) is)) f))

  second : l ≡ lock row b t → holds held (lock row a s) ≡ true → conflicts s t ≡ false
  second is f =
      subst (λ (g : Held). conflicts s g.strength ≡ false) is
      (free a s (λ m. ne (sym m ∙ ap (λ (g : Held). g.tx) is)) (subst (λ (y : RowId). holds held (lock y a s) ≡ true) (sym (ap (λ (g : Held). g.row) is)) f))

  by : (holds held (lock row a s) ≡ true) ⊎ (l ≡ lock row a s) → (holds held (lock row b t) ≡ true) ⊎ (l ≡ lock row b t) → conflicts s t ≡ false
  by (inl f) (inl g) = old row a b s t ne f g
  by (inr f) (inl g) = conflicts_both_ways s t ∙ first b t ne f g
  by (inl f) (inr g) = second g f
  by (inr f) (inr g) = absurd (ne (sym (ap (λ (h : Held). h.tx) f) ∙ ap (λ (h : Held). h.tx) g))

held_lock : (x : TxId) (d : Database) (h : Held) → h.tx ≡ x → MayTake d h → AreHeldBy x d → AreHeldBy x (record d { held = with_lock d.held h })
held_lock x d h own may p = record {
  mine = p.mine;
  all = record {
    known = p.all.known;
    held = λ place w at is. still_held d.held (with_lock d.held h) place w (λ s. holds_before d.held h (lock_of_write s w)) (p.all.held place w at is);
    rows = p.all.rows;
    locks = λ l e. ⊎_elim (p.all.locks l) (λ is. let a = p.all.rows may.place may.write may.there in let b = may.its in
        let c : h.row.0 ≡ l.row.0 = ap (λ (g : Held). g.row.0) is in omega arith) (holds_more d.held h l e);
    opened = λ l e. ⊎_elim (p.all.opened l) (λ is. subst (IsOpen d.content) (sym own ∙ ap (λ (g : Held). g.tx) is) p.mine) (holds_more d.held h l e);
    apart = apart_more d.held h (λ b t ne e. free_apart d.held h.row h.tx b h.strength t ne may.free e) p.all.apart;
  };
}

-- the transaction writes a row that it holds, among locks of which those that were held before are some
held_wrote : (x : TxId) (d : Database) (w : Write) (locks : List Held) → w.tx ≡ x → IsHeldFor locks (length d.content.log) w
    → ((h : Held) → holds d.held h ≡ true → holds locks h ≡ true) → ((h : Held) → holds locks h ≡ true → h.row.0 ≤ length d.content.log)
    → ((h : Held) → holds locks h ≡ true → IsOpen d.content h.tx)
    → ((row : RowId) (a b : TxId) (s t : Strength) → (a ≡ b → ⊥) → holds locks (lock row a s) ≡ true → holds locks (lock row b t) ≡ true → conflicts s t ≡ false)
    → AreHeldBy x d → AreHeldBy x (record d { content = after_write d.content w; held = locks })
held_wrote x d w locks own its before within opened apart p =
    let long = length-append d.content.log (w ∷ []) in
    record {
      mine = p.mine;
      all = record {
        known = λ place v at. elim (get_more d.content.log w place v at) [
          | inl k ↦ p.all.known place v k
          | inr k ↦ subst (λ (t : TxId). t.0 < length d.content.fates) (sym own ∙ ap (λ (y : Write). y.tx) k.1) (begun_by x d p)
        ];
        held = λ place v at is. elim (get_more d.content.log w place v at) [
          | inl k ↦ still_held d.held locks place v (λ s. before (lock_of_write s v)) (p.all.held place v k is)
          | inr k ↦ subst (λ (y : Write). IsHeldFor locks place y) k.1 (subst (λ n. IsHeldFor locks n w) (sym k.0) its)
        ];
        rows = λ place v at. elim (get_more d.content.log w place v at) [
          | inl k ↦ let l = p.all.rows place v k in omega arith
          | inr k ↦ let l = within (lock_of_write its.strength w) its.locked in let e : w.row.0 ≡ v.row.0 = ap (λ (y : Write). y.row.0) k.1 in omega arith
        ];
        locks = λ h e. let l = within h e in omega arith;
        opened = opened;
        apart = apart;
      };
    }

held_write : (x : TxId) (d : Database) (w : Write) (s : Strength) → w.tx ≡ x → lets_write s w.values ≡ true → holds d.held (lock_of_write s w) ≡ true → AreHeldBy x d
    → AreHeldBy x (record d { content = after_write d.content w })
held_write x d w s own enough locked p = held_wrote x d w d.held own its (λ h e. e) (λ h e. let l = p.all.locks h e in omega arith) p.all.opened p.all.apart p where
  its : IsHeldFor d.held (length d.content.log) w
  its = record {
    strength = s;
    locked = locked;
    enough = enough;
    inserted = λ e. let l = p.all.locks (lock_of_write s w) locked in let z : ⊥ = omega arith in absurd z;
  }

held_insert : (x : TxId) (d : Database) (w : Write) → w.tx ≡ x → w.row ≡ new_row d.content → AreHeldBy x d
    → AreHeldBy x (record d { content = after_write d.content w; held = with_lock d.held (lock_of_write Update w) })
held_insert x d w own made p =
    let new = lock_of_write Update w in
    let last : w.row.0 ≡ length d.content.log = ap (λ (r : RowId). r.0) made in
    held_wrote x d w (with_lock d.held new) own (record { strength = Update; locked = holds_last d.held new; enough = refl; inserted = λ e. refl }) (λ h e. holds_before d.held new h e)
    (λ h e. elim (holds_more d.held new h e) [
      | inl k ↦ let l = p.all.locks h k in omega arith
      | inr k ↦ let f : w.row.0 ≡ h.row.0 = ap (λ (g : Held). g.row.0) k in omega arith
    ])
    (λ h e. ⊎_elim (p.all.opened h) (λ is. subst (IsOpen d.content) (sym own ∙ ap (λ (g : Held). g.tx) is) p.mine) (holds_more d.held new h e))
    (apart_more d.held new (λ b t ne e. let l = p.all.locks (lock w.row b t) e in let z : ⊥ = omega arith in absurd z) p.all.apart) p

pub held_keeps : (x : TxId) (n : ℕ) → Keeps x n (AreHeldBy x) AreHeld
held_keeps x n = record {
  lock = λ d h own may p. held_lock x d h own may p;
  insert = λ d w own now made p. held_insert x d w own made p;
  write = λ d w strength own now enough locked p. held_write x d w strength own enough locked p;
  create = λ d made p. record { mine = p.mine; all = record { known = p.all.known; held = p.all.held; rows = p.all.rows; locks = p.all.locks; opened = p.all.opened; apart = p.all.apart } };
  drop = λ d k p. record { mine = p.mine; all = record { known = p.all.known; held = p.all.held; rows = p.all.rows; locks = p.all.locks; opened = p.all.opened; apart = p.all.apart } };
  commit = λ d p. held_ends x d (Committed (commit_count d.content)) (λ e. cc) p.all;
  roll_back = λ d p. held_ends x d RolledBack (λ e. cc) p.all;
  rest = λ d p. p.all;
}

held_begun : (db : Database) → AreHeld db → AreHeldBy (record { 0 = length db.content.fates }) (begun db)
held_begun db h = record {
  mine = get-append_last db.content.fates OpenFate;
  all = record {
    known = λ place w at. let l = h.known place w at in rw (length-append db.content.fates (OpenFate ∷ [])) (omega arith);
    held = λ place w at is. h.held place w at (sym (get-append_left db.content.fates (OpenFate ∷ []) w.tx.0 (h.known place w at)) ∙ is);
    rows = h.rows;
    locks = h.locks;
    opened = λ l e. let o = h.opened l e in get-append_left db.content.fates (OpenFate ∷ []) l.tx.0 (slice_get_within db.content.fates l.tx.0 OpenFate o) ∙ o;
    apart = h.apart;
  };
}

pub held_start : (db : Database) (tr : Transaction) → ((n : ℕ) → tx_in tr ≡ Some n → slice_get db.content.fates n ≡ Some OpenFate) → AreHeld db → AreHeldBy (doer db tr) (start db tr)
held_start db Closed opened h = held_begun db h
held_start db Aborted opened h = held_begun db h
held_start db (Open t) opened h = record { mine = opened t.tx.0 refl; all = h }

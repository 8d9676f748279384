-- An index that keeps up goes on to do so.
use Rattle.std.proofs.Common.{◌≡◌, refl, ap, subst, Bool, true, false, cond, not, ◌&&◌, ℕ, zero, suc, List, [], ◌∷◌, ◌++◌, set, eq-eqb}
use Rattle.std.specs.Prelude.{is_some, slice_get}
use Rattle.std.specs.List.{list_all}
use Rattle.row_versions.specs.declared.names.TxId.{TxId}
use Rattle.row_versions.specs.declared.write.Write.{Write}
use Rattle.row_versions.specs.declared.write.Fate.{Fate}
use Rattle.row_versions.specs.declared.write.Fate.TheVariants.{Open, RolledBack, Committed}
use Rattle.row_versions.specs.Log.{Content, IsOpen, fate_of, commit_count, empty_content, after_begin, after_commit, after_roll_back, after_write}
use Rattle.unique_keys.specs.declared.noted.Noted.{Noted}
use Rattle.row_versions.specs.Members.{same_tx}
use Rattle.unique_keys.specs.Writes.{noted_of, notes_without}
use Rattle.unique_keys.specs.Laws.{KeepsUp, GoesOnUpToDate}
use Rattle.unique_keys.proofs.Keeping.{keeps_up}

and_left : (a b : Bool) → (a && b) ≡ true → a ≡ true
and_left true b h = refl
and_left false b h = cc

and_right : (a b : Bool) → (a && b) ≡ true → b ≡ true
and_right true b h = h
and_right false b h = cc

and_both : (a b : Bool) → a ≡ true → b ≡ true → (a && b) ≡ true
and_both true b h k = k
and_both false b h k = cc

-- whoever has begun has begun after a further begin
begun-append : (fates more : List Fate) (k : ℕ) → is_some (slice_get fates k) ≡ true → is_some (slice_get (fates ++ more) k) ≡ true
begun-append [] more k h = cc
begun-append (f ∷ fates) more zero h = refl
begun-append (f ∷ fates) more (suc k) h = begun-append fates more k h

-- and after an end
begun-set : (fates : List Fate) (i k : ℕ) (new : Fate) → is_some (slice_get fates k) ≡ true → is_some (slice_get (set fates i new) k) ≡ true
begun-set [] i k new h = h
begun-set (f ∷ fates) zero zero new h = refl
begun-set (f ∷ fates) zero (suc k) new h = h
begun-set (f ∷ fates) (suc i) zero new h = refl
begun-set (f ∷ fates) (suc i) (suc k) new h = begun-set fates i k new h

-- all have begun where each who had begun before has
still_begun : (old new : List Fate) → ((k : ℕ) → is_some (slice_get old k) ≡ true → is_some (slice_get new k) ≡ true) → (log : List Write)
    → list_all (λ w. is_some (fate_of old w.tx)) log ≡ true → list_all (λ w. is_some (fate_of new w.tx)) log ≡ true
still_begun old new step [] h = refl
still_begun old new step (w ∷ log) h =
    and_both (is_some (fate_of new w.tx)) (list_all (λ v. is_some (fate_of new v.tx)) log)
    (step w.tx.0 (and_left (is_some (fate_of old w.tx)) (list_all (λ v. is_some (fate_of old v.tx)) log) h))
    (still_begun old new step log (and_right (is_some (fate_of old w.tx)) (list_all (λ v. is_some (fate_of old v.tx)) log) h))

begun_more : (fates : List Fate) (log : List Write) (w : Write) → list_all (λ v. is_some (fate_of fates v.tx)) log ≡ true → is_some (fate_of fates w.tx) ≡ true
    → list_all (λ v. is_some (fate_of fates v.tx)) (log ++ w ∷ []) ≡ true
begun_more fates [] w h k = and_both (is_some (fate_of fates w.tx)) true k refl
begun_more fates (v ∷ log) w h k =
    and_both (is_some (fate_of fates v.tx)) (list_all (λ u. is_some (fate_of fates u.tx)) (log ++ w ∷ []))
    (and_left (is_some (fate_of fates v.tx)) (list_all (λ u. is_some (fate_of fates u.tx)) log) h)
    (begun_more fates log w (and_right (is_some (fate_of fates v.tx)) (list_all (λ u. is_some (fate_of fates u.tx)) log) h) k)

-- nothing is noted where nothing was written
pub kept_empty : KeepsUp [] empty_content
kept_empty = record { up_to_date = refl; begun = refl }

pub kept_begin : (index : List Noted) (c : Content) → KeepsUp index c → KeepsUp index (after_begin c)
kept_begin index c k = record {
  up_to_date = (keeps_up index c k.up_to_date).begins k.begun;
  begun = still_begun c.fates (c.fates ++ Open ∷ []) (begun-append c.fates (Open ∷ [])) c.log k.begun;
}

pub kept_write : (index : List Noted) (c : Content) (w : Write) → KeepsUp index c → IsOpen c w.tx → KeepsUp (index ++ noted_of w ∷ []) (after_write c w)
kept_write index c w k is_open = record {
  up_to_date = (keeps_up index c k.up_to_date).writes w is_open;
  begun = begun_more c.fates c.log w k.begun (ap is_some is_open);
}

pub kept_commit : (index : List Noted) (c : Content) (tx : TxId) → KeepsUp index c → IsOpen c tx → KeepsUp index (after_commit c tx)
kept_commit index c tx k is_open = record {
  up_to_date = (keeps_up index c k.up_to_date).commits tx is_open;
  begun = still_begun c.fates (set c.fates tx.0 (Committed (commit_count c))) (λ i. begun-set c.fates tx.0 i (Committed (commit_count c))) c.log k.begun;
}

pub kept_roll_back : (index : List Noted) (c : Content) (tx : TxId) → KeepsUp index c → IsOpen c tx → KeepsUp (notes_without tx index) (after_roll_back c tx)
kept_roll_back index c tx k is_open = record {
  up_to_date = (keeps_up index c k.up_to_date).rolls_back tx is_open;
  begun = still_begun c.fates (set c.fates tx.0 RolledBack) (λ i. begun-set c.fates tx.0 i RolledBack) c.log k.begun;
}

-- a last write of the transaction itself leaves nothing either
without_last : (index : List Noted) (w : Noted) → notes_without w.tx (index ++ w ∷ []) ≡ notes_without w.tx index
without_last [] w = ap (λ b. cond (not b) (w ∷ []) []) (eq-eqb w.tx.0 w.tx.0 refl)
without_last (v ∷ index) w = ap (λ vs. cond (not (same_tx v.tx w.tx)) (v ∷ vs) vs) (without_last index w)

-- a write that wasn't noted, and was then rolled back
pub kept_take_back : (index : List Noted) (c : Content) (w : Write) → KeepsUp index c → IsOpen c w.tx → KeepsUp (notes_without w.tx index) (after_roll_back (after_write c w) w.tx)
kept_take_back index c w k is_open =
    subst (λ left. KeepsUp left (after_roll_back (after_write c w) w.tx)) (without_last index (noted_of w))
    (kept_roll_back (index ++ noted_of w ∷ []) (after_write c w) w.tx (kept_write index c w k is_open) is_open)

pub goes_on : (index : List Noted) (c : Content) → KeepsUp index c → GoesOnUpToDate index c
goes_on index c k = record {
  begins = kept_begin index c k;
  writes = λ w is_open. kept_write index c w k is_open;
  commits = λ tx is_open. kept_commit index c tx k is_open;
  rolls_back = λ tx is_open. kept_roll_back index c tx k is_open;
  takes_back = λ w is_open. kept_take_back index c w k is_open;
}

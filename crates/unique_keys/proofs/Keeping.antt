-- What stands in the log, before and after.
use Rattle.std.proofs.Common.{◌≡◌, refl, sym, ◌∙◌, ap, Bool, true, false, cond, not, ◌||◌, ◌&&◌, ℕ, zero, suc, List, [], ◌∷◌, ◌++◌, map, filter, set, eqb-true, eq-eqb}
use Rattle.std.specs.Prelude.{Option, Some, is_some, slice_get}
use Rattle.std.specs.List.{list_all}
use Rattle.std.proofs.lemmas.Bool.{eqb-false}
use Rattle.std.proofs.lemmas.List.{map-append}
use Rattle.std.proofs.lemmas.List.Elements.{filter-append, filter_agree}
use Rattle.row_versions.specs.declared.names.TxId.{TxId}
use Rattle.row_versions.specs.declared.write.Write.{Write}
use Rattle.row_versions.specs.declared.write.Fate.{Fate}
use Rattle.row_versions.specs.declared.write.Fate.TheVariants.{Open, RolledBack, Committed}
use Rattle.row_versions.specs.Log.{Content, IsOpen, fate_of, commit_count, is_open_fate}
use Rattle.row_versions.specs.Inner.Searching.{is_committed}
use Rattle.unique_keys.specs.declared.noted.Noted.{Noted}
use Rattle.row_versions.specs.Members.{same_tx}
use Rattle.unique_keys.specs.Writes.{noted_of, writes, stands, notes_without, IsUpToDate}
use Rattle.unique_keys.specs.Laws.{StaysUpToDate}
use Rattle.unique_keys.proofs.Filtered.{filter-filter}

get-set_same : (fates : List Fate) (k : ℕ) (old new : Fate) → slice_get fates k ≡ Some old → slice_get (set fates k new) k ≡ Some new
get-set_same [] k old new e = cc
get-set_same (f ∷ fates) zero old new e = refl
get-set_same (f ∷ fates) (suc k) old new e = get-set_same fates k old new e

get-set_other : (fates : List Fate) (i k : ℕ) (new : Fate) → (k ≡ i → ⊥) → slice_get (set fates i new) k ≡ slice_get fates k
get-set_other [] i k new n = refl
get-set_other (f ∷ fates) zero zero new n = absurd (n refl)
get-set_other (f ∷ fates) zero (suc k) new n = refl
get-set_other (f ∷ fates) (suc i) zero new n = refl
get-set_other (f ∷ fates) (suc i) (suc k) new n = get-set_other fates i k new (λ e. n (ap suc e))

get_some-append : (fates more : List Fate) (k : ℕ) → is_some (slice_get fates k) ≡ true → slice_get (fates ++ more) k ≡ slice_get fates k
get_some-append [] more k h = cc
get_some-append (f ∷ fates) more zero h = refl
get_some-append (f ∷ fates) more (suc k) h = get_some-append fates more k h

and_left : (a b : Bool) → (a && b) ≡ true → a ≡ true
and_left true b h = refl
and_left false b h = cc

and_right : (a b : Bool) → (a && b) ≡ true → b ≡ true
and_right true b h = h
and_right false b h = cc

-- a write of a transaction with this fate stands
abbrev fate_stands : Option Fate → Bool
fate_stands f = is_open_fate f || is_committed f

-- a write of the ended transaction stands by its fate, and the others as before
ended : (fates : List Fate) (tx : TxId) (new : Fate) → fate_of fates tx ≡ Some Open → (w : Noted) → stands (set fates tx.0 new) w ≡ cond (same_tx w.tx tx) (fate_stands (Some new)) (stands fates w)
ended fates tx new e w = step (same_tx w.tx tx) refl where
  step : (b : Bool) → same_tx w.tx tx ≡ b → fate_stands (slice_get (set fates tx.0 new) w.tx.0) ≡ cond b (fate_stands (Some new)) (stands fates w)
  step true k = ap (λ i. fate_stands (slice_get (set fates tx.0 new) i)) (eqb-true w.tx.0 tx.0 k) ∙ ap fate_stands (get-set_same fates tx.0 Open new e)
  step false k = ap fate_stands (get-set_other fates tx.0 w.tx.0 new (eqb-false w.tx.0 tx.0 k))

own_stands : (fates : List Fate) (tx : TxId) → fate_of fates tx ≡ Some Open → (w : Noted) → same_tx w.tx tx ≡ true → stands fates w ≡ true
own_stands fates tx e w k = ap (λ i. fate_stands (slice_get fates i)) (eqb-true w.tx.0 tx.0 k) ∙ ap fate_stands e

committed_same : (fates : List Fate) (tx : TxId) (number : ℕ) → fate_of fates tx ≡ Some Open → (w : Noted) → stands (set fates tx.0 (Committed number)) w ≡ stands fates w
committed_same fates tx number e w = ended fates tx (Committed number) e w ∙ step (same_tx w.tx tx) refl where
  step : (b : Bool) → same_tx w.tx tx ≡ b → cond b true (stands fates w) ≡ stands fates w
  step true k = sym (own_stands fates tx e w k)
  step false k = refl

begun_same : (fates : List Fate) (log : List Write) → list_all (λ w. is_some (fate_of fates w.tx)) log ≡ true
    → filter (stands (fates ++ Open ∷ [])) (map noted_of log) ≡ filter (stands fates) (map noted_of log)
begun_same fates [] h = refl
begun_same fates (w ∷ log) h =
    let first : stands (fates ++ Open ∷ []) (noted_of w) ≡ stands fates (noted_of w) =
    ap fate_stands (get_some-append fates (Open ∷ []) w.tx.0 (and_left (is_some (fate_of fates w.tx)) (list_all (λ v. is_some (fate_of fates v.tx)) log) h)) in
    ap (λ v. cond v (noted_of w ∷ filter (stands (fates ++ Open ∷ [])) (map noted_of log)) (filter (stands (fates ++ Open ∷ [])) (map noted_of log))) first
    ∙ ap (λ v. cond (stands fates (noted_of w)) (noted_of w ∷ v) v) (begun_same fates log (and_right (is_some (fate_of fates w.tx)) (list_all (λ v. is_some (fate_of fates v.tx)) log) h))

pub keeps_up : (index : List Noted) (c : Content) → IsUpToDate index c → StaysUpToDate index c
keeps_up index c up = record {
  begins = λ h. up ∙ sym (begun_same c.fates c.log h);
  writes = λ w is_open. ap (λ v. v ++ noted_of w ∷ []) up
      ∙ ap (λ b. filter (stands c.fates) (writes c) ++ cond b (noted_of w ∷ []) []) (sym (own_stands c.fates w.tx is_open (noted_of w) (same w.tx)))
      ∙ sym (ap (λ v. filter (stands c.fates) v) (map-append noted_of c.log (w ∷ [])) ∙ filter-append (stands c.fates) (writes c) (noted_of w ∷ []));
  commits = λ tx is_open. up ∙ sym (filter_agree (stands (set c.fates tx.0 (Committed (commit_count c)))) (stands c.fates) (committed_same c.fates tx (commit_count c) is_open) (writes c));
  rolls_back = λ tx is_open. ap (notes_without tx) up
      ∙ filter-filter (stands c.fates) (λ w. not (same_tx w.tx tx)) (stands (set c.fates tx.0 RolledBack)) (left_same tx is_open) (left_stands tx is_open) (writes c);
} where
  same : (tx : TxId) → same_tx tx tx ≡ true
  same tx = eq-eqb tx.0 tx.0 refl

  left_same : (tx : TxId) → IsOpen c tx → (w : Noted) → stands c.fates w ≡ true → not (same_tx w.tx tx) ≡ stands (set c.fates tx.0 RolledBack) w
  left_same tx e w s = step (same_tx w.tx tx) ∙ sym (ended c.fates tx RolledBack e w) where
    step : (b : Bool) → not b ≡ cond b false (stands c.fates w)
    step true = refl
    step false = sym s

  left_stands : (tx : TxId) → IsOpen c tx → (w : Noted) → stands (set c.fates tx.0 RolledBack) w ≡ true → stands c.fates w ≡ true
  left_stands tx e w s = step (same_tx w.tx tx) (sym (ended c.fates tx RolledBack e w) ∙ s) where
    step : (b : Bool) → cond b false (stands c.fates w) ≡ true → stands c.fates w ≡ true
    step true k = cc
    step false k = k

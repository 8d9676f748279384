-- What a view sees after one more step.
use Rattle.std.proofs.Common.{◌≡◌, ◌≢◌, ℕ, zero, suc, ◌+◌, ◌<◌, ◌≤◌, true, false, ◌||◌, List, [], ◌∷◌, ◌++◌, set, Option, Some, None, slice_get, get_or, count_by, refl, sym, ◌∙◌, ap, arith, cond}
use Rattle.std.proofs.lemmas.Bool.{or_from, or_left, and_left, and_from, eq-eqb, ne_eqb, le-ltb, lt-ltb, or_right}
use Rattle.std.proofs.lemmas.List.Sums.{sum_by-set}
use Rattle.std.proofs.lemmas.Option.{slice_get_within, get_or_from_slice_get}
use Rattle.row_versions.specs.declared.names.TxId.{TxId}
use Rattle.row_versions.specs.declared.names.RowId.{RowId}
use Rattle.row_versions.specs.declared.names.TableId.{TableId}
use Rattle.row_versions.specs.declared.write.Write.{Write}
use Rattle.row_versions.specs.declared.write.View.{View}
use Rattle.row_versions.specs.declared.write.Fate.{Fate}
use Rattle.row_versions.specs.declared.write.Fate.TheVariants.{Open, RolledBack, Committed}
use Rattle.row_versions.specs.Log.{Content, IsOpen, fate_of, is_commit, commit_count, after_begin, after_commit, after_roll_back}
use Rattle.row_versions.specs.View.{sees, committed_before}
use Rattle.row_versions.specs.Inner.Searching.{own_before}
use Rattle.row_versions.proofs.Gets.{get-set_same}

pub same_tx : (a b : TxId) → a.0 ≡ b.0 → a ≡ b
same_tx a b e = λ i. record { 0 = e i }

pub same_row : (a b : RowId) → a.0 ≡ b.0 → a ≡ b
same_row a b e = λ i. record { 0 = e i }

pub same_table : (a b : TableId) → a.0 ≡ b.0 → a ≡ b
same_table a b e = λ i. record { 0 = e i }

-- a write of another transaction is not the view's own
pub own_of_other : (tx : Option TxId) (command : ℕ) (w : Write) → tx ≢ Some w.tx → own_before tx command w ≡ false
own_of_other None command w other = refl
own_of_other (Some t) command w other = and_left _ _ (ne_eqb w.tx.0 t.0 (λ e. other (ap Some (same_tx t w.tx (sym e)))))

-- a write of another transaction that has not committed is not seen
pub other_unseen : (fates : List Fate) (view : View) (w : Write) (fate : Fate) → fate_of fates w.tx ≡ Some fate → committed_before view.commits (Some fate) ≡ false
    → view.tx ≢ Some w.tx → sees fates view w ≡ false
other_unseen fates view w fate is not_yet other = or_from _ _ (ap (committed_before view.commits) is ∙ not_yet) (own_of_other view.tx view.command w other)

-- the view's own earlier write is seen
own_is : (tx : Option TxId) (command : ℕ) (w : Write) → tx ≡ Some w.tx → w.command < command → own_before tx command w ≡ true
own_is None command w e l = cc
own_is (Some t) command w e l = let same : t ≡ w.tx = cc in and_from _ _ (eq-eqb w.tx.0 t.0 (ap (λ (x : TxId). x.0) (sym same))) (lt-ltb _ _ l)

pub own_seen : (fates : List Fate) (view : View) (w : Write) → view.tx ≡ Some w.tx → w.command < view.command → sees fates view w ≡ true
own_seen fates view w own earlier = or_right _ _ (own_is view.tx view.command w own earlier)

-- a fate that begins open changes nothing
before-append : (commits : ℕ) (fates : List Fate) (t : ℕ) → committed_before commits (slice_get (fates ++ Open ∷ []) t) ≡ committed_before commits (slice_get fates t)
before-append commits [] zero = refl
before-append commits [] (suc t) = refl
before-append commits (f ∷ fates) zero = refl
before-append commits (f ∷ fates) (suc t) = before-append commits fates t

pub sees-after_begin : (c : Content) (view : View) (w : Write) → sees (after_begin c).fates view w ≡ sees c.fates view w
sees-after_begin c view w = ap (λ b. b || own_before view.tx view.command w) (before-append view.commits c.fates w.tx.0)

-- nor does an end that the view does not count
before-set : (commits : ℕ) (fates : List Fate) (t u : ℕ) (fate : Fate) → slice_get fates t ≡ Some Open → committed_before commits (Some fate) ≡ false
    → committed_before commits (slice_get (set fates t fate) u) ≡ committed_before commits (slice_get fates u)
before-set commits [] t u fate is_open not_yet = refl
before-set commits (f ∷ fates) zero zero fate is_open not_yet = not_yet ∙ sym (ap (committed_before commits) is_open)
before-set commits (f ∷ fates) zero (suc u) fate is_open not_yet = refl
before-set commits (f ∷ fates) (suc t) zero fate is_open not_yet = refl
before-set commits (f ∷ fates) (suc t) (suc u) fate is_open not_yet = before-set commits fates t u fate is_open not_yet

pub sees-after_roll_back : (c : Content) (view : View) (tx : TxId) → IsOpen c tx → (w : Write) → sees (after_roll_back c tx).fates view w ≡ sees c.fates view w
sees-after_roll_back c view tx is_open w = ap (λ b. b || own_before view.tx view.command w) (before-set view.commits c.fates tx.0 w.tx.0 RolledBack is_open refl)

pub sees-after_commit : (c : Content) (view : View) (tx : TxId) → IsOpen c tx → view.commits ≤ commit_count c → (w : Write)
    → sees (after_commit c tx).fates view w ≡ sees c.fates view w
sees-after_commit c view tx is_open earlier w =
    ap (λ b. b || own_before view.tx view.command w) (before-set view.commits c.fates tx.0 w.tx.0 (Committed (commit_count c)) is_open (le-ltb _ _ earlier))

-- an open transaction's commit counts as one more
pub count_committed : (fates : List Fate) (t k : ℕ) → slice_get fates t ≡ Some Open → count_by is_commit (set fates t (Committed k)) ≡ count_by is_commit fates + 1
count_committed fates t k is_open =
    let moved = sum_by-set (λ f. cond (is_commit f) 1 0) fates t (Committed k) Open (slice_get_within fates t Open is_open) in
    let none : cond (is_commit (get_or fates t Open)) 1 0 ≡ 0 = ap (λ (f : Fate). let n : ℕ = cond (is_commit f) 1 0 in n) (get_or_from_slice_get fates t Open Open is_open) in
    omega (arith, moved, none)

-- and a roll-back as none
pub count_rolled_back : (fates : List Fate) (t : ℕ) → slice_get fates t ≡ Some Open → count_by is_commit (set fates t RolledBack) ≡ count_by is_commit fates
count_rolled_back fates t is_open =
    let moved = sum_by-set (λ f. cond (is_commit f) 1 0) fates t RolledBack Open (slice_get_within fates t Open is_open) in
    let none : cond (is_commit (get_or fates t Open)) 1 0 ≡ 0 = ap (λ (f : Fate). let n : ℕ = cond (is_commit f) 1 0 in n) (get_or_from_slice_get fates t Open Open is_open) in
    omega (arith, moved, none)

pub count-after_commit : (c : Content) (tx : TxId) → IsOpen c tx → commit_count (after_commit c tx) ≡ commit_count c + 1
count-after_commit c tx is_open = count_committed c.fates tx.0 (commit_count c) is_open

-- and a later view sees the transaction's writes
pub commit_seen : (c : Content) (tx : TxId) → IsOpen c tx → (view : View) (w : Write) → w.tx ≡ tx → commit_count c < view.commits → sees (after_commit c tx).fates view w ≡ true
commit_seen c tx is_open view w its later =
    let fate : fate_of (after_commit c tx).fates w.tx ≡ Some (Committed (commit_count c)) =
    ap (fate_of (after_commit c tx).fates) its ∙ get-set_same c.fates tx.0 Open (Committed (commit_count c)) is_open in
    or_left _ _ (ap (committed_before view.commits) fate ∙ lt-ltb _ _ later)

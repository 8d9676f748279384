-- Which transactions are rolled back after one more step.
use Rattle.std.proofs.Common.{◌≡◌, ℕ, zero, suc, Bool, true, false, ◌||◌, ◌==◌, List, [], ◌∷◌, ◌++◌, set, Option, Some, None, slice_get, refl, sym, ◌∙◌, ap, inl, inr}
use Rattle.std.specs.Prelude.{IsTrue, ◌↔◌}
use Rattle.std.specs.Option.{IfSome, option_map_or}
use Rattle.std.proofs.lemmas.Bool.{or_right, or_cases, and_parts, eqb-true, eq-eqb, ne_eqb, cases_eq}
use Rattle.row_versions.specs.declared.names.TxId.{TxId}
use Rattle.row_versions.specs.declared.write.Write.{Write}
use Rattle.row_versions.specs.declared.write.View.{View}
use Rattle.row_versions.specs.declared.write.Fate.{Fate}
use Rattle.row_versions.specs.declared.write.Fate.TheVariants.{Open, RolledBack, Committed}
use Rattle.row_versions.specs.Log.{Content, fate_of, is_commit, has_committed, after_begin, after_commit, after_roll_back, commit_count}
use Rattle.row_versions.specs.Members.{same_tx}
use Rattle.row_versions.specs.View.{sees, committed_before}
use Rattle.row_versions.specs.Inner.Searching.{own_before}
use Rattle.row_versions.proofs.Gets.{get-set_same}
use Rattle.chain_store.specs.Inner.Linked.{is_roll_back, rolled_back, Stands}
use Rattle.chain_store.proofs.Bools.{or_nothing}

begun : (fates : List Fate) (k : ℕ) → is_roll_back (slice_get (fates ++ Open ∷ []) k) ≡ is_roll_back (slice_get fates k)
begun [] zero = refl
begun [] (suc k) = refl
begun (f ∷ fates) zero = refl
begun (f ∷ fates) (suc k) = begun fates k

pub rolled-after_begin : (c : Content) (tx : TxId) → rolled_back (after_begin c).fates tx ≡ rolled_back c.fates tx
rolled-after_begin c tx = begun c.fates tx.0

committed : (fates : List Fate) (j k n : ℕ) → slice_get fates j ≡ Some Open → is_roll_back (slice_get (set fates j (Committed n)) k) ≡ is_roll_back (slice_get fates k)
committed [] j k n e = refl
committed (f ∷ fates) zero zero n e = sym (ap is_roll_back e)
committed (f ∷ fates) zero (suc k) n e = refl
committed (f ∷ fates) (suc j) zero n e = refl
committed (f ∷ fates) (suc j) (suc k) n e = committed fates j k n e

pub rolled-after_commit : (c : Content) (by tx : TxId) → fate_of c.fates by ≡ Some Open → rolled_back (after_commit c by).fates tx ≡ rolled_back c.fates tx
rolled-after_commit c by tx is_open = committed c.fates by.0 tx.0 (commit_count c) is_open

get-set_other : (fates : List Fate) (j k : ℕ) (f : Fate) → (j ≡ k → ⊥) → slice_get (set fates j f) k ≡ slice_get fates k
get-set_other [] j k f ne = refl
get-set_other (g ∷ fates) zero zero f ne = absurd (ne refl)
get-set_other (g ∷ fates) zero (suc k) f ne = refl
get-set_other (g ∷ fates) (suc j) zero f ne = refl
get-set_other (g ∷ fates) (suc j) (suc k) f ne = get-set_other fates j k f (λ e. ne (ap suc e))

pub rolled-after_roll_back : (c : Content) (by tx : TxId) → fate_of c.fates by ≡ Some Open → rolled_back (after_roll_back c by).fates tx ≡ (rolled_back c.fates tx || (tx.0 == by.0))
rolled-after_roll_back c by tx is_open = elim (cases_eq by.0 tx.0) [
  | inl same ↦
      ap is_roll_back (ap (slice_get (set c.fates by.0 RolledBack)) (sym same) ∙ get-set_same c.fates by.0 Open RolledBack is_open)
      ∙ sym (or_right (rolled_back c.fates tx) _ (eq-eqb tx.0 by.0 (sym same)))
  | inr other ↦
      ap is_roll_back (get-set_other c.fates by.0 tx.0 RolledBack other)
      ∙ sym (ap (λ b. rolled_back c.fates tx || b) (ne_eqb tx.0 by.0 (λ e. other (sym e))) ∙ or_nothing (rolled_back c.fates tx))
]

-- what a test of the fate says
pub rolled_from_iff : (b : Bool) (fate : Option Fate) → (IsTrue b ↔ (fate ≡ Some RolledBack)) → b ≡ is_roll_back fate
rolled_from_iff true fate h = sym (ap is_roll_back (h.0 refl))
rolled_from_iff false (Some RolledBack) h = h.1 refl
rolled_from_iff false (Some Open) h = refl
rolled_from_iff false (Some (Committed k)) h = refl
rolled_from_iff false None h = refl

-- what is committed is not rolled back
commit_stands : (commits : ℕ) (fate : Option Fate) → committed_before commits fate ≡ true → is_roll_back fate ≡ false
commit_stands commits (Some (Committed k)) h = refl
commit_stands commits (Some Open) h = refl
commit_stands commits (Some RolledBack) h = cc
commit_stands commits None h = refl

committed_stands : (fate : Option Fate) → option_map_or is_commit fate false ≡ true → is_roll_back fate ≡ false
committed_stands (Some (Committed k)) h = refl
committed_stands (Some Open) h = refl
committed_stands (Some RolledBack) h = cc
committed_stands None h = refl

own_stands : (fates : List Fate) (own : Option TxId) (command : ℕ) (w : Write) → IfSome own (λ tx. rolled_back fates tx ≡ false) → own_before own command w ≡ true → rolled_back fates w.tx ≡ false
own_stands fates None command w stands h = cc
own_stands fates (Some tx) command w stands h = ap (λ n. is_roll_back (slice_get fates n)) (eqb-true _ _ (and_parts _ _ h).0) ∙ stands

-- what a view sees is not rolled back, but for its own transaction's writes
pub seen_stands : (c : Content) (view : View) (w : Write) → Stands c view → sees c.fates view w ≡ true → rolled_back c.fates w.tx ≡ false
seen_stands c view w stands h = elim (or_cases (committed_before view.commits (fate_of c.fates w.tx)) (own_before view.tx view.command w) h) [
  | inl by_commit ↦ commit_stands view.commits (fate_of c.fates w.tx) by_commit
  | inr own ↦ own_stands c.fates view.tx view.command w stands own
]

-- nor is what counts for a transaction
pub counted_stands : (c : Content) (tx : TxId) (w : Write) → rolled_back c.fates tx ≡ false → (has_committed c w.tx || same_tx w.tx tx) ≡ true → rolled_back c.fates w.tx ≡ false
counted_stands c tx w stands h = elim (or_cases (has_committed c w.tx) (same_tx w.tx tx) h) [
  | inl by_commit ↦ committed_stands (fate_of c.fates w.tx) by_commit
  | inr own ↦ ap (λ n. is_roll_back (slice_get c.fates n)) (eqb-true _ _ own) ∙ stands
]

-- What a view shows stays as it is while transactions go on whose writes it doesn't see.
use Rattle.std.proofs.Common.{◌≡◌, ◌≢◌, ℕ, ◌≤◌, ◌⊎◌, inl, inr, false, [], ◌∷◌, length-append, refl, ap, le_refl, arith}
use Rattle.std.specs.Prelude.{Option, Some, None, option_and_then}
use Rattle.std.proofs.lemmas.Bool.{or_from, and_right, le-ltb}
use Rattle.row_versions.specs.declared.names.TxId.{TxId}
use Rattle.row_versions.specs.declared.write.Write.{Write}
use Rattle.row_versions.specs.declared.write.View.{View}
use Rattle.row_versions.specs.declared.write.Fate.TheVariants.{Open as OpenFate}
use Rattle.row_versions.specs.Log.{Content, IsOpen, after_write}
use Rattle.row_versions.specs.View.{sees, committed_before}
use Rattle.row_versions.specs.Inner.Searching.{own_before}
use Rattle.row_versions.proofs.Gets.{get-append_left}
use Rattle.row_versions.proofs.Seeing.{other_unseen}
use Rattle.row_versions.proofs.Shown.{rows-after_write}
use Rattle.session_laws.proofs.Staying.{Stays}

-- a write of an open transaction is unseen in a view that is another's, or of no later command
late_unseen : (tx : Option TxId) (command : ℕ) (w : Write) → command ≤ w.command → own_before tx command w ≡ false
late_unseen None command w late = refl
late_unseen (Some t) command w late = and_right _ _ (le-ltb _ _ late)

unseen : (view : View) (c : Content) (w : Write) → IsOpen c w.tx → (view.tx ≢ Some w.tx) ⊎ (view.command ≤ w.command) → sees c.fates view w ≡ false
unseen view c w is_open (inl other) = other_unseen c.fates view w OpenFate is_open refl other
unseen view c w is_open (inr late) = or_from _ _ (ap (committed_before view.commits) is_open) (late_unseen view.tx view.command w late)

-- such a write is made
pub stays-unseen : (view : View) (c : Content) (w : Write) → IsOpen c w.tx → (view.tx ≢ Some w.tx) ⊎ (view.command ≤ w.command) → Stays view c (after_write c w)
stays-unseen view c w is_open blind =
    record {
      rows = λ table. rows-after_write c view table w (unseen view c w is_open blind);
      values = λ place l. ap (option_and_then (λ (v : Write). v.values)) (get-append_left c.log (w ∷ []) place l);
      longer = let long = length-append c.log (w ∷ []) in omega arith;
      counts = le_refl _;
    }

-- The waits that stand matter to a target that others hold and that waits for them, and to no other.
use Rattle.std.proofs.Common.{◌≡◌, refl, sym, ap, ◌∙◌, Bool, true, false, List, inl, inr}
use Rattle.std.specs.Prelude.{not}
use Rattle.sql_trees.specs.declared.stmt.Policy.{Policy}
use Rattle.sql_trees.specs.declared.stmt.Policy.TheVariants.{Wait, NoWait, SkipLocked}
use Rattle.row_versions.specs.Log.{Content}
use Rattle.row_versions.specs.Members.{is_none_of}
use Rattle.row_locks.specs.declared.held.Held.{Held}
use Rattle.row_locks.specs.Waiting.{Waiting}
use Rattle.row_locks.specs.Laws.{SamePairs}
use Rattle.update_recheck.specs.Asked.{Asked}
use Rattle.update_recheck.specs.Outcome.{row_blockers, is_target_locked, target_outcome}
use Rattle.update_recheck.specs.Laws.{OutcomesByWhatIsHeld, WaitsMatterToTheBlocked}

no_wait_differs : NoWait ≡ Wait → ⊥
no_wait_differs h = cc

skip_differs : SkipLocked ≡ Wait → ⊥
skip_differs h = cc

-- the same comes of the target with these waits and with those
abbrev pub SameOutcome : Content → List Held → List Waiting → List Waiting → Asked → Type 0
SameOutcome c held waits others ask =
    (target_outcome c held waits ask ≡ target_outcome c held others ask) × (is_target_locked c held waits ask ≡ is_target_locked c held others ask)

pub waited : (c : Content) (held : List Held) (waits others : List Waiting) (ask : Asked) → OutcomesByWhatIsHeld → WaitsMatterToTheBlocked
    → (not (is_none_of (row_blockers held ask)) ≡ true → ask.policy ≡ Wait → SamePairs waits others) → SameOutcome c held waits others ask
waited c held waits others ask by_held matter same = by (is_none_of (row_blockers held ask)) ask.policy refl refl where
  by : (free : Bool) (policy : Policy) → is_none_of (row_blockers held ask) ≡ free → ask.policy ≡ policy → SameOutcome c held waits others ask
  by true policy e p = matter c held waits others ask (inl e)
  by false Wait e p = by_held c held held waits others ask (λ h. refl) (same (ap not e) p)
  by false NoWait e p = matter c held waits others ask (inr (λ h. no_wait_differs (sym p ∙ h)))
  by false SkipLocked e p = matter c held waits others ask (inr (λ h. skip_differs (sym p ∙ h)))

-- Who stops a target, by any list of those that hold it.
use Rattle.std.proofs.Common.{◌≡◌, refl, sym, ap, ◌∙◌, ◌⊎◌, inl, inr, Bool, true, List, [], ◌∷◌}
use Rattle.sql_trees.specs.declared.stmt.Policy.{Policy}
use Rattle.sql_trees.specs.declared.stmt.Policy.TheVariants.{Wait, NoWait, SkipLocked}
use Rattle.row_versions.specs.declared.names.TxId.{TxId}
use Rattle.row_versions.specs.Log.{Content}
use Rattle.row_versions.specs.Members.{has, same_tx, is_none_of}
use Rattle.row_locks.specs.declared.held.Held.{Held}
use Rattle.row_locks.specs.Waiting.{Waiting}
use Rattle.row_locks.specs.Cycles.{closes}
use Rattle.row_locks.specs.Laws.{SameLocks, SamePairs}
use Rattle.row_locks.proofs.Cases.{or_left, is_same}
use Rattle.row_locks.proofs.Holding.{by_what_is_held}
use Rattle.row_locks.proofs.Pairs.{by_who_blocks}
use Rattle.update_recheck.specs.Asked.{Asked}
use Rattle.update_recheck.specs.Outcome.{row_blockers, newest_version, target_outcome, is_target_locked}
use Rattle.update_recheck.specs.Inner.Cases.{holders, outcome, is_locked}
use Rattle.update_recheck.proofs.Cases.{outcome_is, locked_is}
use Rattle.update_recheck.specs.Laws.{OutcomesByWhatIsHeld, WaitsMatterToTheBlocked}
use Rattle.update_recheck.specs.Settling.{SameMembers}
use Rattle.update_recheck.specs.Inner.Stopping.{holders_of}

-- lists with the same members are empty together
pub none_same : (xs ys : List TxId) → SameMembers xs ys → is_none_of xs ≡ is_none_of ys
none_same [] [] each = refl
none_same [] (y ∷ ys) each = let h = or_left (same_tx y y) (has ys y) (is_same y) in let e = each y in cc
none_same (x ∷ xs) [] each = let h = or_left (same_tx x x) (has xs x) (is_same x) in let e = each x in cc
none_same (x ∷ xs) (y ∷ ys) each = refl

holders_same : (policy : Policy) (xs ys : List TxId) (b closing : Bool) → is_none_of xs ≡ is_none_of ys → b ≡ closing → holders_of policy xs b ≡ holders_of policy ys closing
holders_same policy [] [] b closing e h = refl
holders_same policy [] (y ∷ ys) b closing e h = cc
holders_same policy (x ∷ xs) [] b closing e h = cc
holders_same policy (x ∷ xs) (y ∷ ys) b closing e h = ap (λ v. holders_of policy (y ∷ ys) v) h

pub same_holders : (held others : List Held) (waits waiting : List Waiting) (ask : Asked) → SameLocks held others → SamePairs waits waiting → holders held waits ask ≡ holders others waiting ask
same_holders held others waits waiting ask locks pairs =
    let each : SameMembers (row_blockers held ask) (row_blockers others ask) = λ u. by_what_is_held held others locks ask.seen.row ask.tx ask.strength u in
    holders_same ask.policy (row_blockers held ask) (row_blockers others ask) (closes waits ask.tx (row_blockers held ask)) (closes waiting ask.tx (row_blockers others ask))
    (none_same (row_blockers held ask) (row_blockers others ask) each)
    (by_who_blocks waits waiting pairs ask.tx (row_blockers held ask) (row_blockers others ask) each)

-- where who holds the target is the same, so is what comes of it
by_holders : (c : Content) (held others : List Held) (waits waiting : List Waiting) (ask : Asked) → holders held waits ask ≡ holders others waiting ask
    → (target_outcome c held waits ask ≡ target_outcome c others waiting ask) × (is_target_locked c held waits ask ≡ is_target_locked c others waiting ask)
by_holders c held others waits waiting ask e = (
  outcome_is c held waits ask ∙ ap (λ h. outcome ask.level ask.seen h (newest_version c ask)) e ∙ sym (outcome_is c others waiting ask),
  locked_is c held waits ask ∙ ap (λ h. is_locked ask.level h (newest_version c ask)) e ∙ sym (locked_is c others waiting ask),
)

pub same_outcomes : OutcomesByWhatIsHeld
same_outcomes c held others waits waiting ask locks pairs = by_holders c held others waits waiting ask (same_holders held others waits waiting ask locks pairs)

-- whether a wait closes a cycle is nothing to a target without blockers, nor to one that waits for nobody
unwaited : (policy : Policy) (by : List TxId) (closing closes_so : Bool) → (is_none_of by ≡ true) ⊎ (policy ≡ Wait → ⊥) → holders_of policy by closing ≡ holders_of policy by closes_so
unwaited policy [] closing closes_so free = refl
unwaited Wait (x ∷ by) closing closes_so (inl none) = cc
unwaited Wait (x ∷ by) closing closes_so (inr other) = absurd (other refl)
unwaited NoWait (x ∷ by) closing closes_so free = refl
unwaited SkipLocked (x ∷ by) closing closes_so free = refl

pub waits_matter : WaitsMatterToTheBlocked
waits_matter c held waits others ask free =
    by_holders c held held waits others ask
    (unwaited ask.policy (row_blockers held ask) (closes waits ask.tx (row_blockers held ask)) (closes others ask.tx (row_blockers held ask)) free)

-- When a target is answered as a deadlock, and when as a wait.
use Rattle.std.proofs.Common.{◌≡◌, ◌↔◌, refl, sym, ◌∙◌, Bool, true, false, List, [], ◌∷◌}
use Rattle.std.specs.Prelude.{Result, Ok, Err}
use Rattle.std.specs.List.{list_any}
use Rattle.sql_trees.specs.declared.stmt.Level.{Level}
use Rattle.sql_trees.specs.declared.stmt.Level.TheVariants.{ReadCommitted, RepeatableRead}
use Rattle.sql_trees.specs.declared.stmt.Policy.{Policy}
use Rattle.sql_trees.specs.declared.stmt.Policy.TheVariants.{Wait, NoWait, SkipLocked}
use Rattle.sql_values.specs.declared.fault.ValueFault.{ValueFault}
use Rattle.row_versions.specs.declared.names.TxId.{TxId}
use Rattle.row_versions.specs.declared.write.Seen.{Seen}
use Rattle.row_versions.specs.Members.{is_none_of}
use Rattle.row_locks.specs.Cycles.{leads, closes}
use Rattle.row_locks.proofs.Waiting.{closes_says}
use Rattle.update_recheck.specs.Outcome.{Version, Same, Gone, Newer, row_blockers, newest_version}
use Rattle.update_recheck.specs.Inner.Cases.{Holders, Nobody, Others, OthersInACycle, OthersAtNoWait, OthersSkipped, outcome, rechecked}
use Rattle.update_recheck.proofs.Cases.{outcome_is}
use Rattle.update_recheck.specs.Inner.Stopping.{holders_of}
use Rattle.update_recheck.specs.Outcome.Outcome.{Waits, Deadlocks}
use Rattle.wait_laws.specs.Laws.{is_worth_a_wait, DeadlockIsExact}

-- what the policy, a list of blockers and the test for a cycle come to
in_a_cycle : (policy : Policy) (bs : List TxId) (b : Bool) → (holders_of policy bs b ≡ OthersInACycle) ↔ ((policy ≡ Wait) × (is_none_of bs ≡ false) × (b ≡ true))
in_a_cycle policy [] b = (λ h. cc, λ h. let k = h.1 in cc)
in_a_cycle Wait (t ∷ bs) true = (λ h. (refl, refl, refl), λ h. refl)
in_a_cycle Wait (t ∷ bs) false = (λ h. cc, λ h. let k = h.2 in cc)
in_a_cycle NoWait (t ∷ bs) b = (λ h. cc, λ h. let k = h.0 in cc)
in_a_cycle SkipLocked (t ∷ bs) b = (λ h. cc, λ h. let k = h.0 in cc)

others : (policy : Policy) (bs : List TxId) (b : Bool) → (holders_of policy bs b ≡ Others) ↔ ((policy ≡ Wait) × (is_none_of bs ≡ false) × (b ≡ false))
others policy [] b = (λ h. cc, λ h. let k = h.1 in cc)
others Wait (t ∷ bs) true = (λ h. cc, λ h. let k = h.2 in cc)
others Wait (t ∷ bs) false = (λ h. (refl, refl, refl), λ h. refl)
others NoWait (t ∷ bs) b = (λ h. cc, λ h. let k = h.0 in cc)
others SkipLocked (t ∷ bs) b = (λ h. cc, λ h. let k = h.0 in cc)

rechecked_deadlock : (m : Seen) (r : Result Bool ValueFault) → rechecked m r ≡ Deadlocks → ⊥
rechecked_deadlock m (Ok true) h = cc
rechecked_deadlock m (Ok false) h = cc
rechecked_deadlock m (Err fault) h = cc

rechecked_wait : (m : Seen) (r : Result Bool ValueFault) → rechecked m r ≡ Waits → ⊥
rechecked_wait m (Ok true) h = cc
rechecked_wait m (Ok false) h = cc
rechecked_wait m (Err fault) h = cc

deadlocks : (l : Level) (found : Seen) (hs : Holders) (v : Version) → (outcome l found hs v ≡ Deadlocks) ↔ ((is_worth_a_wait l v ≡ true) × (hs ≡ OthersInACycle))
deadlocks ReadCommitted found OthersInACycle v = (λ h. (refl, refl), λ h. refl)
deadlocks ReadCommitted found Others v = (λ h. cc, λ h. let k = h.1 in cc)
deadlocks ReadCommitted found OthersAtNoWait v = (λ h. cc, λ h. let k = h.1 in cc)
deadlocks ReadCommitted found OthersSkipped v = (λ h. cc, λ h. let k = h.1 in cc)
deadlocks ReadCommitted found Nobody Gone = (λ h. cc, λ h. let k = h.1 in cc)
deadlocks ReadCommitted found Nobody Same = (λ h. cc, λ h. let k = h.1 in cc)
deadlocks ReadCommitted found Nobody (Newer m r) = (λ h. absurd (rechecked_deadlock m r h), λ h. let k = h.1 in cc)
deadlocks RepeatableRead found hs Gone = (λ h. cc, λ h. let k = h.0 in cc)
deadlocks RepeatableRead found hs (Newer m r) = (λ h. cc, λ h. let k = h.0 in cc)
deadlocks RepeatableRead found OthersInACycle Same = (λ h. (refl, refl), λ h. refl)
deadlocks RepeatableRead found Others Same = (λ h. cc, λ h. let k = h.1 in cc)
deadlocks RepeatableRead found OthersAtNoWait Same = (λ h. cc, λ h. let k = h.1 in cc)
deadlocks RepeatableRead found OthersSkipped Same = (λ h. cc, λ h. let k = h.1 in cc)
deadlocks RepeatableRead found Nobody Same = (λ h. cc, λ h. let k = h.1 in cc)

waits : (l : Level) (found : Seen) (hs : Holders) (v : Version) → (outcome l found hs v ≡ Waits) ↔ ((is_worth_a_wait l v ≡ true) × (hs ≡ Others))
waits ReadCommitted found OthersInACycle v = (λ h. cc, λ h. let k = h.1 in cc)
waits ReadCommitted found OthersAtNoWait v = (λ h. cc, λ h. let k = h.1 in cc)
waits ReadCommitted found OthersSkipped v = (λ h. cc, λ h. let k = h.1 in cc)
waits ReadCommitted found Others v = (λ h. (refl, refl), λ h. refl)
waits ReadCommitted found Nobody Gone = (λ h. cc, λ h. let k = h.1 in cc)
waits ReadCommitted found Nobody Same = (λ h. cc, λ h. let k = h.1 in cc)
waits ReadCommitted found Nobody (Newer m r) = (λ h. absurd (rechecked_wait m r h), λ h. let k = h.1 in cc)
waits RepeatableRead found hs Gone = (λ h. cc, λ h. let k = h.0 in cc)
waits RepeatableRead found hs (Newer m r) = (λ h. cc, λ h. let k = h.0 in cc)
waits RepeatableRead found OthersInACycle Same = (λ h. cc, λ h. let k = h.1 in cc)
waits RepeatableRead found OthersAtNoWait Same = (λ h. cc, λ h. let k = h.1 in cc)
waits RepeatableRead found OthersSkipped Same = (λ h. cc, λ h. let k = h.1 in cc)
waits RepeatableRead found Others Same = (λ h. (refl, refl), λ h. refl)
waits RepeatableRead found Nobody Same = (λ h. cc, λ h. let k = h.1 in cc)

-- a list in which something is has members
some_of : (test : TxId → Bool) (bs : List TxId) → list_any test bs ≡ true → is_none_of bs ≡ false
some_of test [] h = cc
some_of test (t ∷ bs) h = refl

pub false_is : (b : Bool) → (b ≡ true → ⊥) → b ≡ false
false_is true h = absurd (h refl)
false_is false h = refl

pub false_not : (b : Bool) → b ≡ false → b ≡ true → ⊥
false_not true h k = cc
false_not false h k = cc

pub deadlock_is_exact : DeadlockIsExact
deadlock_is_exact c held list ask =
    let bs = row_blockers held ask in
    let closing = closes list ask.tx bs in
    let says = closes_says list ask.tx bs in
    let v = newest_version c ask in
    let is = outcome_is c held list ask in
    let d = deadlocks ask.level ask.seen (holders_of ask.policy bs closing) v in
    let w = waits ask.level ask.seen (holders_of ask.policy bs closing) v in
    record {
      deadlocks = (
        λ h. let k = d.0 (sym is ∙ h) in let o = (in_a_cycle ask.policy bs closing).0 k.1 in (k.0, o.0, says.0 o.2),
        λ h. is ∙ d.1 (h.0, (in_a_cycle ask.policy bs closing).1 (h.1, some_of (λ b. leads list b ask.tx) bs (says.1 h.2), says.1 h.2)),
      );
      waits_else = (
        λ h. let k = w.0 (sym is ∙ h) in let o = (others ask.policy bs closing).0 k.1 in (k.0, o.0, o.1, λ e. false_not closing o.2 (says.1 e)),
        λ h. is ∙ w.1 (h.0, (others ask.policy bs closing).1 (h.1, h.2, false_is closing (λ e. h.3 (says.0 e)))),
      );
    }

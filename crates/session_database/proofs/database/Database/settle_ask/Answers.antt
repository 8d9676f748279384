use Rattle.std.proofs.Common.{◌≡◌, List, ap, subst}
use Rattle.std.specs.Prelude.{IfOk, OnOk, Result}
use Rattle.std.proofs.lemmas.Result.{on_ok_weaker}
use Rattle.row_locks.specs.declared.held.Held.{Held}
use Rattle.update_recheck.specs.Asked.{asked}
use Rattle.update_recheck.specs.Outcome.{is_target_locked, target_outcome}
use Rattle.update_recheck.specs.Settling.{lock_of, locks_after, outcome_of}
use Rattle.session_machine.specs.Tables.{Database}
use Rattle.session_database.proofs.database.Database.settle_ask.Goals as goal

pub returns-clause-outcome : goal.returns-clause-outcome
returns-clause-outcome g c =
    subst (λ (d : Database). IfOk c.settle.result (λ s. outcome_of s ≡ target_outcome d.content d.held c.args.waits.now (asked c.args.ask.now))) c.self.view_is c.settle.ensures.outcome

-- the locks are those that are due, and all else is as it was
held_so : {A E : Type 0} (r : Result A E) (d e : Database) (locks : List Held) (due : Database → List Held) → d ≡ e → OnOk r (locks ≡ due d) → OnOk r (record d { held = locks } ≡ record e { held = due e })
held_so r d e locks due same =
    subst (λ (x : Database). OnOk r (locks ≡ due d) → OnOk r (record d { held = locks } ≡ record x { held = due x })) same
    (on_ok_weaker r (ap (λ held. record d { held = held })))

pub returns-clause-locks : goal.returns-clause-locks
returns-clause-locks g c =
    let ask = asked c.args.ask.now in
    held_so c.settle.result _ c.args.self.now c.settle.new.locks (λ d. locks_after (is_target_locked d.content d.held c.args.waits.now ask) d.held (lock_of ask)) c.self.view_is c.settle.ensures.last

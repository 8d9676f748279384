use Rattle.std.proofs.Common.{List, refl, subst}
use Rattle.outcome_counts.specs.Outcomes.{SameOutcome}
use Rattle.outcome_verdicts.specs.declared.serial_orders.SerialOrder.{SerialOrder}
use Rattle.outcome_verdicts.specs.Verdicts.{IsFound, IsNotFound}
use Rattle.outcome_verdicts.specs.Code.Adding.{known, new}
use Rattle.outcome_verdicts.proofs.serial_orders.add_order.Goals as goal

pub returns-in-Some : goal.returns-in-Some
returns-in-Some c =
    let order = c.in-Some.field-0.now.sessions.items in
    known order (subst (λ (os : List SerialOrder). IsFound os (λ s. SameOutcome s c.args.outcome) order) c.deref.ensures.value c.in-Some.ensures) refl

pub returns-in_ok-push-in-None : goal.returns-in_ok-push-in-None
returns-in_ok-push-in-None c =
    new _ c.in_ok-sessions-in-None.ensures.items refl (subst (λ (os : List SerialOrder). IsNotFound os (λ s. SameOutcome s c.args.outcome)) c.deref.ensures.value c.in-None.ensures)
    c.in_ok-push-in-None.ensures.items

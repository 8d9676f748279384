-- A history that goes on, or ends, in order.
use Rattle.std.proofs.Common.{◌≡◌, refl, List, [], ◌∷◌, ◌++◌, append-nil, append_assoc, subst, sym, ap, ◌∙◌, Option, Some, None, true, Bool}
use Rattle.std.specs.Prelude.{Result, Ok, Err}
use Rattle.session_machine.specs.declared.event.Event.{Event}
use Rattle.session_machine.specs.declared.fault.Refusal.{Refusal}
use Rattle.session_machine.specs.declared.fault.EngineFault.{EngineFault}
use Rattle.session_machine.specs.declared.fault.EngineFault.TheVariants as engine_faults
use Rattle.session_machine.specs.declared.reply.HistItem.{HistItem}
use Rattle.session_machine.specs.declared.reply.Reply.{Reply}
use Rattle.session_machine.specs.Machine.{Machine, Next, next}
use Rattle.session_machine.specs.Engine.{Engine, EngineAnswered, engine_after, engine_step, engine_answered}
use Rattle.session_seats.specs.declared.fault.ThreadFault.{ThreadFault}
use Rattle.session_seats.specs.declared.fault.ThreadFault.TheVariants as thread_faults
use Rattle.session_seats.specs.Acts.{Acted, NotActed, RefusesEvent}
use Rattle.session_seats.specs.Seats.{SeatOf}
use Rattle.session_seats.specs.Orders.{Orders, IsOrder, OrderedAfter}
use Rattle.session_crews.specs.Inner.Shared.{RunsInOrder, IsLed}

-- the items go on by one that is ordered
ordered_on : (orders : Orders) (before items : List HistItem) (item : HistItem) → OrderedAfter orders before items → IsOrder item.event (orders (before ++ items)) → OrderedAfter orders before (items ++ item ∷ [])
ordered_on orders before [] item ordered is = (subst (λ w. IsOrder item.event (orders w)) (append-nil before) is, tt)
ordered_on orders before (i ∷ is) item ordered last =
    (ordered.0, ordered_on orders (before ++ i ∷ []) is item ordered.1 (subst (λ w. IsOrder item.event (orders w)) (sym (append_assoc before (i ∷ []) is)) last))

-- an answer is the next item of the history
answered_item : (e : Engine) (event : Event) (n : Result Next Refusal) (reply : Reply) → (engine_answered e event n).answer ≡ Ok reply
    → (engine_answered e event n).engine.history ≡ e.history ++ record { event = event; reply = reply } ∷ []
answered_item e event (Err refusal) reply is = absurd cc
answered_item e event (Ok n) reply is = let same : n.reply ≡ reply = cc in ap (λ (r : Reply). e.history ++ record { event = event; reply = r } ∷ []) same

step_item : (e : Engine) (event : Event) (m : Option Machine) (reply : Reply) → (engine_step e event m).answer ≡ Ok reply
    → (engine_step e event m).engine.history ≡ e.history ++ record { event = event; reply = reply } ∷ []
step_item e event None reply is = absurd cc
step_item e event (Some m) reply is = answered_item e event (next e.blocks e.mode m event) reply is

-- a refusal leaves the history as it was
answered_same : (e : Engine) (event : Event) (n : Result Next Refusal) (f : EngineFault) → (engine_answered e event n).answer ≡ Err f → (engine_answered e event n).engine.history ≡ e.history
answered_same e event (Err refusal) f is = refl
answered_same e event (Ok n) f is = absurd cc

step_same : (e : Engine) (event : Event) (m : Option Machine) (f : EngineFault) → (engine_step e event m).answer ≡ Err f → (engine_step e event m).engine.history ≡ e.history
step_same e event None f is = refl
step_same e event (Some m) f is = answered_same e event (next e.blocks e.mode m event) f is

pub acted_history : (event : Event) (before after : Engine) (seat kept : SeatOf) (a : Acted event before after seat kept) → after.history ≡ before.history ++ record { event = event; reply = a.reply } ∷ []
acted_history event before after seat kept a =
    sym (ap (λ (x : EngineAnswered). x.engine.history) a.engine) ∙ step_item before event before.machine a.reply (ap (λ (x : EngineAnswered). x.answer) a.engine)

refused_as : (event : Event) (before after : Engine) (f : EngineFault) → engine_after before event ≡ record { engine = after; answer = Err f } → after.history ≡ before.history
refused_as event before after f is =
    sym (ap (λ (x : EngineAnswered). x.engine.history) is) ∙ step_same before event before.machine f (ap (λ (x : EngineAnswered). x.answer) is)

refused_history : (event : Event) (before after : Engine) (f : EngineFault) → RefusesEvent event before f after → after.history ≡ before.history
refused_history event before after engine_faults.Memory refused = ap (λ (e : Engine). e.history) refused.0
refused_history event before after engine_faults.Busy refused = refused_as event before after engine_faults.Busy refused
refused_history event before after engine_faults.NotYourTurn refused = refused_as event before after engine_faults.NotYourTurn refused
refused_history event before after engine_faults.StillBlocked refused = refused_as event before after engine_faults.StillBlocked refused
refused_history event before after engine_faults.Idle refused = refused_as event before after engine_faults.Idle refused
refused_history event before after engine_faults.Spent refused = refused_as event before after engine_faults.Spent refused
refused_history event before after engine_faults.NoSession refused = refused_as event before after engine_faults.NoSession refused
refused_history event before after engine_faults.BlockNotAllowed refused = refused_as event before after engine_faults.BlockNotAllowed refused

pub not_acted_history : (event : Event) (before after : Engine) (f : ThreadFault) → NotActed event before f after → after.history ≡ before.history
not_acted_history event before after (thread_faults.Engine f) not_done = refused_history event before after f not_done
not_acted_history event before after thread_faults.Memory not_done = ap (λ (e : Engine). e.history) not_done
not_acted_history event before after thread_faults.ThreadRefused not_done = absurd not_done
not_acted_history event before after (thread_faults.SeatMismatch session) not_done = absurd not_done
not_acted_history event before after thread_faults.Gate not_done = absurd not_done
not_acted_history event before after thread_faults.OtherRun not_done = absurd not_done

-- an event that was ordered was done
pub goes_on : (orders : Orders) (event : Event) (before after : Engine) (seat kept : SeatOf) (order : Option Event) (stop : Bool)
    → RunsInOrder orders before.history order stop → IsOrder event (orders before.history) → Acted event before after seat kept → (stop ≡ true → ⊥)
    → RunsInOrder orders after.history None stop
goes_on orders event before after seat kept order stop orderly ordered a running =
    let is = acted_history event before after seat kept a in
    record {
      ordered = subst (λ (w : List HistItem). OrderedAfter orders [] w) (sym is) (ordered_on orders [] before.history (record { event = event; reply = a.reply }) orderly.ordered ordered);
      given = tt;
      stopped = λ stopped. absurd (running stopped);
    }

-- an event was not done
pub stays : (orders : Orders) (event : Event) (before after : Engine) (f : ThreadFault) (order : Option Event) (stop : Bool)
    → RunsInOrder orders before.history order stop → NotActed event before f after → RunsInOrder orders after.history order stop
stays orders event before after f order stop orderly not_done = subst (λ (w : List HistItem). RunsInOrder orders w order stop) (sym (not_acted_history event before after f not_done)) orderly

-- what a driver keeps fits a history that goes on, and one that stays
pub led_on : (orders driven : Orders) (follows : List HistItem → Type 0) (event : Event) (before after : Engine) (seat kept : SeatOf) (fault : Option ThreadFault)
    → ((items more : List HistItem) → follows items → follows (items ++ more))
    → IsLed orders driven follows before.history fault → Acted event before after seat kept → IsLed orders driven follows after.history fault
led_on orders driven follows event before after seat kept fault longer led a = record {
  own = led.own;
  keeps = λ none. subst follows (sym (acted_history event before after seat kept a)) (longer before.history (record { event = event; reply = a.reply } ∷ []) (led.keeps none));
}

pub led_stays : (orders driven : Orders) (follows : List HistItem → Type 0) (event : Event) (before after : Engine) (f : ThreadFault) (fault : Option ThreadFault)
    → IsLed orders driven follows before.history fault → NotActed event before f after → IsLed orders driven follows after.history fault
led_stays orders driven follows event before after f fault led not_done =
    subst (λ (w : List HistItem). IsLed orders driven follows w fault) (sym (not_acted_history event before after f not_done)) led

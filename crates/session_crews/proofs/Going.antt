-- A free run goes on, event by event.
use Rattle.std.proofs.Common.{◌≡◌, ◌∙◌, refl, sym, ap, ◌-◌, List, [], ◌∷◌, ◌++◌, append-nil, append_assoc, length, Option, Some, None, true, arith}
use Rattle.std.specs.Prelude.{Result, Ok, Err, is_some, slice_get}
use Rattle.std.proofs.lemmas.List.{length_push}
use Rattle.session_machine.specs.declared.event.Event.{Event}
use Rattle.session_machine.specs.declared.fault.Refusal.{Refusal}
use Rattle.session_machine.specs.declared.fault.EngineFault.{EngineFault}
use Rattle.session_machine.specs.declared.fault.EngineFault.TheVariants as engine_faults
use Rattle.session_machine.specs.declared.reply.HistItem.{HistItem}
use Rattle.session_machine.specs.declared.reply.Reply.{Reply}
use Rattle.session_machine.specs.Machine.{Machine, Next, next}
use Rattle.session_machine.specs.Engine.{Engine, EngineAnswered, fault_of, engine_step, engine_answered}
use Rattle.session_seats.specs.declared.fault.ThreadFault.{ThreadFault}
use Rattle.session_seats.specs.declared.fault.ThreadFault.TheVariants as thread_faults
use Rattle.session_seats.specs.Acts.{Acted, IsRunOf, NotActed, RefusesEvent}
use Rattle.session_seats.specs.Free.{last_item, block_state, state_at, is_over, stops}
use Rattle.session_seats.specs.Seats.{SeatOf, with_item}
use Rattle.session_crews.specs.Inner.FreeRuns.{WentOn, Did}
use Rattle.session_crews.proofs.Ordering.{acted_history}
use Rattle.session_crews.proofs.Blocks.{over_with}

refused_not_answered : (f : EngineFault) (reply : Reply) → Err f ≡ Ok reply → ⊥
refused_not_answered f reply is = absurd cc

-- an answer leaves over what the engine was opened, and it isn't spent
answered_of : (e : Engine) (event : Event) (n : Result Next Refusal) (after : Engine) (reply : Reply) → engine_answered e event n ≡ record { engine = after; answer = Ok reply }
    → IsRunOf e after × (is_some after.machine ≡ true)
answered_of e event (Err refusal) after reply is = absurd (refused_not_answered (fault_of refusal) reply (ap (λ (x : EngineAnswered). x.answer) is))
answered_of e event (Ok n) after reply is =
    let same : (engine_answered e event (Ok n)).engine ≡ after = ap (λ (x : EngineAnswered). x.engine) is in (
      (sym (ap (λ (x : Engine). x.blocks) same), sym (ap (λ (x : Engine). x.count) same), sym (ap (λ (x : Engine). x.mode) same)),
      sym (ap (λ (x : Engine). is_some x.machine) same),
    )

step_of : (e : Engine) (event : Event) (m : Option Machine) (after : Engine) (reply : Reply) → engine_step e event m ≡ record { engine = after; answer = Ok reply }
    → IsRunOf e after × (is_some after.machine ≡ true)
step_of e event None after reply is = absurd (refused_not_answered engine_faults.Spent reply (ap (λ (x : EngineAnswered). x.answer) is))
step_of e event (Some m) after reply is = answered_of e event (next e.blocks e.mode m event) after reply is

pub acted_of : (event : Event) (before after : Engine) (seat kept : SeatOf) (a : Acted event before after seat kept) → IsRunOf before after × (is_some after.machine ≡ true)
acted_of event before after seat kept a = step_of before event before.machine after a.reply a.engine

pub acted_went : (event : Event) (before after : Engine) (seat kept : SeatOf) (a : Acted event before after seat kept) → WentOn before after (record { event = event; reply = a.reply } ∷ [])
acted_went event before after seat kept a = record {
  of = (acted_of event before after seat kept a).0;
  history = acted_history event before after seat kept a;
  unspent = λ _. (acted_of event before after seat kept a).1;
}

-- a refusal leaves the engine as it was
answered_as : (e : Engine) (event : Event) (n : Result Next Refusal) (after : Engine) (f : EngineFault) → engine_answered e event n ≡ record { engine = after; answer = Err f } → after ≡ e
answered_as e event (Err refusal) after f is = sym (ap (λ (x : EngineAnswered). x.engine) is)
answered_as e event (Ok n) after f is = absurd (refused_not_answered f n.reply (sym (ap (λ (x : EngineAnswered). x.answer) is)))

pub step_as : (e : Engine) (event : Event) (m : Option Machine) (after : Engine) (f : EngineFault) → engine_step e event m ≡ record { engine = after; answer = Err f } → after ≡ e
step_as e event None after f is = sym (ap (λ (x : EngineAnswered). x.engine) is)
step_as e event (Some m) after f is = answered_as e event (next e.blocks e.mode m event) after f is

pub blocked_same : (event : Event) (before after : Engine) → NotActed event before (thread_faults.Engine engine_faults.StillBlocked) after → after ≡ before
blocked_same event before after refused = step_as before event before.machine after engine_faults.StillBlocked refused

same_of : (before after : Engine) → after ≡ before → IsRunOf before after
same_of before after same = (ap (λ (x : Engine). x.blocks) same, ap (λ (x : Engine). x.count) same, ap (λ (x : Engine). x.mode) same)

refused_of : (event : Event) (before after : Engine) (f : EngineFault) → RefusesEvent event before f after → IsRunOf before after
refused_of event before after engine_faults.Memory refused = (ap (λ (x : Engine). x.blocks) refused.0, ap (λ (x : Engine). x.count) refused.0, ap (λ (x : Engine). x.mode) refused.0)
refused_of event before after engine_faults.Busy refused = same_of before after (step_as before event before.machine after engine_faults.Busy refused)
refused_of event before after engine_faults.NotYourTurn refused = same_of before after (step_as before event before.machine after engine_faults.NotYourTurn refused)
refused_of event before after engine_faults.StillBlocked refused = same_of before after (step_as before event before.machine after engine_faults.StillBlocked refused)
refused_of event before after engine_faults.Idle refused = same_of before after (step_as before event before.machine after engine_faults.Idle refused)
refused_of event before after engine_faults.Spent refused = same_of before after (step_as before event before.machine after engine_faults.Spent refused)
refused_of event before after engine_faults.NoSession refused = same_of before after (step_as before event before.machine after engine_faults.NoSession refused)
refused_of event before after engine_faults.BlockNotAllowed refused = same_of before after (step_as before event before.machine after engine_faults.BlockNotAllowed refused)

pub not_acted_of : (event : Event) (before after : Engine) (f : ThreadFault) → NotActed event before f after → IsRunOf before after
not_acted_of event before after (thread_faults.Engine f) not_done = refused_of event before after f not_done
not_acted_of event before after thread_faults.Memory not_done = same_of before after not_done
not_acted_of event before after thread_faults.ThreadRefused not_done = absurd not_done
not_acted_of event before after (thread_faults.SeatMismatch session) not_done = absurd not_done
not_acted_of event before after thread_faults.Gate not_done = absurd not_done
not_acted_of event before after thread_faults.OtherRun not_done = absurd not_done

-- over what an engine was opened, through a third
pub of_on : (a b c : Engine) → IsRunOf a b → IsRunOf b c → IsRunOf a c
of_on a b c one two = (two.0 ∙ one.0, two.1 ∙ one.1, two.2 ∙ one.2)

-- it goes on by one list of items, and then by another
pub went_on : (a b c : Engine) (one two : List HistItem) → WentOn a b one → WentOn b c two → WentOn a c (one ++ two)
went_on a b c one two first second = record {
  of = of_on a b c first.of second.of;
  history = second.history ∙ (ap (λ (w : List HistItem). w ++ two) first.history ∙ append_assoc a.history one two);
  unspent = λ was. second.unspent (first.unspent was);
}

pub went_nowhere : (a : Engine) → WentOn a a []
went_nowhere a = record { of = (refl, refl, refl); history = sym (append-nil a.history); unspent = λ was. was }

-- what was put last is the last
last_pushed : (items : List HistItem) (item : HistItem) → slice_get (items ++ item ∷ []) (length items) ≡ Some item
last_pushed [] item = refl
last_pushed (i ∷ is) item = last_pushed is item

pub last_acted : (seat : SeatOf) (event : Event) (reply : Reply) → block_state (last_item (with_item seat event reply)) ≡ state_at reply
last_acted seat event reply =
    let item : HistItem = record { event = event; reply = reply } in
    let pushed = length_push seat.items item in
    let at : length (seat.items ++ item ∷ []) - 1 ≡ length seat.items = omega (arith, pushed) in
    ap block_state (ap (λ n. slice_get (seat.items ++ item ∷ []) n) at ∙ last_pushed seat.items item)

pub did : (event : Event) (before after : Engine) (seat kept : SeatOf) (a : Acted event before after seat kept) → Did event before after (block_state (last_item kept))
did event before after seat kept a = record {
  reply = a.reply;
  went = acted_went event before after seat kept a;
  reached = ap (λ (s : SeatOf). block_state (last_item s)) a.seat ∙ last_acted seat event a.reply;
}

-- whether the block is over after an event that was done is what its reply says
pub over_acted : (event : Event) (before after : Engine) (seat kept : SeatOf) (a : Acted event before after seat kept) → is_over (block_state (last_item kept)) ≡ a.reply.ended
over_acted event before after seat kept a =
    ap (λ (s : SeatOf). is_over (block_state (last_item s))) a.seat ∙ (ap is_over (last_acted seat event a.reply) ∙ over_with (stops a.reply.outcome) a.reply.ended a.reply refl refl)

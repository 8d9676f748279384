-- What is next in an engine, and what stands of a fault that was met there.
use Rattle.std.proofs.Common.{◌≡◌, ◌<◌, ◌⊎◌, inl, inr, refl, sym, ap, subst, ◌∙◌, ℕ, true, true≢false, [], Option, Some, None}
use Rattle.std.specs.Prelude.{is_none, IfSome, Result, Ok, Err}
use Rattle.std.specs.Option.{option_or}
use Rattle.session_machine.specs.declared.event.Event.{Event}
use Rattle.session_machine.specs.declared.event.Event.TheVariants.{Launch, Step, Leave}
use Rattle.session_machine.specs.declared.event.Order.{Order}
use Rattle.session_machine.specs.declared.event.Order.TheVariants.{Launch as LaunchOrder, Leave as LeaveOrder, Stop}
use Rattle.session_machine.specs.declared.event.Turn.TheVariants.{Session as SessionTurn}
use Rattle.session_machine.specs.declared.fault.Refusal.{Refusal}
use Rattle.session_machine.specs.declared.fault.EngineFault.{EngineFault}
use Rattle.session_machine.specs.declared.fault.EngineFault.TheVariants as engine_faults
use Rattle.session_machine.specs.Machine.{Machine, Next, next, session_of, turn_in}
use Rattle.session_machine.specs.Engine.{Engine, EngineAnswered, engine_after, engine_answered, engine_step, fault_of, is_quiet_in, turn_for, turn_of}
use Rattle.session_seats.specs.declared.fault.ThreadFault.{ThreadFault}
use Rattle.session_seats.specs.declared.fault.ThreadFault.TheVariants as thread_faults
use Rattle.session_seats.specs.Acts.{NotActed}
use Rattle.session_seats.specs.Orders.{Orders, IsOrder, OrderedAfter}
use Rattle.session_seats.specs.Refusals.{next_event, IsNextIn, IsStuck, MayMeet}
use Rattle.session_crews.specs.Inner.Shared.{is_outside}
use Rattle.session_crews.proofs.Going.{step_as}

-- ---- what is next

none_of : (turn : Option ℕ) → is_none turn ≡ true → turn ≡ None
none_of None is = refl
none_of (Some k) is = absurd (true≢false (sym is))

quiet_in : (orders : Orders) (e : Engine) (event : Event) (m : Option Machine) → e.machine ≡ m → is_quiet_in m ≡ true → next_event None (orders e.history) ≡ Some event → IsNextIn orders e event
quiet_in orders e event None live quiet due = absurd (true≢false (sym quiet))
quiet_in orders e event (Some m) live quiet due =
    record { state = m; live = live; due = ap (λ (turn : Option ℕ). next_event turn (orders e.history)) (none_of (turn_in m) quiet) ∙ due }

-- what is ordered of a quiet engine
pub next_ordered : (orders : Orders) (e : Engine) (order : Order) (event : Event) → is_quiet_in e.machine ≡ true → orders e.history ≡ order → next_event None order ≡ Some event → IsNextIn orders e event
next_ordered orders e order event quiet is due = quiet_in orders e event e.machine refl quiet (ap (next_event None) is ∙ due)

session_in : (turn : Option ℕ) (session : ℕ) → turn_for turn ≡ SessionTurn session → turn ≡ Some session
session_in None session is = absurd cc
session_in (Some k) session is = cc

step_in : (orders : Orders) (e : Engine) (session : ℕ) (m : Option Machine) → e.machine ≡ m → turn_of m ≡ SessionTurn session → IsNextIn orders e (Step session)
step_in orders e session None live turn = absurd cc
step_in orders e session (Some m) live turn =
    record { state = m; live = live; due = ap (λ (t : Option ℕ). next_event t (orders e.history)) (session_in (turn_in m) session turn) }

-- the Step of the session whose turn it is
pub next_step : (orders : Orders) (e : Engine) (session : ℕ) → turn_of e.machine ≡ SessionTurn session → IsNextIn orders e (Step session)
next_step orders e session turn = step_in orders e session e.machine refl turn

is_order_in : (turn : Option ℕ) (order : Order) (event : Event) → next_event turn order ≡ Some event → IsOrder event order
is_order_in (Some session) order event is = let same : event ≡ Step session = cc in subst (λ (e : Event). IsOrder e order) (sym same) tt
is_order_in None (LaunchOrder session block) event is = let same : event ≡ Launch session block = cc in subst (λ (e : Event). IsOrder e (LaunchOrder session block)) (sym same) refl
is_order_in None (LeaveOrder session) event is = let same : event ≡ Leave session = cc in subst (λ (e : Event). IsOrder e (LeaveOrder session)) (sym same) refl
is_order_in None Stop event is = absurd cc

-- what is next is a Step, or ordered
pub is_order : (orders : Orders) (e : Engine) (event : Event) → IsNextIn orders e event → IsOrder event (orders e.history)
is_order orders e event n = is_order_in (turn_in n.state) (orders e.history) event n.due

-- ---- what was met

refused_in : (e : Engine) (event : Event) (n : Result Next Refusal) (fault : EngineFault) → (engine_answered e event n).answer ≡ Err fault
    → (refusal : Refusal) × (n ≡ Err refusal) × (fault ≡ fault_of refusal)
refused_in e event (Err refusal) fault is = (refusal, refl, cc)
refused_in e event (Ok n) fault is = absurd cc

-- the next event was refused
stuck : (orders : Orders) (event : Event) (before after : Engine) (f : EngineFault) → OrderedAfter orders [] before.history → IsNextIn orders before event
    → engine_after before event ≡ record { engine = after; answer = Err f } → IsStuck orders after f
stuck orders event before after f ordered n is =
    let answer = ap (λ (m : Option Machine). (engine_step before event m).answer) (sym n.live) ∙ ap (λ (a : EngineAnswered). a.answer) is in
    let refused = refused_in before event (next before.blocks before.mode n.state event) f answer in
    let here : IsStuck orders before f = record {
      ordered = ordered;
      event = event;
      is_next = n;
      undone = inl (record { refusal = refused.0; refuses = refused.1; told = refused.2 });
    } in
    subst (λ (e : Engine). IsStuck orders e f) (sym (step_as before event before.machine after f is)) here

undone_in : (orders : Orders) (event : Event) (before after : Engine) (f : EngineFault) → OrderedAfter orders [] before.history → IsNextIn orders before event
    → NotActed event before (thread_faults.Engine f) after → MayMeet orders after (thread_faults.Engine f)
undone_in orders event before after engine_faults.Memory ordered n refused = tt
undone_in orders event before after engine_faults.Busy ordered n refused = stuck orders event before after engine_faults.Busy ordered n refused
undone_in orders event before after engine_faults.NotYourTurn ordered n refused = tt
undone_in orders event before after engine_faults.StillBlocked ordered n refused = stuck orders event before after engine_faults.StillBlocked ordered n refused
undone_in orders event before after engine_faults.Idle ordered n refused = stuck orders event before after engine_faults.Idle ordered n refused
undone_in orders event before after engine_faults.Spent ordered n refused = stuck orders event before after engine_faults.Spent ordered n refused
undone_in orders event before after engine_faults.NoSession ordered n refused = stuck orders event before after engine_faults.NoSession ordered n refused
undone_in orders event before after engine_faults.BlockNotAllowed ordered n refused = stuck orders event before after engine_faults.BlockNotAllowed ordered n refused

-- where the next event wasn't done, the fault is one that may be met
pub undone : (orders : Orders) (event : Event) (before after : Engine) (f : ThreadFault) → OrderedAfter orders [] before.history → IsNextIn orders before event
    → NotActed event before f after → MayMeet orders after f
undone orders event before after (thread_faults.Engine f) ordered n not_done = undone_in orders event before after f ordered n not_done
undone orders event before after thread_faults.Memory ordered n not_done = tt
undone orders event before after thread_faults.ThreadRefused ordered n not_done = tt
undone orders event before after thread_faults.Gate ordered n not_done = tt
undone orders event before after (thread_faults.SeatMismatch session) ordered n not_done = absurd not_done
undone orders event before after thread_faults.OtherRun ordered n not_done = absurd not_done

-- an order of a session that isn't there
pub nowhere : (orders : Orders) (e : Engine) (event : Event) → OrderedAfter orders [] e.history → IsNextIn orders e event → e.count < session_of event
    → MayMeet orders e (thread_faults.Engine engine_faults.NoSession)
nowhere orders e event ordered n over = record { ordered = ordered; event = event; is_next = n; undone = inr (over, refl) }

-- that an order was given made no other fault
pub given_fault : (own old new : Option ThreadFault) → old ≡ None → IfSome new (λ f. (old ≡ Some f) ⊎ (f ≡ thread_faults.Engine engine_faults.NoSession))
    → IfSome new (λ f. (own ≡ Some f) ⊎ ((f ≡ thread_faults.Memory) ⊎ (f ≡ thread_faults.Engine engine_faults.NoSession)))
given_fault own old None none is = tt
given_fault own old (Some f) none (inl was) = absurd cc
given_fault own old (Some f) none (inr is) = inr (inr is)

outside_of_engine : (orders : Orders) (e : Engine) (f : EngineFault) → is_outside (thread_faults.Engine f) ≡ true → MayMeet orders e (thread_faults.Engine f)
outside_of_engine orders e engine_faults.NotYourTurn is = tt
outside_of_engine orders e engine_faults.Memory is = absurd (true≢false (sym is))
outside_of_engine orders e engine_faults.Busy is = absurd (true≢false (sym is))
outside_of_engine orders e engine_faults.StillBlocked is = absurd (true≢false (sym is))
outside_of_engine orders e engine_faults.Idle is = absurd (true≢false (sym is))
outside_of_engine orders e engine_faults.Spent is = absurd (true≢false (sym is))
outside_of_engine orders e engine_faults.NoSession is = absurd (true≢false (sym is))
outside_of_engine orders e engine_faults.BlockNotAllowed is = absurd (true≢false (sym is))

-- a fault from outside may be met in any engine
pub outside : (orders : Orders) (e : Engine) (f : ThreadFault) → is_outside f ≡ true → MayMeet orders e f
outside orders e thread_faults.ThreadRefused is = tt
outside orders e thread_faults.Gate is = tt
outside orders e thread_faults.Memory is = tt
outside orders e (thread_faults.Engine f) is = outside_of_engine orders e f is
outside orders e (thread_faults.SeatMismatch session) is = absurd (true≢false (sym is))
outside orders e thread_faults.OtherRun is = absurd (true≢false (sym is))

-- such are those of a thread that isn't started
pub outside_start : (f : ThreadFault) → (f ≡ thread_faults.Memory) ⊎ (f ≡ thread_faults.ThreadRefused) → is_outside f ≡ true
outside_start f (inl is) = ap is_outside is
outside_start f (inr is) = ap is_outside is

-- where none was met before, what the engine refused is what was met
pub told_first : (event : Event) (before after was is : Engine) (old new : Option ThreadFault) (fault : ThreadFault) → was ≡ before → is ≡ after → old ≡ None → new ≡ option_or old (Some fault)
    → NotActed event before fault after → IfSome new (λ f. NotActed event was f is)
told_first event before after was is old new fault from to none noted refused =
    let first : new ≡ Some fault = noted ∙ ap (λ (o : Option ThreadFault). option_or o (Some fault)) none in
    let here : NotActed event was fault is = subst (λ (e : Engine). NotActed event e fault is) (sym from) (subst (λ (e : Engine). NotActed event before fault e) (sym to) refused) in
    subst (λ (o : Option ThreadFault). IfSome o (λ f. NotActed event was f is)) (sym first) here

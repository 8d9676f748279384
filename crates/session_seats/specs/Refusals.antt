-- What may stop a run to which a driver gives its orders: what is next isn't done, or something besides the engine.
use Rattle.std.specs.Prelude.{◌≡◌, ◌⊎◌, ◌<◌, ℕ, List, [], Option, Some, None, Err}
use Rattle.session_machine.specs.declared.event.Event.{Event}
use Rattle.session_machine.specs.declared.event.Event.TheVariants.{Launch, Step, Leave}
use Rattle.session_machine.specs.declared.event.Order.{Order}
use Rattle.session_machine.specs.declared.event.Order.TheVariants.{Launch as LaunchOrder, Leave as LeaveOrder, Stop}
use Rattle.session_machine.specs.declared.event.Mode.{Mode}
use Rattle.session_machine.specs.declared.event.Mode.TheVariants.{Directed}
use Rattle.session_machine.specs.declared.fault.Refusal.{Refusal}
use Rattle.session_machine.specs.declared.fault.EngineFault.{EngineFault}
use Rattle.session_machine.specs.declared.fault.EngineFault.TheVariants as engine_faults
use Rattle.session_machine.specs.declared.reply.HistItem.{HistItem}
use Rattle.session_machine.specs.Machine.{Machine, Blocks, next, opening, session_of, turn_in, Run}
use Rattle.session_machine.specs.Engine.{Engine, fault_of}
use Rattle.session_seats.specs.declared.fault.ThreadFault.{ThreadFault}
use Rattle.session_seats.specs.declared.fault.ThreadFault.TheVariants as thread_faults
use Rattle.session_seats.specs.Orders.{Orders, OrderedAfter}

-- the event that is next: the Step of the session whose turn it is, or else what is ordered
abbrev pub next_event : Option ℕ → Order → Option Event
next_event (Some session) order = Some (Step session)
next_event None (LaunchOrder session block) = Some (Launch session block)
next_event None (LeaveOrder session) = Some (Leave session)
next_event None Stop = None

-- the machine refuses the event so
pub record IsRefused (blocks : Blocks) (mode : Mode) (state : Machine) (event : Event) (fault : EngineFault) : Type 0 where
  pub refusal : Refusal
  pub refuses : next blocks mode state event ≡ Err refusal
  pub told : fault ≡ fault_of refusal

-- the event can't be done in a run of so many sessions beside the control session: the machine refuses it so, or it is of a session that isn't there
abbrev pub IsUndone : Blocks → ℕ → Mode → Machine → Event → EngineFault → Type 0
IsUndone blocks count mode state event fault = IsRefused blocks mode state event fault ⊎ ((count < session_of event) × (fault ≡ engine_faults.NoSession))

-- the event is the engine's next one
pub record IsNextIn (orders : Orders) (e : Engine) (event : Event) : Type 0 where
  pub state : Machine
  pub live : e.machine ≡ Some state
  pub due : next_event (turn_in state) (orders e.history) ≡ Some event

-- what the engine has done is in order, and its next event can't be done
pub record IsStuck (orders : Orders) (e : Engine) (fault : EngineFault) : Type 0 where
  pub ordered : OrderedAfter orders [] e.history
  pub event : Event
  pub is_next : IsNextIn orders e event
  pub undone : IsUndone e.blocks e.count e.mode is_next.state event fault

-- after a history in order, the event that is next can't be done
pub record CannotGoOn (orders : Orders) (blocks : Blocks) (count : ℕ) (mode : Mode) (fault : EngineFault) : Type 0 where
  pub items : List HistItem
  pub state : Machine
  pub run : Run blocks mode (opening count) items state
  pub ordered : OrderedAfter orders [] items
  pub event : Event
  pub due : next_event (turn_in state) (orders items) ≡ Some event
  pub undone : IsUndone blocks count mode state event fault

-- what the threads may meet in a run, as the engine stands at its end: want of memory, a thread that isn't started, a gate, an event that comes out of turn, or one that can't be done
abbrev pub MayMeet : Orders → Engine → ThreadFault → Type 0
MayMeet orders e thread_faults.ThreadRefused = Unit {0}
MayMeet orders e thread_faults.Gate = Unit {0}
MayMeet orders e thread_faults.Memory = Unit {0}
MayMeet orders e (thread_faults.Engine engine_faults.Memory) = Unit {0}
MayMeet orders e (thread_faults.Engine engine_faults.NotYourTurn) = Unit {0}
MayMeet orders e (thread_faults.Engine fault) = IsStuck orders e fault
MayMeet orders e _ = ⊥

-- what may stop a directed run: that, or seats or a run that the threads have left otherwise than they should; a run that they leave before its end is told as out of turn too
abbrev pub MayStop : Orders → Blocks → ℕ → ThreadFault → Type 0
MayStop orders blocks count (thread_faults.Engine engine_faults.Memory) = Unit {0}
MayStop orders blocks count (thread_faults.Engine engine_faults.NotYourTurn) = Unit {0}
MayStop orders blocks count (thread_faults.Engine fault) = CannotGoOn orders blocks count Directed fault
MayStop orders blocks count _ = Unit {0}

-- Histories of the machine, and an engine that keeps one.
use Rattle.std.specs.Prelude.{◌≡◌, ℕ, Bool, false, List, [], ◌∷◌, ◌++◌, Option, Some, None, Result, Ok, Err}
use Rattle.sql_values.specs.declared.value.Value.{Value}
use Rattle.session_machine.specs.declared.event.Event.{Event}
use Rattle.session_machine.specs.declared.event.Mode.{Mode}
use Rattle.session_machine.specs.declared.event.Turn.{Turn}
use Rattle.session_machine.specs.declared.event.Turn.TheVariants.{Session as SessionTurn, Driver, Spent as SpentTurn}
use Rattle.session_machine.specs.declared.reply.Reply.{Reply}
use Rattle.session_machine.specs.declared.reply.HistItem.{HistItem}
use Rattle.session_machine.specs.declared.fault.Refusal.{Refusal}
use Rattle.session_machine.specs.declared.fault.Refusal.TheVariants.{Busy, NotYourTurn, StillBlocked, Idle, NoSession, BlockNotAllowed}
use Rattle.session_machine.specs.declared.fault.EngineFault.{EngineFault}
use Rattle.session_machine.specs.declared.fault.EngineFault.TheVariants.{Busy as BusyFault, NotYourTurn as TurnFault, StillBlocked as BlockedFault, Idle as IdleFault}
use Rattle.session_machine.specs.declared.fault.EngineFault.TheVariants.{Spent as SpentFault, NoSession as SessionFault, BlockNotAllowed as BlockFault}
use Rattle.session_machine.specs.Machine.{Machine, Blocks, Next, Run, is_quiet, next, opening, turn_in, visible}

-- the item is the machine's next one, and leads on to the state
abbrev pub Follows : Blocks → Mode → Machine → HistItem → Machine → Type 0
Follows blocks mode m item after = next blocks mode m item.event ≡ Ok (record { machine = after; reply = item.reply })

-- a history is legal that is a run of the machine from its opening state
abbrev pub IsLegal : Blocks → ℕ → Mode → List HistItem → Type 0
IsLegal blocks count mode items = (after : Machine) × Run blocks mode (opening count) items after

-- an engine: what it was opened over, its state unless it is spent, and its history
pub record Engine : Type 0 where
  pub blocks : Blocks
  pub count : ℕ
  pub mode : Mode
  pub machine : Option Machine
  pub history : List HistItem

abbrev pub opened : Blocks → ℕ → Mode → Engine
opened blocks count mode = record { blocks = blocks; count = count; mode = mode; machine = Some (opening count); history = [] }

abbrev pub fault_of : Refusal → EngineFault
fault_of Busy = BusyFault
fault_of NotYourTurn = TurnFault
fault_of StillBlocked = BlockedFault
fault_of Idle = IdleFault
fault_of NoSession = SessionFault
fault_of BlockNotAllowed = BlockFault

-- an engine that was refused memory in the middle of an event
abbrev pub spent_engine : Engine → Engine
spent_engine e = record e { machine = None }

pub record EngineAnswered : Type 0 where
  pub engine : Engine
  pub answer : Result Reply EngineFault

abbrev pub engine_answered : Engine → Event → Result Next Refusal → EngineAnswered
engine_answered e event (Err refusal) = record { engine = e; answer = Err (fault_of refusal) }
engine_answered e event (Ok n) = record {
  engine = record e { machine = Some n.machine; history = e.history ++ record { event = event; reply = n.reply } ∷ [] };
  answer = Ok n.reply;
}

abbrev pub engine_step : Engine → Event → Option Machine → EngineAnswered
engine_step e event None = record { engine = e; answer = Err SpentFault }
engine_step e event (Some m) = engine_answered e event (next e.blocks e.mode m event)

-- what an event makes of an engine where memory lasts: on an answer the item stands last in the history
abbrev pub engine_after : Engine → Event → EngineAnswered
engine_after e event = engine_step e event e.machine

abbrev pub turn_for : Option ℕ → Turn
turn_for None = Driver
turn_for (Some k) = SessionTurn k

-- whose turn it is
abbrev pub turn_of : Option Machine → Turn
turn_of None = SpentTurn
turn_of (Some m) = turn_for (turn_in m)

abbrev pub visible_in : Option Machine → ℕ → List ℕ → Result (Option (List (List Value))) EngineFault
visible_in None session name = Err SpentFault
visible_in (Some m) session name = shown (visible m session name) where
  shown : Result (Option (List (List Value))) Refusal → Result (Option (List (List Value))) EngineFault
  shown (Ok rows) = Ok rows
  shown (Err refusal) = Err (fault_of refusal)

-- the machine refuses the event nowhere
abbrev pub Goes : Blocks → Mode → Machine → Event → Type 0
Goes blocks mode m event = (after : Next) × (next blocks mode m event ≡ Ok after)

-- the engine isn't spent, and its machine doesn't refuse the event
abbrev pub IsDue : Engine → Event → Type 0
IsDue e event = (m : Machine) × (e.machine ≡ Some m) × Goes e.blocks e.mode m event

-- nothing goes on by itself; of an engine that is spent that isn't said
abbrev pub is_quiet_in : Option Machine → Bool
is_quiet_in None = false
is_quiet_in (Some m) = is_quiet m

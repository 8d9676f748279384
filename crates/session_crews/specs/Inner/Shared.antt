-- What stands behind the lock of a run.
use Rattle.std.specs.Prelude.{◌≡◌, ℕ, zero, ◌^◌, ◌||◌, ◌==◌, nat_lt, bit_or, List, [], slice_index_or, slice_set, Option, Some, None, Bool, true, false, IfSome, is_some, if◌then◌else◌}
use Rattle.session_machine.specs.declared.event.Event.{Event}
use Rattle.session_machine.specs.declared.event.Event.TheVariants.{Launch, Step, Leave}
use Rattle.session_machine.specs.declared.event.Order.{Order}
use Rattle.session_machine.specs.declared.event.Order.TheVariants.{Launch as LaunchOrder, Leave as LeaveOrder, Stop}
use Rattle.session_machine.specs.declared.event.Turn.{Turn}
use Rattle.session_machine.specs.declared.event.Turn.TheVariants.{Session as TurnOf}
use Rattle.session_machine.specs.declared.reply.HistItem.{HistItem}
use Rattle.session_machine.specs.Engine.{Engine, turn_of}
use Rattle.session_machine.specs.Machine.{session_of}
use Rattle.session_crews.specs.declared.shared.Hand.{Hand}
use Rattle.session_crews.specs.declared.shared.Hand.TheVariants.{Session as HandOf, Nobody}
use Rattle.session_seats.specs.declared.fault.ThreadFault.{ThreadFault}
use Rattle.session_seats.specs.declared.fault.ThreadFault.TheVariants as thread_faults
use Rattle.session_machine.specs.declared.fault.EngineFault.TheVariants as engine_faults
use Rattle.session_machine.specs.declared.reply.Reply.{Reply}
use Rattle.session_seats.specs.Seats.{SeatOf, with_item}
use Rattle.session_seats.specs.Orders.{Orders, IsOrder, OrderedAfter}
use Rattle.session_seats.specs.Refusals.{IsNextIn, MayMeet}

-- what stands behind the lock of a run: its place, the engine, the order that was given and is not yet done, whether the driver said Stop, and a fault that was met
pub record SharedOf : Type 0 where
  pub place : ℕ
  pub engine : Engine
  pub order : Option Event
  pub stop : Bool
  pub fault : Option ThreadFault

-- no event is to begin any more
abbrev pub is_over : SharedOf → Bool
is_over s = s.stop || is_some s.fault

-- the order that stands, or else a Step of the session whose turn it is
abbrev pub order_or_turn : Option Event → Turn → Option Event
order_or_turn (Some event) turn = Some event
order_or_turn None (TurnOf session) = Some (Step session)
order_or_turn None _ = None

-- the event that comes next in a run that isn't over
abbrev pub at_hand : SharedOf → Option Event
at_hand s = if is_over s then None else order_or_turn s.order (turn_of s.engine.machine)

-- the event, where it is the session's
abbrev pub own_of : ℕ → Option Event → Option Event
own_of session None = None
own_of session (Some event) = if session_of event == session then Some event else None

-- who looks at the run next: whose event comes next; the control session where none does and the run isn't over
abbrev pub hand_of : Bool → Option Event → Hand
hand_of over (Some event) = HandOf (session_of event)
hand_of true None = Nobody
hand_of false None = HandOf 0

-- who looks at a run next of which so many seats are lent: the control session where it is over and all its seats are there, and nobody while one is out
abbrev pub hand_with : ℕ → Hand → Hand
hand_with zero Nobody = HandOf 0
hand_with _ hand = hand

-- the bit of the run at this place
abbrev pub bit_at : ℕ → ℕ
bit_at place = if nat_lt place 64 then 2 ^ place else 0

-- the run at this place is noted in that session's hand, and all else stays
abbrev pub handed : List ℕ → ℕ → Hand → List ℕ
handed hands place Nobody = hands
handed hands place (HandOf session) = slice_set hands session (bit_or (slice_index_or hands session 0) (bit_at place))

-- the driver's order stands, or the run is to stop
abbrev pub Stands : Order → SharedOf → Type 0
Stands (LaunchOrder session block) s = (s.order ≡ Some (Launch session block)) × (s.stop ≡ false)
Stands (LeaveOrder session) s = (s.order ≡ Some (Leave session)) × (s.stop ≡ false)
Stands Stop s = (s.order ≡ None) × (s.stop ≡ true)

-- an order that was given is the one that stands
abbrev pub IsGiven : Option Event → Order → Type 0
IsGiven None order = Unit {0}
IsGiven (Some event) order = IsOrder event order

-- what was done so far was ordered, and so are the order that was given and the Stop
pub record RunsInOrder (orders : Orders) (items : List HistItem) (order : Option Event) (stop : Bool) : Type 0 where
  pub ordered : OrderedAfter orders [] items
  pub given : IsGiven order (orders items)
  pub stopped : stop ≡ true → orders items ≡ Stop

-- the driver's own orders are these, and unless a fault was met what it keeps fits the history
pub record IsLed (orders driven : Orders) (follows : List HistItem → Type 0) (items : List HistItem) (fault : Option ThreadFault) : Type 0 where
  pub own : driven ≡ orders
  pub keeps : fault ≡ None → follows items

-- an order that is not yet done is what is next, unless a fault was met; and that is one that may be met
pub record IsServed (orders : Orders) (e : Engine) (order : Option Event) (fault : Option ThreadFault) : Type 0 where
  pub next : fault ≡ None → IfSome order (IsNextIn orders e)
  pub met : IfSome fault (MayMeet orders e)

-- the fault says nothing of what the engine was to do next: a thread that isn't started, a gate, want of memory, or an event that came out of turn
abbrev pub is_outside : ThreadFault → Bool
is_outside thread_faults.ThreadRefused = true
is_outside thread_faults.Gate = true
is_outside thread_faults.Memory = true
is_outside (thread_faults.Engine engine_faults.NotYourTurn) = true
is_outside _ = false

-- the event came last in the seat
abbrev pub HasLast : Event → SeatOf → Type 0
HasLast event seat = (held : SeatOf) × (reply : Reply) × (seat ≡ with_item held event reply)

-- What is next in an engine, between two events of a run on one thread.
use Rattle.std.specs.Prelude.{◌≡◌, ℕ, Option, Some}
use Rattle.std.specs.Option.{option_map_or}
use Rattle.session_machine.specs.declared.event.Event.{Event}
use Rattle.session_machine.specs.declared.event.Order.{Order}
use Rattle.session_machine.specs.Machine.{Machine, opening, turn_in, Run}
use Rattle.session_machine.specs.Engine.{Engine}
use Rattle.report_lines.specs.Due.{Launches}
use Rattle.history_laws.specs.Left.{events_left}
use Rattle.session_seats.specs.Refusals.{next_event}

-- the event is next in the engine, by this order; there may be none
pub record IsNextEvent (e : Engine) (order : Order) (event : Option Event) : Type 0 where
  pub state : Machine
  pub live : e.machine ≡ Some state
  pub run : Run e.blocks e.mode (opening e.count) e.history state
  pub is : event ≡ next_event (turn_in state) order

-- how many events may be left to an engine that carries these launches out; none to one that is spent
abbrev pub left_in : Launches → Engine → ℕ
left_in l e = option_map_or (events_left l e.blocks e.count e.history) e.machine 0

-- A run that is over.
use Rattle.std.specs.Prelude.{List}
use Rattle.session_machine.specs.Engine.{Engine}
use Rattle.session_seats.specs.Seats.{SeatOf}

-- the engine as it stood at the end, and the seats
pub record ClosedOf : Type 0 where
  pub state : Engine
  pub seats : List SeatOf

-- That the seats are what an engine's history says.
use Rattle.std.specs.Prelude.{ℕ, List}
use Rattle.session_machine.specs.Engine.{Engine}
use Rattle.session_seats.specs.Seats.{SeatOf, AllFitIn, IsMisfitIn}

-- the control session and the sessions that the engine has beside it have one seat each, which holds the session's items
abbrev pub AllFit : Engine → List SeatOf → Type 0
AllFit engine seats = AllFitIn engine.history engine.count seats

-- the least session whose seats don't fit
abbrev pub IsMisfit : Engine → List SeatOf → ℕ → Type 0
IsMisfit engine seats session = IsMisfitIn engine.history engine.count seats session

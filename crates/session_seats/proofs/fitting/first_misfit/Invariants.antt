use Rattle.std.proofs.Common.{◌<◌, ℕ}
use Rattle.session_seats.specs.Seats.{FitsIn}
use Rattle.session_seats.proofs.fitting.first_misfit.Given as goal

abbrev pub invariant-loop-session : goal.invariant-loop-session
invariant-loop-session l = (t : ℕ) → t < l.session → FitsIn l.history l.sessions l.seats t

use Rattle.std.proofs.Common.{◌≡◌, map}
use Rattle.std.specs.List.{range_with_len}
use Rattle.session_seats.specs.Seats.{empty_seat}
use Rattle.session_seats.proofs.seat.empty_seats.Given as goal

abbrev pub invariant-loop-session : goal.invariant-loop-session
invariant-loop-session l = l.seats.items ≡ map empty_seat (range_with_len 0 l.session)

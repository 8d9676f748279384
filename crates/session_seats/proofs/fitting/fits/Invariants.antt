use Rattle.std.proofs.Common.{◌≡◌, ◌↔◌, drop, true}
use Rattle.session_seats.specs.Seats.{seats_of, seat_if}
use Rattle.session_seats.proofs.fitting.fits.Given as goal

abbrev pub invariant-loop-seat : goal.invariant-loop-seat
invariant-loop-seat l = (seats_of l.session l.seats ≡ seat_if true l.session l.history) ↔ (seats_of l.session (drop l.seat-index l.seats) ≡ seat_if l.wanted l.session l.history)

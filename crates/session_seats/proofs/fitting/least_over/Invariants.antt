use Rattle.std.proofs.Common.{◌≡◌, ◌≢◌, ◌↔◌, ◌<◌, ℕ, [], true, drop}
use Rattle.std.specs.Prelude.{IfSome}
use Rattle.session_seats.specs.Seats.{seats_of}
use Rattle.session_seats.specs.Inner.Least.{is_less}
use Rattle.session_seats.proofs.fitting.least_over.Given as goal

abbrev pub invariant-loop-seat : goal.invariant-loop-seat
invariant-loop-seat l = record {
  found : IfSome l.least (λ t. (l.last < t) × (seats_of t l.seats ≢ []));
  lower : (s : ℕ) → l.last < s → is_less s l.least ≡ true → (seats_of s l.seats ≡ []) ↔ (seats_of s (drop l.seat-index l.seats) ≡ []);
}

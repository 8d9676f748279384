use Rattle.std.proofs.Common.{arith}
use Rattle.std.proofs.lemmas.List.FromFn.{map-range_with_len_more}
use Rattle.session_seats.specs.Seats.{empty_seat}
use Rattle.session_seats.proofs.seat.empty_seats.Goals as goal

pub loop-session-preserved : goal.loop-session-preserved
loop-session-preserved c =
    let next = map-range_with_len_more empty_seat 0 c.loop-session.session c.loop-session.session (omega arith) in
    grind (arith, next)

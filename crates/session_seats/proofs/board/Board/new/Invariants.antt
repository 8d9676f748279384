use Rattle.std.specs.Prelude.{◌≡◌, vec_len}
use Rattle.session_seats.proofs.board.Board.new.Given as goal

abbrev pub invariant-loop : goal.invariant-loop
invariant-loop l = vec_len l.desks ≡ l.counter

use Rattle.std.proofs.Common.{◌≡◌, ◌+◌, length}
use Rattle.session_crews.proofs.free.start_scripts.Given as goal

abbrev pub invariant-loop-seat : goal.invariant-loop-seat
invariant-loop-seat g l = length l.crew.items ≡ length l.initial.crew.items + l.seat-index

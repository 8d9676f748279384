use Rattle.std.specs.Prelude.{◌≡◌, vec_len}
use Rattle.session_crews.proofs.directed.slots_for.Given as goal

abbrev pub invariant-loop : goal.invariant-loop
invariant-loop g l = vec_len l.slots ≡ l.counter

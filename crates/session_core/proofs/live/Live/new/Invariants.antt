use Rattle.std.proofs.Common.{◌≡◌, replicate}
use Rattle.session_machine.specs.Machine.{at_rest}
use Rattle.session_core.proofs.live.Live.new.Given as goal

abbrev pub invariant-loop : goal.invariant-loop
invariant-loop g l = l.sessions.items ≡ replicate l.counter at_rest

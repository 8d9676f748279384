use Rattle.std.proofs.Common.{◌≡◌, None, replicate}
use Rattle.session_crews.proofs.queue.Queue.new.Given as goal

abbrev pub invariant-loop : goal.invariant-loop
invariant-loop g l = l.kept.items ≡ replicate l.counter None

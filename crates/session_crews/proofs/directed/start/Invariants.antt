use Rattle.std.proofs.Common.{◌≡◌, ◌+◌, length}
use Rattle.session_crews.proofs.directed.start.Given as goal

abbrev pub invariant-loop-session : goal.invariant-loop-session
invariant-loop-session g l = record {
  crew : length l.crew.items + 1 ≡ length l.initial.crew.items + l.session;
  same : l.counter.sessions ≡ l.initial.counter.sessions;
}

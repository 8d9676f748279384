use Rattle.std.proofs.Common.{◌≡◌, ◌+◌, length}
use Rattle.session_crews.proofs.directed.start_one.Given as goal

abbrev pub invariant-loop : goal.invariant-loop
invariant-loop g l = record {
  crew : length l.crew.items ≡ length l.initial.crew.items;
  waiting : l.counter-2.waiting + l.counter ≡ l.initial.counter-2.waiting;
  same : l.counter-2.sessions ≡ l.initial.counter-2.sessions;
}

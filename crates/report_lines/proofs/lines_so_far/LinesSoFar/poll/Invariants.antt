use Rattle.std.proofs.Common.{◌≡◌, ◌-◌, ◌≤◌, length}
use Rattle.report_lines.specs.Code.Walk.{polled, all_polls}
use Rattle.report_lines.proofs.lines_so_far.LinesSoFar.poll.Given as goal

abbrev pub invariant-loop-turn : goal.invariant-loop-turn
invariant-loop-turn l = record {
  launched : l.self.launched ≡ l.initial.self.launched;
  grown : length l.initial.self.lines ≤ length l.self.lines;
  lines : polled l.run l.m (l._turn-end - l._turn) l.self.lines ≡ all_polls l.run l.m l.initial.self.lines;
}

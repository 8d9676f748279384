use Rattle.std.proofs.Common.{◌≡◌, ◌-◌, ◌≤◌, length}
use Rattle.std.specs.List.{fold}
use Rattle.report_lines.specs.Report.{active}
use Rattle.report_lines.specs.Inner.Trying.{instances, chosen_retry, retried_from}
use Rattle.report_lines.proofs.lines_so_far.LinesSoFar.go_through.Given as goal

abbrev pub invariant-loop-turn : goal.invariant-loop-turn
invariant-loop-turn l = record {
  launched : l.self.launched ≡ l.initial.self.launched;
  lines : retried_from l.run l.m l.chosen l.self.lines l.self.launched l.place ≡ fold (chosen_retry l.run l.m l.chosen) l.initial.self.lines (instances l.initial.self.launched);
  grown : length l.initial.self.lines ≤ length l.self.lines;
  fewer : length (active l.self.lines l.self.launched) - l.place ≤ l._turn-end - l._turn;
}

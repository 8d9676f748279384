use Rattle.std.proofs.Common.{◌≡◌, ◌&&◌, drop, nat_lt}
use Rattle.std.specs.List.{list_any}
use Rattle.report_lines.specs.Inner.Trying.{is_marked}
use Rattle.report_lines.proofs.lines_so_far.LinesSoFar.has_marked.Given as goal

abbrev pub invariant-loop-waiting : goal.invariant-loop-waiting
invariant-loop-waiting l = list_any (λ j. nat_lt j l.joined && is_marked l.run j) (drop l.waiting-index l.waiting-items) ≡ list_any (λ j. nat_lt j l.joined && is_marked l.run j) l.waiting-items

use Rattle.std.proofs.Common.{◌≡◌, drop}
use Rattle.std.specs.List.{list_any}
use Rattle.report_lines.specs.Code.Walk.{is_of}
use Rattle.report_lines.proofs.lines_so_far.LinesSoFar.has_of.Given as goal

abbrev pub invariant-loop-waiting : goal.invariant-loop-waiting
invariant-loop-waiting l = list_any (is_of l.run l.session) (drop l.waiting-index l.waiting-items) ≡ list_any (is_of l.run l.session) l.waiting-items

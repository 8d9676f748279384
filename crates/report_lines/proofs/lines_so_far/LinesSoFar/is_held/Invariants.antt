use Rattle.std.proofs.Common.{◌≡◌, drop}
use Rattle.std.specs.List.{list_any}
use Rattle.report_lines.specs.Code.Walk.{is_awaited}
use Rattle.report_lines.proofs.lines_so_far.LinesSoFar.is_held.Given as goal

abbrev pub invariant-loop-waiting : goal.invariant-loop-waiting
invariant-loop-waiting l = list_any (is_awaited l.run l.entry) (drop l.waiting-index l.waiting-items) ≡ list_any (is_awaited l.run l.entry) l.waiting-items

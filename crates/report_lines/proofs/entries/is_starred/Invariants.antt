use Rattle.std.proofs.Common.{◌≡◌, drop}
use Rattle.std.specs.List.{list_any}
use Rattle.report_lines.specs.Code.Walk.{is_star}
use Rattle.report_lines.proofs.entries.is_starred.Given as goal

abbrev pub invariant-loop-marker : goal.invariant-loop-marker
invariant-loop-marker l = list_any is_star (drop l.marker-index l.marker-items) ≡ list_any is_star l.marker-items

use Rattle.std.proofs.Common.{◌≡◌, drop}
use Rattle.std.specs.List.{list_any}
use Rattle.spec_parser.specs.Trees.{entry_view}
use Rattle.report_lines.specs.Code.Walk.{names}
use Rattle.report_lines.proofs.entries.waits_for.Given as goal

abbrev pub invariant-loop-marker : goal.invariant-loop-marker
invariant-loop-marker l = list_any (names (entry_view l.other)) (drop l.marker-index l.marker-items) ≡ list_any (names (entry_view l.other)) l.marker-items

use Rattle.std.proofs.Common.{◌≡◌, drop}
use Rattle.std.specs.List.{list_any}
use Rattle.report_lines.specs.Starts.{ends_in}
use Rattle.report_text.proofs.segments.is_over.Given as goal

abbrev pub invariant-loop-item : goal.invariant-loop-item
invariant-loop-item l = list_any (ends_in l.session) (drop l.item-index l.segment) ≡ list_any (ends_in l.session) l.segment

use Rattle.std.proofs.Common.{◌≡◌, ◌↔◌, true, Contains, sym, subst}
use Rattle.report_lines.specs.Report.{Report, reports}
use Rattle.report_lines.specs.Tries.{tries, IsReportPoint}
use Rattle.report_lines.proofs.ReportPoints.{points_are_least as law}
use Rattle.report_lines.proofs.Same.{report_is}
use Rattle.report_lines.proofs.laws.each_is_reported_at_its_first_chance.Goals as goal

pub returns : goal.returns
returns _ =
    λ c count i line. subst (λ (r : Report). (Contains r.lines line × (reports i line ≡ true)) ↔ IsReportPoint c (tries c count) i line) (sym (report_is c count)) (law c count i line)

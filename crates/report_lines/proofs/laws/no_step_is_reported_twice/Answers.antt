use Rattle.std.proofs.Common.{◌≤◌, count_by, sym, subst}
use Rattle.report_lines.specs.Report.{Report, reports}
use Rattle.report_lines.proofs.ReportPoints.{reported_once as law}
use Rattle.report_lines.proofs.Same.{report_is}
use Rattle.report_lines.proofs.laws.no_step_is_reported_twice.Goals as goal

pub returns : goal.returns
returns _ = λ c count i. subst (λ (r : Report). count_by (reports i) r.lines ≤ 1) (sym (report_is c count)) (law c count i)

use Rattle.std.proofs.Common.{ap, ◌∙◌}
use Rattle.report_lines.specs.Report.{Report}
use Rattle.report_lines.proofs.Tried.{lines_are_said as law}
use Rattle.report_lines.proofs.Same.{report_is}
use Rattle.report_lines.proofs.laws.lines_are_what_the_tries_say.Goals as goal

pub returns : goal.returns
returns _ = λ c count. ap (λ (r : Report). r.lines) (report_is c count) ∙ law c count

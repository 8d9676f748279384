use Rattle.report_lines.proofs.Fronts.{due_stays as law}
use Rattle.report_lines.proofs.laws.what_was_due_stays.Goals as goal

pub returns : goal.returns
returns c = law

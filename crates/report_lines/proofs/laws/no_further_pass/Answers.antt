use Rattle.report_lines.proofs.Polls.{more_passes as law}
use Rattle.report_lines.proofs.laws.no_further_pass.Goals as goal

pub returns : goal.returns
returns c = law

use Rattle.report_text.proofs.Pushing.{pushed2}
use Rattle.report_text.proofs.line_text.push_waiting.Goals as goal

pub returns : goal.returns
returns c = pushed2 _ _ _ _ _ _ c.in_ok-push_step_sql.ensures c.push.ensures.bytes

use Rattle.report_text.proofs.Pushing.{pushed3}
use Rattle.report_text.proofs.fault_text.push_position_fault.Goals as goal

pub returns : goal.returns
returns c = pushed3 _ _ _ _ _ _ _ _ c.in_ok-push.ensures.bytes c.in_ok-push_number.ensures c.push-2.ensures.bytes

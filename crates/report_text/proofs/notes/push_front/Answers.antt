use Rattle.report_text.proofs.Pushing.{pushed3}
use Rattle.report_text.proofs.notes.push_front.Goals as goal

pub returns : goal.returns
returns c = pushed3 _ _ _ _ _ _ _ _ c.in_ok-push.ensures.bytes c.in_ok-push_whose.ensures.text c.push-2.ensures.bytes

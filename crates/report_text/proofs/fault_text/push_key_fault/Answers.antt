use Rattle.std.proofs.Common.{◌++◌, ◌∙◌, ap}
use Rattle.iso_lexer.specs.Devices.{page_text}
use Rattle.report_text.proofs.Pushing.{pushed3}
use Rattle.report_text.proofs.fault_text.push_key_fault.Goals as goal

pub returns : goal.returns
returns c =
    pushed3 _ _ _ _ _ _ _ _ c.in_ok-push.ensures.bytes (c.in_ok-push-2.ensures.bytes ∙ ap (λ l. page_text c.push.new.self ++ l) c.text.ensures) c.push-3.ensures.bytes

use Rattle.outcome_verdicts.proofs.Capped.{numbered}
use Rattle.outcome_verdicts.proofs.numbers.step_number.Goals as goal

pub returns : goal.returns
returns c =
    numbered c.args.spec.now c.as_slice-sessions.result.now c.args.session c.args.step c.saturating_sub.result c.min-before.result c.with_steps.result c.as_slice-sessions.ensures.value
    c.saturating_sub.ensures c.min-before.ensures c.with_steps.ensures

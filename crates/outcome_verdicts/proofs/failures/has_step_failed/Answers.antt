use Rattle.std.proofs.Common.{◌∙◌}
use Rattle.spec_parser.specs.Trees.{spec_view}
use Rattle.outcome_verdicts.specs.Failures.{number_of}
use Rattle.outcome_verdicts.proofs.Capped.{failed_capped}
use Rattle.outcome_verdicts.proofs.failures.has_step_failed.Goals as goal

pub returns : goal.returns
returns c =
    c.has_failed_at.ensures
    ∙ failed_capped c.args.outcome.now.answers c.deref.result.now (number_of (spec_view c.args.spec.now) c.args.session c.args.step) c.step_number.result c.deref.ensures.value
    c.step_number.ensures

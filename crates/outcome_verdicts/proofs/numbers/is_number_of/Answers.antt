use Rattle.spec_parser.specs.Trees.{spec_view}
use Rattle.outcome_verdicts.specs.Failures.{number_of}
use Rattle.outcome_verdicts.proofs.Capped.{same_capped}
use Rattle.outcome_verdicts.proofs.numbers.is_number_of.Goals as goal

pub returns : goal.returns
returns c = same_capped (number_of (spec_view c.args.spec.now) c.args.session c.args.step) c.step_number.result c.args.number c.step_number.ensures c.requires

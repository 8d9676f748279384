use Rattle.spec_parser.proofs.WholeLaws.{one_answer}
use Rattle.spec_parser.proofs.laws.one_answer.Goals as goal

pub returns : goal.returns
returns c = one_answer c.one_reading.ensures

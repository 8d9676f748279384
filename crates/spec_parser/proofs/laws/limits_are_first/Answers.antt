use Rattle.spec_parser.proofs.Exact.{limits_first, limits_are_names}
use Rattle.spec_parser.proofs.laws.limits_are_first.Goals as goal

pub returns : goal.returns
returns c = record { tokens = limits_first; texts = limits_are_names }

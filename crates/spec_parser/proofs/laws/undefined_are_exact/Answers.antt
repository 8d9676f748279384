use Rattle.spec_parser.proofs.Exact.{steps_are_undefined, markers_are_undefined, undefined_are_read}
use Rattle.spec_parser.proofs.laws.undefined_are_exact.Goals as goal

pub returns : goal.returns
returns c = record { steps = steps_are_undefined; markers = markers_are_undefined; only = undefined_are_read }

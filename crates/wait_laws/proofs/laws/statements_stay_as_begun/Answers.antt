use Rattle.wait_laws.proofs.Resumed.{statements_stay_as_begun}
use Rattle.wait_laws.proofs.laws.statements_stay_as_begun.Goals as goal

pub returns : goal.returns
returns c = statements_stay_as_begun

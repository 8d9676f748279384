use Rattle.wait_laws.proofs.Again.{statements_go_on_in_their_view}
use Rattle.wait_laws.proofs.laws.statements_go_on_in_their_view.Goals as goal

pub returns : goal.returns
returns c = statements_go_on_in_their_view

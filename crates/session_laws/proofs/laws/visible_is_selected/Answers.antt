use Rattle.session_laws.proofs.Selecting.{visible_is_selected}
use Rattle.session_laws.proofs.laws.visible_is_selected.Goals as goal

pub returns : goal.returns
returns c = visible_is_selected

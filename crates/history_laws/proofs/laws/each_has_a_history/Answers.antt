use Rattle.history_laws.proofs.Whole.{one_each}
use Rattle.history_laws.proofs.laws.each_has_a_history.Goals as goal

pub returns : goal.returns
returns c = one_each c.specs_have_their_blocks.ensures c.regular_histories_are_there.ensures c.each_has_one_history.ensures

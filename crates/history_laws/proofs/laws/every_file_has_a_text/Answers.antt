use Rattle.history_laws.proofs.Texts.{has_text}
use Rattle.history_laws.proofs.laws.every_file_has_a_text.Goals as goal

pub returns : goal.returns
returns c = has_text c.each_has_a_history.ensures c.every_file_is_one_thing.ensures c.one_text.ensures

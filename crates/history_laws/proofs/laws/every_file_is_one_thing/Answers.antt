use Rattle.history_laws.proofs.Whole.{one_thing}
use Rattle.history_laws.proofs.laws.every_file_is_one_thing.Goals as goal

pub returns : goal.returns
returns c = one_thing c.one_file.ensures

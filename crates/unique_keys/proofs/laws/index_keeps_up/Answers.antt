use Rattle.std.proofs.Common.{refl}
use Rattle.unique_keys.proofs.Keeping.{keeps_up}
use Rattle.unique_keys.proofs.Kept.{kept_empty, goes_on}
use Rattle.unique_keys.proofs.laws.index_keeps_up.Goals as goal

pub returns-clause-stays : goal.returns-clause-stays
returns-clause-stays c = (refl, keeps_up)

pub returns-clause-goes_on : goal.returns-clause-goes_on
returns-clause-goes_on c = (kept_empty, goes_on)

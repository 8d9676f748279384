use Rattle.places.proofs.Striking.{kept_others}
use Rattle.places.proofs.laws.striking_one_of_distinct.Goals as goal

pub returns : goal.returns
returns c = kept_others

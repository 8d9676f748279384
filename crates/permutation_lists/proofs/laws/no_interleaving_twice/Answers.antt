use Rattle.permutation_lists.proofs.Rising.{no_interleaving_twice as law}
use Rattle.permutation_lists.proofs.laws.no_interleaving_twice.Goals as goal

pub returns : goal.returns
returns c = law

use Rattle.permutation_lists.proofs.Only.{no_other_interleavings as law}
use Rattle.permutation_lists.proofs.laws.no_other_interleavings.Goals as goal

pub returns : goal.returns
returns c = law

use Rattle.permutation_lists.proofs.Rising.{interleavings_rise as law}
use Rattle.permutation_lists.proofs.laws.interleavings_rise.Goals as goal

pub returns : goal.returns
returns c = law

use Rattle.permutation_lists.proofs.Members.{interleavings_keep_counts as law}
use Rattle.permutation_lists.proofs.laws.interleavings_keep_counts.Goals as goal

pub returns : goal.returns
returns c = law

use Rattle.history_laws.proofs.Whole.{blocks_there}
use Rattle.history_laws.proofs.laws.specs_have_their_blocks.Goals as goal

pub returns : goal.returns
returns c = blocks_there c.specs_stand.ensures c.specs_are_slices.ensures (λ counts list. (c.interleavings_keep_counts.ensures counts list).0)

use Rattle.std.proofs.Common.{length}
use Rattle.spec_parser.specs.Trees.{spec_view}
use Rattle.permutation_lists.specs.Permutations.{permutations_of}
use Rattle.spec_files.specs.Lists.{listed}
use Rattle.spec_files.proofs.Listing.{SoFar}
use Rattle.spec_files.proofs.list.list_permutations.Given as goal

abbrev pub invariant-loop-permutations : goal.invariant-loop-permutations
invariant-loop-permutations g l =
    SoFar (g.W.Sink.put_so_far l.fn.out) (g.W.Sink.put_so_far l.out) (listed (spec_view l.spec) l.limit (permutations_of (spec_view l.spec))) (listed (spec_view l.spec) l.left l.permutations.more)

abbrev pub decreases-loop-permutations : goal.decreases-loop-permutations
decreases-loop-permutations g l = length l.permutations.more

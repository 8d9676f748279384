use Rattle.std.proofs.Common.{List, length}
use Rattle.std.specs.Prelude.{Contains}
use Rattle.sql_blocks.specs.Blocks.{blocks_of}
use Rattle.spec_parser.specs.Trees.{EntryTree, spec_view}
use Rattle.permutation_lists.specs.Permutations.{permutations_of}
use Rattle.spec_files.proofs.Printing.{SoFar}
use Rattle.plain_runs.proofs.print.print_all.Given as goal

abbrev pub invariant-loop-permutations : goal.invariant-loop-permutations
invariant-loop-permutations g l =
    (SoFar (spec_view l.spec) (blocks_of l.blocks) (g.W.Sink.put_so_far l.fn.out) (g.W.Sink.put_so_far l.out) (g.N.Sink.put_so_far l.fn.notes) (g.N.Sink.put_so_far l.notes)
    l.limit (permutations_of (spec_view l.spec)) l.left l.permutations.more)
    × ((p : List EntryTree) → Contains l.permutations.more p → Contains (permutations_of (spec_view l.spec)) p)

abbrev pub decreases-loop-permutations : goal.decreases-loop-permutations
decreases-loop-permutations g l = length l.permutations.more

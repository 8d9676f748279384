use Rattle.std.proofs.Common.{length}
use Rattle.std.specs.Prelude.{map, string_bytes}
use Rattle.sql_blocks.specs.Blocks.{blocks_of}
use Rattle.spec_parser.specs.Trees.{spec_view}
use Rattle.permutation_lists.specs.Permutations.{permutations_of}
use Rattle.outcome_counts.specs.Counts.{counts_view}
use Rattle.outcomes.proofs.Fates.{SoFar}
use Rattle.outcomes.proofs.counting.count_all.Given as goal

abbrev pub invariant-loop-counted : goal.invariant-loop-counted
invariant-loop-counted g l = SoFar (spec_view l.spec) (blocks_of l.blocks) (map string_bytes l.names) (permutations_of (spec_view l.spec)) l.permutations.more l.number (counts_view l.counted)

abbrev pub decreases-loop-counted : goal.decreases-loop-counted
decreases-loop-counted g l = length l.permutations.more

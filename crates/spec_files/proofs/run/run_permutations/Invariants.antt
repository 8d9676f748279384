use Rattle.std.specs.Prelude.{◌≤◌, Contains, List, length}
use Rattle.std.specs.List.{All}
use Rattle.sql_blocks.specs.Blocks.{blocks_of}
use Rattle.spec_parser.specs.Trees.{EntryTree, spec_view}
use Rattle.permutation_lists.specs.Permutations.{permutations_of}
use Rattle.spec_files.specs.Drafts.{IsDraft}
use Rattle.spec_files.specs.Inner.Drafts.{to_come}
use Rattle.spec_files.proofs.Printing.{SoFar}
use Rattle.spec_files.proofs.run.run_permutations.Given as goal

abbrev pub invariant-loop-ahead : goal.invariant-loop-ahead
invariant-loop-ahead g l =
    SoFar (spec_view l.file.spec) (blocks_of l.file.blocks.items) (g.W.Sink.put_so_far l.fn.out) (g.W.Sink.put_so_far l.out) (g.N.Sink.put_so_far l.fn.notes) (g.N.Sink.put_so_far l.notes)
    l.limit (permutations_of (spec_view l.file.spec)) l.ahead.left (to_come l.ahead.drafts.items l.ahead.behind.more)
    × All (IsDraft (spec_view l.file.spec) (blocks_of l.file.blocks.items)) l.ahead.drafts.items
    × (length l.ahead.drafts.items ≤ l.ahead.left)
    × ((p : List EntryTree) → Contains (to_come l.ahead.drafts.items l.ahead.behind.more) p → Contains (permutations_of (spec_view l.file.spec)) p)

abbrev pub decreases-loop-ahead : goal.decreases-loop-ahead
decreases-loop-ahead g l = l.ahead.left

use Rattle.std.proofs.Common.{◌≡◌, take}
use Rattle.std.specs.Prelude.{map}
use Rattle.spec_parser.specs.Trees.{entry_view}
use Rattle.permutation_lists.specs.Permutations.{entries_of}
use Rattle.permutation_lists.proofs.turns.entries_of.Given as goal

abbrev pub invariant-loop-place : goal.invariant-loop-place
invariant-loop-place l = map entry_view l.entries.items ≡ entries_of (take l.place l.turns)

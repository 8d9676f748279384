use Rattle.std.proofs.Common.{◌≡◌, ◌≤◌, ◌-◌, ◌++◌, length}
use Rattle.spec_files.specs.Inner.Drafts.{lists_of}
use Rattle.spec_files.proofs.ahead.take_next.Given as goal

abbrev pub invariant-loop-permutations : goal.invariant-loop-permutations
invariant-loop-permutations l = (l.fn.permutations.more ≡ lists_of l.taken.items ++ l.permutations.more) × (length l.taken.items ≤ l.most)

abbrev pub decreases-loop-permutations : goal.decreases-loop-permutations
decreases-loop-permutations l = l.most - length l.taken.items

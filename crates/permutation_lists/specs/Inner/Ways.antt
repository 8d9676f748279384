-- What the permutations that are still to come are, of the two ways in which they come.
use Rattle.std.specs.Prelude.{ℕ, ◌^◌, ◌<◌, List, length, map}
use Rattle.std.specs.List.{AllByRecursion}
use Rattle.spec_parser.specs.Trees.{entry_view, perm_view}
use Rattle.permutation_lists.specs.declared.permutations.Way.{Way}
use Rattle.permutation_lists.specs.declared.permutations.Way.TheVariants.{Lines, All}
use Rattle.permutation_lists.specs.Permutations.{Coming, entries_of}

abbrev pub coming : Way → Coming
coming (Lines here more) = record { here = map entry_view here.now; more = map perm_view more.now }
coming (All here turns more) = record { here = map entry_view here.items; more = map entries_of more }

-- each list of turns is short enough that its steps have numbers
abbrev pub AreShort : List (List ℕ) → Type 0
AreShort lists = AllByRecursion (λ (turns : List ℕ). length turns < 2 ^ 32) lists

-- the interleavings that are still to come are short
abbrev pub AreShortLists : Way → Type 0
AreShortLists (Lines here more) = Unit {0}
AreShortLists (All here turns more) = AreShort more

-- To be believed. The permutations of a spec: its permutation lines, or all interleavings of its sessions' steps.
-- The isolation README: a permutation line "specifies a list of steps that are run in that order"; with no permutation lines "all possible interleavings" run.
use Rattle.std.specs.Prelude.{ℕ, ◌==◌, List, [], length, map, take, count_by, if◌then◌else◌}
use Rattle.std.specs.List.{enumerate_from}
use Rattle.permutation_lists.specs.Interleavings.{interleavings}
use Rattle.spec_parser.specs.Trees.{SessionTree, EntryTree, SpecTree}

-- the entries of turns, each of which is a session's number: a session's turns are its steps, in their order
abbrev pub entries_of : List ℕ → List EntryTree
entries_of turns = map (λ p. record { session = p.1; step = count_by (λ x. x == p.1) (take p.0 turns); markers = [] }) (enumerate_from 0 turns)

-- the permutation lines; without any, all interleavings of as many turns as each session has steps
unfoldable pub permutations_of : SpecTree → List (List EntryTree)
permutations_of spec =
    if length spec.perms == 0 then map entries_of (interleavings (map (λ (s : SessionTree). length s.steps) spec.sessions)) else spec.perms

-- the permutation that comes now, which is none at first, and those behind it
pub record Coming : Type 0 where
  pub here : List EntryTree
  pub more : List (List EntryTree)

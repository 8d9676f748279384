-- Permutations by what came of them: each is counted once.
use Rattle.std.specs.Prelude.{◌≡◌, ℕ, ◌+◌, ◌<◌, ◌^◌, ◌==◌, Bool, true, false, List, [], ◌∷◌, length, map, count_by, sum, slice_index, slice_index_or}
use Rattle.outcome_counts.specs.declared.outcome.RunOutcome.{RunOutcome}
use Rattle.outcome_counts.specs.declared.counted.Group.{Group}
use Rattle.outcome_counts.specs.declared.counted.Counted.{Counted}
use Rattle.outcome_counts.specs.Outcomes.{SameOutcome}

-- what came of a permutation: it starts a step of a session that waits, it ends with a step that waits, or it runs to its end
pub data Fate : Type 0 where
  blocked : Fate
  waiting : Fate
  whole : RunOutcome → Fate

-- where a permutation is counted: with those of its kind, or with those of an outcome, which has a number
pub data Place : Type 0 where
  at_blocked : Place
  at_waiting : Place
  at_outcome : ℕ → Place

-- the outcomes, and how many permutations have each; how many can't be run, and how many end in a wait
pub record Counts : Type 0 where
  pub blocked : ℕ
  pub waiting : ℕ
  pub outcomes : List RunOutcome
  pub counts : List ℕ

abbrev pub counts_view : Counted → Counts
counts_view c = record {
  blocked = c.blocked;
  waiting = c.waiting;
  outcomes = map (λ (g : Group). g.outcome) c.groups.items;
  counts = map (λ (g : Group). g.count) c.groups.items;
}

-- the permutation belongs there: to an outcome if its own is the same
abbrev pub Belongs : List RunOutcome → Fate → Place → Type 0
Belongs outcomes blocked at_blocked = Unit {0}
Belongs outcomes waiting at_waiting = Unit {0}
Belongs outcomes (whole o) (at_outcome k) = (k < length outcomes) × ((d : RunOutcome) → SameOutcome (slice_index_or outcomes k d) o)
Belongs outcomes fate place = ⊥

abbrev pub is_blocked : Place → Bool
is_blocked place = elim place [ at_blocked ↦ true | at_waiting ↦ false | at_outcome k ↦ false ]

abbrev pub is_waiting : Place → Bool
is_waiting place = elim place [ at_blocked ↦ false | at_waiting ↦ true | at_outcome k ↦ false ]

abbrev pub is_outcome : ℕ → Place → Bool
is_outcome number place = elim place [ at_blocked ↦ false | at_waiting ↦ false | at_outcome k ↦ k == number ]

-- each permutation has one place, to which it belongs
abbrev pub AllBelong : List RunOutcome → List Fate → List Place → Type 0
AllBelong outcomes [] [] = Unit {0}
AllBelong outcomes (fate ∷ fates) (place ∷ places) = Belongs outcomes fate place × AllBelong outcomes fates places
AllBelong outcomes fates places = ⊥

-- the permutations are counted: each at its one place; what is counted there is how many have it, and that adds up to all of them; no two outcomes are the same
pub record IsCounted (fates : List Fate) (c : Counts) : Type 0 where
  pub places : List Place
  pub each : AllBelong c.outcomes fates places
  pub blocked : c.blocked ≡ count_by is_blocked places
  pub waiting : c.waiting ≡ count_by is_waiting places
  pub long : length c.counts ≡ length c.outcomes
  pub counts : (k : ℕ) → k < length c.counts → slice_index c.counts k ≡ count_by (is_outcome k) places
  pub total : c.blocked + c.waiting + sum c.counts ≡ length fates
  pub apart : (j k : ℕ) (d : RunOutcome) → j < k → k < length c.outcomes → SameOutcome (slice_index_or c.outcomes j d) (slice_index_or c.outcomes k d) → ⊥

-- each count has room for one more permutation
pub record HasRoom (c : Counts) : Type 0 where
  pub blocked : c.blocked + 1 < 2 ^ 64
  pub waiting : c.waiting + 1 < 2 ^ 64
  pub counts : (k : ℕ) → slice_index c.counts k + 1 < 2 ^ 64

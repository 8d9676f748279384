-- One more permutation is counted.
use Rattle.std.specs.Prelude.{◌≡◌, ℕ, ◌+◌, ◌<◌, List, [], ◌∷◌, ◌++◌, length, map, slice_index, slice_index_or, slice_set}
use Rattle.outcome_counts.specs.declared.outcome.RunOutcome.{RunOutcome}
use Rattle.outcome_counts.specs.declared.counted.Group.{Group}
use Rattle.outcome_counts.specs.Outcomes.{SameOutcome}
use Rattle.outcome_counts.specs.Counts.{Fate, blocked, waiting, whole, Counts, IsCounted}

-- the outcome of this number is the same
abbrev pub IsAt : List RunOutcome → RunOutcome → ℕ → Type 0
IsAt outcomes o k = (k < length outcomes) × ((d : RunOutcome) → SameOutcome (slice_index_or outcomes k d) o)

-- none of the outcomes is the same
abbrev pub IsNew : List RunOutcome → RunOutcome → Type 0
IsNew outcomes o = (k : ℕ) (d : RunOutcome) → k < length outcomes → SameOutcome (slice_index_or outcomes k d) o → ⊥

-- a permutation of this outcome was added: to one that is the same, or as a new one
pub data IsAdded (before after : Counts) (o : RunOutcome) : Type 0 where
  known : (k : ℕ) → IsAt before.outcomes o k → after.outcomes ≡ before.outcomes → after.counts ≡ slice_set before.counts k (slice_index before.counts k + 1)
      → after.blocked ≡ before.blocked → after.waiting ≡ before.waiting → IsAdded before after o
  new : IsNew before.outcomes o → after.outcomes ≡ before.outcomes ++ o ∷ [] → after.counts ≡ before.counts ++ 1 ∷ []
      → after.blocked ≡ before.blocked → after.waiting ≡ before.waiting → IsAdded before after o

abbrev pub outcomes_in : List Group → List RunOutcome
outcomes_in groups = map (λ (g : Group). g.outcome) groups

-- one more permutation was counted, of which that came
abbrev pub IsOneMore : Counts → Counts → Fate → Type 0
IsOneMore before after blocked = after ≡ record before { blocked = before.blocked + 1 }
IsOneMore before after waiting = after ≡ record before { waiting = before.waiting + 1 }
IsOneMore before after (whole o) = IsAdded before after o

-- permutations that are counted stay so with one more: each is counted once
abbrev pub StayCounted : Type 0
StayCounted = (fates : List Fate) (before after : Counts) (fate : Fate) → IsCounted fates before → IsOneMore before after fate → IsCounted (fates ++ fate ∷ []) after

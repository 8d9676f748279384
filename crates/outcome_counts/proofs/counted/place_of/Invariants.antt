use Rattle.std.proofs.Common.{ℕ, ◌<◌, get_or}
use Rattle.outcome_counts.specs.declared.outcome.RunOutcome.{RunOutcome}
use Rattle.outcome_counts.specs.Outcomes.{SameOutcome}
use Rattle.outcome_counts.specs.Code.Adding.{outcomes_in}
use Rattle.outcome_counts.proofs.counted.place_of.Given as goal

abbrev pub invariant-loop-k : goal.invariant-loop-k
invariant-loop-k l = (j : ℕ) (d : RunOutcome) → j < l.k → SameOutcome (get_or (outcomes_in l.groups) j d) l.outcome → ⊥

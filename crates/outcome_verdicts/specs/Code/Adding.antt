-- One more serial order is told.
use Rattle.std.specs.Prelude.{◌≡◌, ◌⊎◌, ℕ, List, [], ◌∷◌, ◌++◌}
use Rattle.outcome_counts.specs.declared.outcome.RunOutcome.{RunOutcome}
use Rattle.outcome_counts.specs.Outcomes.{SameOutcome}
use Rattle.outcome_verdicts.specs.declared.serial_orders.SerialOrder.{SerialOrder}
use Rattle.outcome_verdicts.specs.Verdicts.{IsFound, IsNotFound, Orders}

-- an order with this outcome was added: one that has it is there, or it is a new one behind the others
pub data IsAdded (before after : List SerialOrder) (order : List ℕ) (o : RunOutcome) : Type 0 where
  known : (other : List ℕ) → IsFound before (λ s. SameOutcome s o) other → after ≡ before → IsAdded before after order o
  new : (s : SerialOrder) → s.sessions.items ≡ order → s.outcome ≡ o → IsNotFound before (λ s. SameOutcome s o) → after ≡ before ++ s ∷ [] → IsAdded before after order o

-- this order was told: with the outcome that it has, or not, since it has none
abbrev pub IsTold : Orders → List SerialOrder → List SerialOrder → List ℕ → Type 0
IsTold Has before after order = ((o : RunOutcome) × Has order o × IsAdded before after order o) ⊎ (((o : RunOutcome) → Has order o → ⊥) × (after ≡ before))

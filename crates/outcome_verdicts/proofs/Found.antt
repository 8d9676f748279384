-- Serial orders as a list, and what is found among them.
use Rattle.std.proofs.Common.{◌≡◌, ◌<◌, ℕ, List, length, get_or, refl, sym, subst}
use Rattle.outcome_counts.specs.declared.outcome.RunOutcome.{RunOutcome}
use Rattle.outcome_counts.specs.Outcomes.{SameOutcome}
use Rattle.outcome_verdicts.specs.declared.serial_orders.SerialOrder.{SerialOrder}
use Rattle.outcome_verdicts.specs.Verdicts.{IsAs, IsAsNone, IsFound, IsNotFound, Orders, StandFor}

-- the order at this place
pub found_at : (Wanted : RunOutcome → Type 0) (orders : List SerialOrder) (i : ℕ) (s : SerialOrder) → i < length orders → s ≡ get_or orders i s → Wanted s.outcome → IsFound orders Wanted s.sessions.items
found_at Wanted orders i s within is wanted = (s, (i, within, sym is), refl, wanted)

-- what is found is a serial order
pub as_found : (Has : Orders) (orders : List SerialOrder) (Wanted : RunOutcome → Type 0) (order : List ℕ) → StandFor Has orders → IsFound orders Wanted order → IsAs Has Wanted order
as_found Has orders Wanted order stand found = (found.0.outcome, subst (λ (os : List ℕ). Has os found.0.outcome) found.2 (stand.each found.0 found.1), found.3)

-- and where none is found there is none, if what is wanted goes by the outcome
pub none_found : (Has : Orders) (orders : List SerialOrder) (Wanted : RunOutcome → Type 0) → ((a b : RunOutcome) → SameOutcome a b → Wanted b → Wanted a) → StandFor Has orders
    → IsNotFound orders Wanted → IsAsNone Has Wanted
none_found Has orders Wanted by stand none = λ order is. let told = stand.all order is.0 is.1 in none told.0 told.1 (by told.0.outcome is.0 told.2 is.2)

-- The verdict on an outcome: whether a serial order of the same transactions has it.
use Rattle.std.specs.Prelude.{◌≡◌, ◌≢◌, ℕ, List, [], map}
use Rattle.std.specs.List.{Contains}
use Rattle.session_machine.specs.Machine.{Blocks}
use Rattle.spec_parser.specs.Trees.{SpecTree}
use Rattle.outcome_counts.specs.declared.outcome.RunOutcome.{RunOutcome}
use Rattle.outcome_counts.specs.Outcomes.{SameOutcome}
use Rattle.outcome_verdicts.specs.declared.verdict.Verdict.{Verdict}
use Rattle.outcome_verdicts.specs.declared.verdict.Verdict.TheVariants.{Serial, RestSerial, NotSerial, Untold}
use Rattle.outcome_verdicts.specs.declared.serial_orders.SerialOrder.{SerialOrder}
use Rattle.outcome_verdicts.specs.Transactions.{TransactionTree}
use Rattle.outcome_verdicts.specs.Failures.{failed_of, CanBeLeftOut, IsMixed, SameBut}

-- which orders of some transactions, told by their sessions, are serial and have which outcome
abbrev pub Orders : Type 1
Orders = List ℕ → RunOutcome → Type 0

-- this order is one of them, and has an outcome that is as wanted
abbrev pub IsAs : Orders → (RunOutcome → Type 0) → List ℕ → Type 0
IsAs Has Wanted order = (s : RunOutcome) × Has order s × Wanted s

-- none of them has such an outcome
abbrev pub IsAsNone : Orders → (RunOutcome → Type 0) → Type 0
IsAsNone Has Wanted = (order : List ℕ) → IsAs Has Wanted order → ⊥

-- the verdict on an outcome, beside the serial orders of these transactions, and of those that didn't fail: one of all has it; or none has, and transactions failed, which can be
-- left out, and one of the others has the rest; or nor has one of these; or a step of a transaction that failed is part of another one
abbrev pub IsVerdict : SpecTree → Blocks → List (List TransactionTree) → Orders → Orders → RunOutcome → Verdict → Type 0
IsVerdict spec blocks lists All Rest o (Serial order) = IsAs All (λ s. SameOutcome s o) order.items
IsVerdict spec blocks lists All Rest o (RestSerial failed rest) =
    IsAsNone All (λ s. SameOutcome s o) × (failed_of spec o lists ≢ []) × (failed.items ≡ map (λ (t : TransactionTree). t.session) (failed_of spec o lists))
    × CanBeLeftOut spec blocks (failed_of spec o lists) × IsAs Rest (λ s. SameBut spec (failed_of spec o lists) s o) rest.items
IsVerdict spec blocks lists All Rest o NotSerial =
    IsAsNone All (λ s. SameOutcome s o)
    × (failed_of spec o lists ≢ [] → CanBeLeftOut spec blocks (failed_of spec o lists) × IsAsNone Rest (λ s. SameBut spec (failed_of spec o lists) s o))
IsVerdict spec blocks lists All Rest o (Untold session step) = IsAsNone All (λ s. SameOutcome s o) × IsMixed spec blocks (failed_of spec o lists) session step

-- ---- serial orders as a list

-- one of the list has this order, and an outcome that is as wanted
abbrev pub IsFound : List SerialOrder → (RunOutcome → Type 0) → List ℕ → Type 0
IsFound orders Wanted order = (s : SerialOrder) × Contains orders s × (s.sessions.items ≡ order) × Wanted s.outcome

-- none of the list has such an outcome
abbrev pub IsNotFound : List SerialOrder → (RunOutcome → Type 0) → Type 0
IsNotFound orders Wanted = (s : SerialOrder) → Contains orders s → Wanted s.outcome → ⊥

-- the list stands for the serial orders: each of it is one, and each outcome that one has is there
pub record StandFor (Has : Orders) (orders : List SerialOrder) : Type 0 where
  pub each : (s : SerialOrder) → Contains orders s → Has s.sessions.items s.outcome
  pub all : (order : List ℕ) (o : RunOutcome) → Has order o → (s : SerialOrder) × Contains orders s × SameOutcome s.outcome o

-- The outcome of a permutation: what each step answered, and the rows of the tables; and when two outcomes are one.
use Rattle.std.specs.Prelude.{◌≡◌, ℕ, ◌<◌, ◌==◌, Bool, true, false, ◌&&◌, List, [], ◌∷◌, length, map, flat_map, Option, Some, None, slice_index_or, if◌then◌else◌}
use Rattle.std.specs.List.{enumerate_from}
use Rattle.std.specs.Global.{Vec}
use Rattle.sql_values.specs.declared.value.Value.{Value}
use Rattle.session_machine.specs.declared.event.Event.{Event}
use Rattle.session_machine.specs.declared.event.Event.TheVariants.{Launch, Step, Leave}
use Rattle.session_machine.specs.declared.reply.Outcome.{Outcome}
use Rattle.session_machine.specs.declared.reply.Outcome.TheVariants.{Done, Rows, Failed}
use Rattle.session_machine.specs.declared.reply.HistItem.{HistItem}
use Rattle.spec_parser.specs.Trees.{StepTree, SessionTree, SpecTree}
use Rattle.outcome_counts.specs.declared.outcome.RunOutcome.{RunOutcome}
use Rattle.outcome_counts.specs.Rows.{SameRows}

-- ---- answers

-- a statement is over with it: that it waits is no answer yet
abbrev pub is_answer : Outcome → Bool
is_answer outcome = elim outcome [ Done ↦ true | Rows set ↦ true | Failed fault ↦ true | other ↦ false ]

-- whether the session is in the block behind an event, if it was or wasn't before
abbrev pub is_in : ℕ → ℕ → Bool → Event → Bool
is_in session block before (Launch s b) = if s == session then b == block else before
is_in session block before (Step s) = before
is_in session block before (Leave s) = before

-- the event is a Step of the session
abbrev pub is_step_of : ℕ → Event → Bool
is_step_of session event = elim event [ Launch s b ↦ false | Step s ↦ s == session | Leave s ↦ false ]

-- what the statements of the block answered in the session, in their order, from these items on
abbrev pub answers_from : ℕ → ℕ → Bool → List HistItem → List Outcome
answers_from session block here [] = []
answers_from session block here (item ∷ items) =
    let rest = answers_from session block (is_in session block here item.event) items in
    if here && is_step_of session item.event && is_answer item.reply.outcome then item.reply.outcome ∷ rest else rest

abbrev pub answers_in : List HistItem → ℕ → ℕ → List Outcome
answers_in items session block = answers_from session block false items

-- what each step of the session of this number answered
abbrev pub session_answers : List HistItem → ℕ × SessionTree → List (List Outcome)
session_answers items s = map (λ (step : StepTree). answers_in items s.0 step.part.block) s.1.steps

-- what each step of the file answered, in the order of the file
abbrev pub answers_of : SpecTree → List HistItem → List (List Outcome)
answers_of spec items = flat_map (session_answers items) (enumerate_from 1 spec.sessions)

-- ---- outcomes

-- the lists are as long, and each pair of their elements is so
pub record Pairwise {A : Type 0} (R : A → A → Type 0) (xs ys : List A) : Type 0 where
  pub long : length xs ≡ length ys
  pub each : (k : ℕ) (d : A) → k < length xs → R (slice_index_or xs k d) (slice_index_or ys k d)

-- two statements answered the same: of tables the titles and the rows, in any order; else the very same
abbrev pub SameAnswer : Outcome → Outcome → Type 0
SameAnswer (Rows a) (Rows b) = (a.titles ≡ b.titles) × SameRows a.rows b.rows
SameAnswer a b = a ≡ b

-- two steps answered the same, statement by statement
abbrev pub SameAnswers : Vec Outcome → Vec Outcome → Type 0
SameAnswers a b = Pairwise SameAnswer a.items b.items

-- two tables have the same rows, or neither is there
abbrev pub SameTable : Option (Vec (List Value)) → Option (Vec (List Value)) → Type 0
SameTable (Some rows) (Some others) = SameRows rows.items others.items
SameTable None None = Unit {0}
SameTable a b = ⊥

-- two permutations have one outcome: each step answered the same, and the tables have the same rows
pub record SameOutcome (a b : RunOutcome) : Type 0 where
  pub answers : Pairwise SameAnswers a.answers.items b.answers.items
  pub tables : Pairwise SameTable a.tables.items b.tables.items

-- the answers of an outcome, step by step
abbrev pub answers_told : RunOutcome → List (List Outcome)
answers_told o = map (λ (v : Vec Outcome). v.items) o.answers.items

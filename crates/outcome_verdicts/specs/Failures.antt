-- Transactions that failed in an outcome, whether they can be left out, and outcomes that are one but for them.
use Rattle.std.specs.Prelude.{◌≡◌, ℕ, ◌+◌, ◌-◌, ◌<◌, ◌==◌, Bool, true, false, not, List, length, map, flat_map, take, slice_get, slice_index_or}
use Rattle.std.specs.Global.{Vec}
use Rattle.std.specs.List.{Contains, filter, list_any}
use Rattle.std.specs.Option.{option_map_or}
use Rattle.sql_trees.specs.Statements.{StmtTree}
use Rattle.sql_trees.specs.Statements.{Commit, Rollback}
use Rattle.session_machine.specs.declared.reply.Outcome.{Outcome}
use Rattle.session_machine.specs.Machine.{Blocks, is_failed, stmts_of}
use Rattle.spec_parser.specs.Trees.{StepTree, SessionTree, SpecTree}
use Rattle.spec_parser.specs.Numbered.{step_numbered}
use Rattle.outcome_counts.specs.declared.outcome.RunOutcome.{RunOutcome}
use Rattle.outcome_counts.specs.Outcomes.{Pairwise, SameAnswers, SameTable}
use Rattle.outcome_verdicts.specs.Transactions.{TransactionTree}

-- the number of a session's step among all steps of the file: as many stand before it
abbrev pub number_of : SpecTree → ℕ → ℕ → ℕ
number_of spec session step = length (flat_map (λ (s : SessionTree). s.steps) (take (session - 1) spec.sessions)) + step

-- ---- what failed

-- a statement of the step failed
abbrev pub has_step_failed : SpecTree → RunOutcome → ℕ → ℕ → Bool
has_step_failed spec o session step = option_map_or (λ (answers : Vec Outcome). list_any is_failed answers.items) (slice_get o.answers.items (number_of spec session step)) false

abbrev pub has_failed : SpecTree → RunOutcome → TransactionTree → Bool
has_failed spec o t = list_any (has_step_failed spec o t.session) t.steps

abbrev pub failed_of : SpecTree → RunOutcome → List (List TransactionTree) → List TransactionTree
failed_of spec o lists = flat_map (filter (has_failed spec o)) lists

-- without them
abbrev pub rest_of : SpecTree → RunOutcome → List (List TransactionTree) → List (List TransactionTree)
rest_of spec o lists = map (filter (λ t. not (has_failed spec o t))) lists

-- ---- what can be left out

abbrev pub is_end : StmtTree → Bool
is_end stmt = elim stmt [ Commit ↦ true | Rollback ↦ true | other ↦ false ]

-- one that isn't the last ends a transaction
abbrev pub stmts_go_on : List StmtTree → Bool
stmts_go_on stmts = list_any is_end (take (length stmts - 1) stmts)

-- the step goes on behind the end of a transaction
abbrev pub goes_on : SpecTree → Blocks → ℕ → ℕ → Bool
goes_on spec blocks session step = option_map_or (λ (s : StepTree). stmts_go_on (stmts_of blocks s.part.block)) (step_numbered spec session step) false

-- each of these transactions can be left out: no step of theirs is part of another one
abbrev pub CanBeLeftOut : SpecTree → Blocks → List TransactionTree → Type 0
CanBeLeftOut spec blocks ts = list_any (λ (t : TransactionTree). list_any (goes_on spec blocks t.session) t.steps) ts ≡ false

-- this step of theirs is
abbrev pub IsMixed : SpecTree → Blocks → List TransactionTree → ℕ → ℕ → Type 0
IsMixed spec blocks ts session step = (t : TransactionTree) × Contains ts t × (t.session ≡ session) × Contains t.steps step × (goes_on spec blocks session step ≡ true)

-- ---- outcomes without them

-- the step of this number in the file is one of theirs
abbrev pub is_of : SpecTree → List TransactionTree → ℕ → Bool
is_of spec ts number = list_any (λ (t : TransactionTree). list_any (λ (step : ℕ). number_of spec t.session step == number) t.steps) ts

-- two outcomes are one but for what the steps of these transactions answered
pub record SameBut (spec : SpecTree) (ts : List TransactionTree) (a b : RunOutcome) : Type 0 where
  pub long : length a.answers.items ≡ length b.answers.items
  pub answers : (k : ℕ) (d : Vec Outcome) → k < length a.answers.items → is_of spec ts k ≡ false → SameAnswers (slice_index_or a.answers.items k d) (slice_index_or b.answers.items k d)
  pub tables : Pairwise SameTable a.tables.items b.tables.items

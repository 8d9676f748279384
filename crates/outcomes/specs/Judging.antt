-- When an order of transactions is serial, and which outcome it has; the verdict on each outcome beside these orders.
use Rattle.std.specs.Prelude.{ℕ, ◌+◌, List, [], ◌∷◌, length, map}
use Rattle.session_machine.specs.declared.reply.HistItem.{HistItem}
use Rattle.session_machine.specs.Machine.{Blocks}
use Rattle.spec_parser.specs.Trees.{EntryTree, SpecTree, entry_view}
use Rattle.report_lines.specs.Starts.{segment_start}
use Rattle.report_text.specs.Code.Turns.{setup_numbers}
use Rattle.permutation_plans.specs.Regular.{IsRegular}
use Rattle.permutation_lists.specs.Interleavings.{IsInterleaving}
use Rattle.outcome_counts.specs.declared.outcome.RunOutcome.{RunOutcome}
use Rattle.outcome_counts.specs.declared.counted.Group.{Group}
use Rattle.outcome_counts.specs.Counts.{whole}
use Rattle.outcome_counts.specs.Serial.{IsSerial}
use Rattle.outcome_verdicts.specs.declared.verdict.Verdict.{Verdict}
use Rattle.outcome_verdicts.specs.Transactions.{TransactionTree, in_order, transactions_of}
use Rattle.outcome_verdicts.specs.Failures.{rest_of}
use Rattle.outcome_verdicts.specs.Verdicts.{IsVerdict, Orders, StandFor}
use Rattle.outcome_verdicts.specs.declared.judged.Judged.{Judged}
use Rattle.outcome_counts.specs.Endings.{front_of}
use Rattle.outcomes.specs.Counting.{IsFate}

-- behind the setups, and up to the end of the entries, the history is serial
abbrev pub AreSerialEntries : SpecTree → Blocks → List EntryTree → List HistItem → Type 0
AreSerialEntries spec blocks entries items = IsSerial blocks (length spec.sessions + 1) (segment_start items (length (setup_numbers spec))) (front_of spec entries items)

-- these entries, run on their own, run to their end, are serial up to there, and have this outcome
pub record IsSerialRun (spec : SpecTree) (blocks : Blocks) (names : List (List ℕ)) (entries : List EntryTree) (o : RunOutcome) : Type 0 where
  pub items : List HistItem
  pub regular : IsRegular spec blocks entries items
  pub serial : AreSerialEntries spec blocks entries items
  pub whole : IsFate spec blocks names entries items (whole o)

-- the transactions in this order are a serial run with this outcome
abbrev pub IsSerialIn : SpecTree → Blocks → List (List ℕ) → List (List TransactionTree) → Orders
IsSerialIn spec blocks names lists order o = IsSerialRun spec blocks names (in_order lists order) o

-- and the order is one of all of them, each session's in their order
abbrev pub IsSerialOrder : SpecTree → Blocks → List (List ℕ) → List (List TransactionTree) → Orders
IsSerialOrder spec blocks names lists order o = IsInterleaving (map length lists) order × IsSerialIn spec blocks names lists order o

-- the verdict on an outcome, beside the serial orders of these transactions, and of those that didn't fail
abbrev pub IsVerdictOn : SpecTree → Blocks → List (List ℕ) → List (List TransactionTree) → RunOutcome → Verdict → Type 0
IsVerdictOn spec blocks names lists o verdict =
    IsVerdict spec blocks lists (IsSerialOrder spec blocks names lists) (IsSerialOrder spec blocks names (rest_of spec o lists)) o verdict

-- an outcome has its verdict, beside the transactions of the permutation that is shown for it, and their serial orders
pub record IsJudged (spec : SpecTree) (blocks : Blocks) (names : List (List ℕ)) (g : Group) (j : Judged) : Type 0 where
  pub verdict : IsVerdictOn spec blocks names (transactions_of spec blocks (map entry_view g.nearest.items)) g.outcome j.verdict
  pub orders : StandFor (IsSerialOrder spec blocks names (transactions_of spec blocks (map entry_view g.nearest.items))) j.orders.items

-- each outcome has its own
abbrev pub AllJudged : SpecTree → Blocks → List (List ℕ) → List Group → List Judged → Type 0
AllJudged spec blocks names [] [] = Unit {0}
AllJudged spec blocks names (g ∷ gs) (j ∷ js) = IsJudged spec blocks names g j × AllJudged spec blocks names gs js
AllJudged spec blocks names gs js = ⊥

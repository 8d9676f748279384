-- Answers but for the steps of some transactions.
use Rattle.std.specs.Prelude.{◌≡◌, ℕ, ◌<◌, false, List, length, slice_index_or}
use Rattle.std.specs.Global.{Vec}
use Rattle.session_machine.specs.declared.reply.Outcome.{Outcome}
use Rattle.spec_parser.specs.Trees.{SpecTree}
use Rattle.outcome_counts.specs.Outcomes.{SameAnswers}
use Rattle.outcome_verdicts.specs.Transactions.{TransactionTree}
use Rattle.outcome_verdicts.specs.Failures.{is_of}

-- each step of the file that isn't one of theirs answered the same
pub record SameOthers (spec : SpecTree) (ts : List TransactionTree) (a b : List (Vec Outcome)) : Type 0 where
  pub long : length a ≡ length b
  pub answers : (k : ℕ) (d : Vec Outcome) → k < length a → is_of spec ts k ≡ false → SameAnswers (slice_index_or a k d) (slice_index_or b k d)

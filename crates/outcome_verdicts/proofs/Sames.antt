-- Outcomes that are one but for some transactions, by way of a third.
use Rattle.std.proofs.Common.{◌<◌, ◌∙◌, ℕ, List, get_or, subst}
use Rattle.std.specs.Global.{Vec}
use Rattle.session_machine.specs.declared.reply.Outcome.{Outcome}
use Rattle.spec_parser.specs.Trees.{SpecTree}
use Rattle.outcome_counts.specs.declared.outcome.RunOutcome.{RunOutcome}
use Rattle.outcome_counts.specs.Outcomes.{SameAnswer, SameAnswers, SameOutcome, SameTable}
use Rattle.outcome_counts.proofs.Sameness.{answer_by, pairs_by, table_by}
use Rattle.outcome_verdicts.specs.Transactions.{TransactionTree}
use Rattle.outcome_verdicts.specs.Failures.{SameBut}

answers_by : (a b c : Vec Outcome) → SameAnswers a b → SameAnswers b c → SameAnswers a c
answers_by a b c p q = pairs_by SameAnswer answer_by a.items b.items c.items p q

pub same_but_by : (spec : SpecTree) (ts : List TransactionTree) (a b c : RunOutcome) → SameOutcome a b → SameBut spec ts b c → SameBut spec ts a c
same_but_by spec ts a b c h k = record {
  long = h.answers.long ∙ k.long;
  answers = λ n d within others.
      answers_by (get_or a.answers.items n d) (get_or b.answers.items n d) (get_or c.answers.items n d) (h.answers.each n d within)
      (k.answers n d (subst (λ (m : ℕ). n < m) h.answers.long within) others);
  tables = pairs_by SameTable table_by a.tables.items b.tables.items c.tables.items h.tables k.tables;
}

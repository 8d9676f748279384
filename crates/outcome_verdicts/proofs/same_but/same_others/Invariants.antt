use Rattle.std.proofs.Common.{◌≡◌, ℕ, ◌<◌, false, length, get_or, map}
use Rattle.std.specs.Global.{Vec}
use Rattle.session_machine.specs.declared.reply.Outcome.{Outcome}
use Rattle.spec_parser.specs.Trees.{spec_view}
use Rattle.outcome_counts.specs.Outcomes.{SameAnswers}
use Rattle.outcome_verdicts.specs.Transactions.{transaction_view}
use Rattle.outcome_verdicts.specs.Failures.{is_of}
use Rattle.outcome_verdicts.proofs.same_but.same_others.Given as goal

abbrev pub invariant-loop-number : goal.invariant-loop-number
invariant-loop-number l =
    record {
      long : length l.a ≡ length l.b;
      each : (k : ℕ) (d : Vec Outcome) → k < l.number → is_of (spec_view l.spec) (map transaction_view l.transactions) k ≡ false → SameAnswers (get_or l.a k d) (get_or l.b k d);
    }

use Rattle.std.proofs.Common.{◌≡◌, ℕ, ◌<◌, length, get_or}
use Rattle.std.specs.Global.{Vec}
use Rattle.session_machine.specs.declared.reply.Outcome.{Outcome}
use Rattle.outcome_counts.specs.Outcomes.{SameAnswers}
use Rattle.outcome_counts.proofs.alike.same_steps.Given as goal

abbrev pub invariant-loop-i : goal.invariant-loop-i
invariant-loop-i l = record { long : length l.a ≡ length l.b; each : (k : ℕ) (d : Vec Outcome) → k < l.i → SameAnswers (get_or l.a k d) (get_or l.b k d) }

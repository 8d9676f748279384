use Rattle.std.proofs.Common.{◌≡◌, drop}
use Rattle.std.specs.List.{list_any}
use Rattle.session_machine.specs.Machine.{is_failed}
use Rattle.outcome_verdicts.proofs.failures.any_failed.Given as goal

abbrev pub invariant-loop-answer : goal.invariant-loop-answer
invariant-loop-answer l =
    list_any is_failed (drop l.answer-index l.answers) ≡ list_any is_failed l.answers

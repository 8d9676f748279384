use Rattle.std.proofs.Common.{◌≡◌, drop}
use Rattle.std.specs.List.{list_any}
use Rattle.spec_parser.specs.Trees.{spec_view}
use Rattle.outcome_verdicts.specs.Failures.{has_step_failed}
use Rattle.outcome_verdicts.proofs.failures.has_failed.Given as goal

abbrev pub invariant-loop-step : goal.invariant-loop-step
invariant-loop-step l =
    list_any (has_step_failed (spec_view l.spec) l.outcome l.transaction.session) (drop l.step-index l.step-items) ≡ list_any (has_step_failed (spec_view l.spec) l.outcome l.transaction.session) l.step-items

use Rattle.std.proofs.Common.{◌≡◌, ℕ, drop}
use Rattle.std.specs.Prelude.{◌==◌}
use Rattle.std.specs.List.{list_any}
use Rattle.spec_parser.specs.Trees.{spec_view}
use Rattle.outcome_verdicts.specs.Failures.{number_of}
use Rattle.outcome_verdicts.proofs.same_but.is_of_one.Given as goal

abbrev pub invariant-loop-step : goal.invariant-loop-step
invariant-loop-step l =
    list_any (λ (step : ℕ). number_of (spec_view l.spec) l.transaction.session step == l.number) (drop l.step-index l.step-items)
    ≡ list_any (λ (step : ℕ). number_of (spec_view l.spec) l.transaction.session step == l.number) l.step-items

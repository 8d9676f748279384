use Rattle.std.proofs.Common.{◌≡◌, ◌++◌, map, take}
use Rattle.spec_parser.specs.Trees.{step_view, StepTree}
use Rattle.outcome_counts.specs.Outcomes.{answers_in}
use Rattle.outcome_counts.specs.Inner.Answers.{lists_of}
use Rattle.outcome_counts.proofs.answers.push_answers.Given as goal

abbrev pub invariant-loop-step : goal.invariant-loop-step
invariant-loop-step l = lists_of l.answers.items ≡ lists_of l.fn.answers.items ++ map (λ (step : StepTree). answers_in l.items l.session step.part.block) (map step_view (take l.step-index l.steps))

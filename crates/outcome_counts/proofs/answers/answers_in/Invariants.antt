use Rattle.std.proofs.Common.{◌≡◌, ◌++◌, drop}
use Rattle.outcome_counts.specs.Outcomes.{answers_from, answers_in}
use Rattle.outcome_counts.proofs.answers.answers_in.Given as goal

abbrev pub invariant-loop-item : goal.invariant-loop-item
invariant-loop-item l = l.answers.items ++ answers_from l.session l.block l.is_here (drop l.item-index l.items) ≡ answers_in l.items l.session l.block

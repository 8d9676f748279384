use Rattle.std.proofs.Common.{◌≡◌, drop}
use Rattle.report_lines.specs.Due.{due_setup}
use Rattle.report_lines.proofs.plan.due_setup.Given as goal

abbrev pub invariant-loop-number : goal.invariant-loop-number
invariant-loop-number l = due_setup l.segments l.count l.number (drop l.number l.setups) ≡ due_setup l.segments l.count 0 l.setups

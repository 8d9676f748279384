use Rattle.std.proofs.Common.{◌≡◌, drop}
use Rattle.report_lines.specs.Due.{teardowns_so_far}
use Rattle.report_lines.proofs.plan.teardowns_so_far.Given as goal

abbrev pub invariant-loop-teardown : goal.invariant-loop-teardown
invariant-loop-teardown l = teardowns_so_far l.segments l.count l.number (drop l.teardown-index l.teardowns) ≡ teardowns_so_far l.segments l.count l.first l.teardowns

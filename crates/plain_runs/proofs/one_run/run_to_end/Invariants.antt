use Rattle.plain_runs.specs.Inner.Next.{left_in}
use Rattle.plain_runs.proofs.Going.{IsUnderWay}
use Rattle.plain_runs.proofs.one_run.run_to_end.Given as goal

abbrev pub invariant-loop-next : goal.invariant-loop-next
invariant-loop-next l = IsUnderWay l.fn.plan l.plan l.fn.engine l.engine

abbrev pub decreases-loop-next : goal.decreases-loop-next
decreases-loop-next l = left_in l.plan.launches l.engine

use Rattle.std.proofs.Common.{◌≡◌, None, take}
use Rattle.session_seats.specs.Acts.{IsRunOf}
use Rattle.session_crews.specs.Inner.FreeRuns.{IsSetUp}
use Rattle.session_crews.proofs.free.run_before.Given as goal

abbrev pub invariant-loop-setup : goal.invariant-loop-setup
invariant-loop-setup g l = record {
  none : l.run.fault ≡ None;
  of : IsRunOf (g.E.Engine.engine l.fn.run.engine) (g.E.Engine.engine l.run.engine);
  set_up : IsSetUp (take l.setup-index l.plan.before.items) (g.E.Engine.engine l.fn.run.engine) (g.E.Engine.engine l.run.engine);
}

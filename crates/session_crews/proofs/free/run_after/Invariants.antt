use Rattle.std.proofs.Common.{◌≡◌, None, take}
use Rattle.session_seats.specs.Acts.{IsRunOf}
use Rattle.session_crews.specs.Inner.FreeRuns.{DidLast}
use Rattle.session_crews.proofs.free.run_after.Given as goal

abbrev pub invariant-loop-block : goal.invariant-loop-block
invariant-loop-block g l = record {
  seat : (g.S.SeatAt.seat l.seat).session ≡ 0;
  none : l.run.fault ≡ None;
  of : IsRunOf (g.E.Engine.engine l.fn.run.engine) (g.E.Engine.engine l.run.engine);
  did : DidLast (take l.block-index l.after) (g.E.Engine.engine l.fn.run.engine) (g.E.Engine.engine l.run.engine);
}

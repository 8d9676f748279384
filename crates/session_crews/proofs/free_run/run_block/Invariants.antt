use Rattle.std.proofs.Common.{◌≡◌, None}
use Rattle.session_seats.specs.Acts.{IsRunOf}
use Rattle.session_crews.specs.Inner.FreeRuns.{RanBlock}
use Rattle.session_crews.proofs.free_run.run_block.Given as goal

abbrev pub invariant-loop : goal.invariant-loop
invariant-loop g l = record {
  can : (goal.iterator-loop g).can_next l.iterator';
  finite : (goal.iterator-loop g).is_finite l.iterator';
  seat : (g.S.SeatAt.seat l.seat).session ≡ (g.S.SeatAt.seat l.fn.seat).session;
  session : l.session ≡ (g.S.SeatAt.seat l.fn.seat).session;
  of : IsRunOf (g.E.Engine.engine l.fn.run.engine) (g.E.Engine.engine l.run.engine);
  ran : RanBlock l.session l.block (g.E.Engine.engine l.fn.run.engine) (g.E.Engine.engine l.run.engine) l.state;
  none : l.run.fault ≡ None;
}

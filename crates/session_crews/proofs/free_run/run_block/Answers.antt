use Rattle.std.proofs.Common.{◌∙◌}
use Rattle.session_crews.proofs.Going.{of_on}
use Rattle.session_crews.proofs.Whole.{block_on}
use Rattle.session_crews.proofs.free_run.run_block.Goals as goal

pub loop-preserved : goal.loop-preserved
loop-preserved g c =
    let first = g.E.Engine.engine c.args.run.now.engine in
    let before = g.E.Engine.engine c.loop.run.engine in
    let after = g.E.Engine.engine c.perform-in-loop.new.self.engine in
    record {
      can = tt;
      finite = tt;
      seat = c.in_ok-state-2.ensures.session ∙ c.loop.invariant.seat;
      session = c.loop.invariant.session;
      of = of_on first before after c.loop.invariant.of c.in_ok-state-2.ensures.of;
      ran = block_on c.session-session.result c.args.block first before after c.loop.state c.in_ok-state-2.state c.loop.invariant.ran c.in-GoesOn.is c.in_ok-state-2.ensures.done.0;
      none = c.in_ok-state-2.ensures.done.1;
    }

use Rattle.session_core.proofs.Stated.{reached}
use Rattle.session_core.proofs.engine.EngineState.rest_is_reached.Goals as goal

pub returns : goal.returns
returns g c m h k turn =
    let e = c.args.self.now in
    let there = reached e.blocks e.mode e.count e.history e.machine m c.history-told.ensures.leads h in
    let taken = c.rest_is_reached.ensures.in_turn e.blocks e.mode e.count m there k turn in
    (taken.0, taken.1, c.rest_is_reached.ensures.nearer e.blocks e.mode e.count m there k taken.0 taken.1)

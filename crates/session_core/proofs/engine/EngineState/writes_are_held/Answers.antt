use Rattle.session_core.proofs.Stated.{reached}
use Rattle.session_core.proofs.engine.EngineState.writes_are_held.Goals as goal

pub returns : goal.returns
returns g c m h =
    let e = c.args.self.now in
    c.writes_are_held.ensures e.blocks e.mode e.count m (reached e.blocks e.mode e.count e.history e.machine m c.history-told.ensures.leads h)

use Rattle.session_core.proofs.Stated.{reached}
use Rattle.session_core.proofs.engine.EngineState.no_cycle_of_waits.Goals as goal

pub returns : goal.returns
returns g c m h =
    let e = c.args.self.now in
    c.no_cycle_of_waits.ensures e.blocks e.mode e.count m (reached e.blocks e.mode e.count e.history e.machine m c.history-told.ensures.leads h)

use Rattle.std.proofs.Common.{subst}
use Rattle.session_machine.specs.Engine.{IsLegal}
use Rattle.session_core.proofs.engine.EngineState.deadlock_is_answered.Goals as goal

pub returns : goal.returns
returns g c before item later h =
    let e = c.args.self.now in
    c.deadlock_is_answered.ensures.told e.blocks e.mode e.count before item later (subst (IsLegal e.blocks e.count e.mode) h c.history-told.ensures.legal)

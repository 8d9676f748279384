use Rattle.std.specs.Prelude.{IfSome}
use Rattle.sql_blocks.specs.Blocks.{blocks_of}
use Rattle.session_machine.specs.Machine.{opening, Run}
use Rattle.session_machine.specs.Engine.{Engine}
use Rattle.session_core.proofs.Going.{of_machine}
use Rattle.std.proofs.Common.{subst}
use Rattle.session_core.proofs.engine.EngineState.history.Goals as goal

pub returns-clause-leads : goal.returns-clause-leads
returns-clause-leads g c =
    let e = c.self.inside in
    subst (λ (x : Engine). IfSome x.machine (λ m. Run x.blocks x.mode (opening x.count) x.history m)) c.self.view_is
    (of_machine e.spent e.live (Run (blocks_of e.blocks.now) e.mode (opening e.count) e.history.items) (λ fresh. (c.self.invariant.1 fresh).2))

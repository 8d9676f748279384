use Rattle.sql_blocks.specs.Blocks.{blocks_of}
use Rattle.session_core.proofs.Holding.{kept_shown}
use Rattle.session_core.proofs.engine.EngineState.kept_targets.Goals as goal

pub returns : goal.returns
returns g c =
    let e = c.self.inside in
    let known = c.self.invariant.1 c.if-self.false in
    kept_shown (blocks_of e.blocks.now) e.count e.mode e.live e.history.items e.spent e.kept c.args.session c.args.self.now _ c.self.view_is c.if-self.false known.2 known.3 c.of.ensures

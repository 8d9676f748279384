use Rattle.sql_blocks.specs.Blocks.{blocks_of}
use Rattle.session_core.proofs.Opening.{opens}
use Rattle.session_core.proofs.engine.EngineState.new.Goals as goal

pub invariant_of-result : goal.invariant_of-result
invariant_of-result g c =
    let h = opens c.stays_sound.ensures (blocks_of c.args.blocks.now) c.args.mode c.args.count c.in_ok-live.live c.in_ok-history.history.items c.in_ok-kept.kept c.in_ok-blockers.blockers c.requires.few c.in_ok-live.ensures c.in_ok-history.ensures.items c.in_ok-kept.ensures c.in_ok-blockers.ensures in
    (h.0, λ fresh. h.1)

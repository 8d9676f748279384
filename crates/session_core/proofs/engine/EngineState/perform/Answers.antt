use Rattle.sql_blocks.specs.Blocks.{blocks_of}
use Rattle.session_core.proofs.Going.{due, goes, left, noted}
use Rattle.session_core.proofs.engine.EngineState.perform.Goals as goal

pub invariant_of-self : goal.invariant_of-self
invariant_of-self g c =
    let e = c.self.inside in
    noted c.stays_sound.ensures (blocks_of e.blocks.now) e.count e.mode e.live c.act.new.self e.history.items c.push.new.self.items c.args.event _ c.in-Ok-Ok.reply e.spent e.kept c.act.new.kept e.blockers c.act.new.blockers
    (c.self.invariant.1 c.if-self.false) (c.in-Ok-Ok.ensures.kept e.count (e.history.items, (c.self.invariant.1 c.if-self.false).2)) (c.in-Ok-Ok.ensures.blockers e.count (e.history.items, (c.self.invariant.1 c.if-self.false).2)) c.in-Ok-Ok.ensures.answer c.in-Ok-Ok.field-0-is c.in-Ok.ensures.items

pub invariant_of-self-in-Ok-Err : goal.invariant_of-self-in-Ok-Err
invariant_of-self-in-Ok-Err g c =
    let e = c.self.inside in
    left (blocks_of e.blocks.now) e.count e.mode e.live c.act.new.self e.history.items c.args.event _ c.in-Ok-Err.refused e.spent e.kept c.act.new.kept e.blockers c.act.new.blockers c.self.invariant
    (λ fresh. (c.in-Ok-Err.ensures.kept e.count (e.history.items, (c.self.invariant.1 fresh).2), c.in-Ok-Err.ensures.blockers e.count (e.history.items, (c.self.invariant.1 fresh).2))) c.in-Ok-Err.ensures.answer c.in-Ok-Err.field-0-is

-- an event with a reply was due, whether the reply could be noted or not
pub returns-after-push-clause-due : goal.returns-after-push-clause-due
returns-after-push-clause-due g c _ =
    let e = c.self.inside in
    due (blocks_of e.blocks.now) e.count e.mode e.live e.history.items e.spent c.args.event c.args.self.now c.self.view_is c.if-self.false
    (goes (blocks_of e.blocks.now) e.mode e.live c.act.new.self c.args.event _ c.in-Ok-Ok.reply c.in-Ok-Ok.ensures.answer c.in-Ok-Ok.field-0-is)

-- and so was one to which the machine was refused memory
pub returns-in-Err-clause-due : goal.returns-in-Err-clause-due
returns-in-Err-clause-due g c _ =
    let e = c.self.inside in
    due (blocks_of e.blocks.now) e.count e.mode e.live e.history.items e.spent c.args.event c.args.self.now c.self.view_is c.if-self.false c.in-Err.ensures.due

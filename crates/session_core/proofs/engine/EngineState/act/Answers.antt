use Rattle.sql_blocks.specs.Blocks.{blocks_of}
use Rattle.session_core.proofs.Going.{due, goes, left, noted}
use Rattle.session_core.proofs.engine.EngineState.act.Goals as goal

pub invariant_of-self-in-Ok-note : goal.invariant_of-self-in-Ok-note
invariant_of-self-in-Ok-note g c =
    let e = c.self.inside in
    noted c.stays_sound.ensures (blocks_of e.blocks.now) e.count e.mode e.live c.act.new.self e.history.items c.note.new.history.items c.args.event _ c.in-Ok-answer.reply e.spent e.kept c.act.new.kept e.blockers c.act.new.blockers
    (c.self.invariant.1 c.if-self.false) (c.in-Ok.ensures.kept e.count (e.history.items, (c.self.invariant.1 c.if-self.false).2)) (c.in-Ok.ensures.blockers e.count (e.history.items, (c.self.invariant.1 c.if-self.false).2)) c.in-Ok.ensures.answer c.in-Ok-answer.is c.in-Ok-note.ensures.history

pub invariant_of-self-in-Err-answer : goal.invariant_of-self-in-Err-answer
invariant_of-self-in-Err-answer g c =
    let e = c.self.inside in
    left (blocks_of e.blocks.now) e.count e.mode e.live c.act.new.self e.history.items c.args.event _ c.in-Err-answer.refusal e.spent e.kept c.act.new.kept e.blockers c.act.new.blockers c.self.invariant
    (λ fresh. (c.in-Ok.ensures.kept e.count (e.history.items, (c.self.invariant.1 fresh).2), c.in-Ok.ensures.blockers e.count (e.history.items, (c.self.invariant.1 fresh).2))) c.in-Ok.ensures.answer c.in-Err-answer.is

-- memory was refused to an event that was due
pub returns-in-Err-clause-due : goal.returns-in-Err-clause-due
returns-in-Err-clause-due g c _ =
    let e = c.self.inside in
    due (blocks_of e.blocks.now) e.count e.mode e.live e.history.items e.spent c.args.event c.args.self.now c.self.view_is c.if-self.false c.in-Err.ensures.due

-- and so to its note
pub returns-in-Err-note-clause-due : goal.returns-in-Err-note-clause-due
returns-in-Err-note-clause-due g c _ =
    let e = c.self.inside in
    due (blocks_of e.blocks.now) e.count e.mode e.live e.history.items e.spent c.args.event c.args.self.now c.self.view_is c.if-self.false
    (goes (blocks_of e.blocks.now) e.mode e.live c.act.new.self c.args.event _ c.in-Ok-answer.reply c.in-Ok.ensures.answer c.in-Ok-answer.is)

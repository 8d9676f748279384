use Rattle.std.proofs.Common.{◌∙◌, refl, sym}
use Rattle.sql_blocks.specs.Blocks.{blocks_of}
use Rattle.spec_parser.specs.Trees.{session_view}
use Rattle.outcome_verdicts.proofs.Cutting.{at_end, is_nil, none_left, not_nil, one_left}
use Rattle.outcome_verdicts.proofs.transactions.cut.Goals as goal

pub returns-then-is_empty : goal.returns-then-is_empty
returns-then-is_empty c =
    sym (none_left c.args.number c.loop-step.over.items c.loop-step.now.items (is_nil c.loop-step.now c.is_empty.result c.is_empty.ensures c.if-is_empty.true))
    ∙ at_end (blocks_of c.args.blocks.now) (session_view c.args.session.now) c.args.number c.loop-step.over.items c.loop-step.now.items c.loop-step.begun c.args.steps.now
    c.loop-step.step-index _ c.loop-step-test.false c.loop-step.invariant

pub returns : goal.returns
returns c =
    sym (one_left c.args.number c.loop-step.over.items c.push.new.self.items _ c.loop-step.now.items (not_nil c.loop-step.now c.is_empty.result c.is_empty.ensures c.if-is_empty.false) refl c.in_ok-push.ensures.items)
    ∙ at_end (blocks_of c.args.blocks.now) (session_view c.args.session.now) c.args.number c.loop-step.over.items c.loop-step.now.items c.loop-step.begun c.args.steps.now
    c.loop-step.step-index _ c.loop-step-test.false c.loop-step.invariant

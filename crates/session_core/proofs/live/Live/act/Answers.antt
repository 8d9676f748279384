use Rattle.std.proofs.Common.{◌∙◌, subst, sym}
use Rattle.sql_blocks.specs.Blocks.{blocks_of}
use Rattle.row_locks.proofs.Against.{on_err}
use Rattle.session_core.specs.Inner.Blocking.{AreBlockers, Lists}
use Rattle.session_core.proofs.Blocking.{blockers_left, blockers_mended, goes_ok, long_after, within_after}
use Rattle.session_core.proofs.live.Live.act.Goals.{then-is_ok+in_ok-mend, else-is_ok}
use Rattle.session_core.proofs.live.Live.act.Goals as goal

pub mend-requires-clause-within : goal.mend-requires-clause-within
mend-requires-clause-within g c =
    within_after (blocks_of c.args.blocks.now) c.args.mode c.args.self.now c.did.new.self c.args.event c.in_ok-answer.answer c.session_of-session.result c.in_ok-answer.ensures.answer
    c.session_of-session.ensures (sym c.is_ok.ensures.value ∙ c.if-is_ok.true)

pub mend-requires-clause-long : goal.mend-requires-clause-long
mend-requires-clause-long g c =
    long_after (blocks_of c.args.blocks.now) c.args.mode c.args.self.now c.did.new.self c.args.event c.in_ok-answer.answer c.session_of-session.result c.in_ok-answer.ensures.answer
    c.session_of-session.ensures c.args.blockers.now (sym c.is_ok.ensures.value ∙ c.if-is_ok.true) c.requires.blockers

pub returns-in_err-mend-clause-due : goal.returns-in_err-mend-clause-due
returns-in_err-mend-clause-due g c =
    on_err _ _
    (goes_ok (blocks_of c.args.blocks.now) c.args.mode c.args.self.now c.did.new.self c.args.event c.in_ok-answer.answer c.session_of-session.result c.in_ok-answer.ensures.answer
    c.session_of-session.ensures (sym c.is_ok.ensures.value ∙ c.if-is_ok.true))

pub returns-clause-kept : goal.returns-clause-kept
returns-clause-kept g c count reached = c.in_ok-answer.ensures.kept count reached

pub returns-clause-blockers : goal.returns-clause-blockers
returns-clause-blockers g c count reached =
    elim c.if-is_ok.branch [
      | then-is_ok+in_ok-mend w ↦
          subst (λ (ls : Lists). AreBlockers c.did.new.self ls) (sym w.blockers-is)
          (blockers_mended (blocks_of c.args.blocks.now) c.args.mode c.args.self.now c.did.new.self c.args.event c.in_ok-answer.answer c.session_of-session.result c.in_ok-answer.ensures.answer
          c.session_of-session.ensures count c.transaction_of-before.result w.transaction_of-after.result w.of.result c.args.blockers.now w.mend.new.blockers reached
          (sym c.is_ok.ensures.value ∙ w.if-is_ok.true) c.transaction_of-before.ensures w.transaction_of-after.ensures w.of.ensures c.requires.blockers w.in_ok-mend.ensures)
      | else-is_ok w ↦
          subst (λ (ls : Lists). AreBlockers c.did.new.self ls) (sym w.blockers-is)
          (blockers_left (blocks_of c.args.blocks.now) c.args.mode c.args.self.now c.did.new.self c.args.event c.in_ok-answer.answer c.session_of-session.result c.in_ok-answer.ensures.answer
          c.session_of-session.ensures c.args.blockers.now (sym c.is_ok.ensures.value ∙ w.if-is_ok.false) c.requires.blockers)
    ]

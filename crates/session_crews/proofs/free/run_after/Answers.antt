use Rattle.std.proofs.Common.{◌∙◌, ◌<◌, refl, sym, subst, rules, ℕ, List, take, get_or, length}
use Rattle.std.proofs.lemmas.List.{take_more}
use Rattle.session_machine.specs.Engine.{Engine}
use Rattle.session_seats.specs.Acts.{IsRunOf}
use Rattle.session_crews.specs.Inner.FreeRuns.{DidLast, RanBlock}
use Rattle.session_crews.proofs.Going.{of_on}
use Rattle.session_crews.proofs.Whole.{none_last, last_on}
use Rattle.session_crews.proofs.free.run_after.Goals as goal

pub loop-block-init : goal.loop-block-init
loop-block-init g c = record { seat = search rules; none = search rules; of = (refl, refl, refl); did = none_last (g.E.Engine.engine c.args.run.now.engine) }

pub loop-block-preserved : goal.loop-block-preserved
loop-block-preserved g c =
    let first = g.E.Engine.engine c.args.run.now.engine in
    let before = g.E.Engine.engine c.loop-block.run.engine in
    let after = g.E.Engine.engine c.run_block.new.run.engine in
    let blocks = c.args.after.now in
    let place = c.loop-block.block-index in
    let block = get_or blocks place 0 in
    let state = c.in-Some-run_block.state in
    let within : place < length blocks = search rules in
    let ran : RanBlock 0 block before after state = subst (λ (s : ℕ). RanBlock s block before after state) c.loop-block.invariant.seat c.in-Some-run_block.ensures.done.0 in
    record {
      seat = c.run_block.ensures.session ∙ c.loop-block.invariant.seat;
      none = c.in-Some-run_block.ensures.done.1;
      of = of_on first before after c.loop-block.invariant.of c.run_block.ensures.of;
      did = subst (λ (bs : List ℕ). DidLast bs first after) (sym (take_more blocks place 0 within))
          (last_on (take place blocks) block first before after state c.loop-block.invariant.did ran (sym c.is_over.ensures ∙ c.if-is_over.true));
    }

pub returns-in-Some-2-clause-of : goal.returns-in-Some-2-clause-of
returns-in-Some-2-clause-of g c =
    let first = g.E.Engine.engine c.args.run.now.engine in
    subst (λ (e : Engine). IsRunOf first e) (sym c.note-in-Some-2.ensures.same)
    (of_on first (g.E.Engine.engine c.loop-block.run.engine) (g.E.Engine.engine c.run_block.new.run.engine) c.loop-block.invariant.of c.run_block.ensures.of)

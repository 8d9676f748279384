use Rattle.std.proofs.Common.{sym, ◌∙◌, arith}
use Rattle.iso_lexer.proofs.Comments.{on_last_end, on_end, on_opening, on_other, on_nothing, last_slash}
use Rattle.iso_lexer.proofs.comment.comment_end.Goals as goal

pub returns-then-around-eq0 : goal.returns-then-around-eq0
returns-then-around-eq0 c =
    let bs = c.args.bytes.now in
    let end = sym c.ends_here.ensures ∙ c.if-ends_here.true in
    (omega arith, omega (arith, c.loop-at-test.true), last_slash bs c.loop-at.at end, on_last_end bs c.loop-at.at c.loop-at.around c.loop-at-test.true _ end c.if-around-eq0.true c.loop-at.invariant.same)

pub loop-at-preserved-then-ends_here : goal.loop-at-preserved-then-ends_here
loop-at-preserved-then-ends_here c =
    let end = sym c.ends_here.ensures ∙ c.if-ends_here.true in
    record {
      same = on_end c.args.bytes.now c.loop-at.at c.loop-at.around c.loop-at-test.true _ end c.if-around-eq0.false c.loop-at.invariant.same;
      within = omega (arith, c.loop-at-test.true);
      few = omega (arith, c.loop-at.invariant.few);
    }

pub loop-at-preserved-then-opens_here : goal.loop-at-preserved-then-opens_here
loop-at-preserved-then-opens_here c = record {
  same = on_opening c.args.bytes.now c.loop-at.at c.loop-at.around c.loop-at-test.true _ (sym c.ends_here.ensures ∙ c.if-ends_here.false) (sym c.opens_here.ensures ∙ c.if-opens_here.true) c.loop-at.invariant.same;
  within = omega (arith, c.loop-at-test.true);
  few = omega (arith, c.loop-at.invariant.few);
}

pub loop-at-preserved : goal.loop-at-preserved
loop-at-preserved c = record {
  same = on_other c.args.bytes.now c.loop-at.at c.loop-at.around c.loop-at-test.true _ (sym c.ends_here.ensures ∙ c.if-ends_here.false) (sym c.opens_here.ensures ∙ c.if-opens_here.false) c.loop-at.invariant.same;
  within = omega (arith, c.loop-at-test.true);
  few = omega (arith, c.loop-at.invariant.few);
}

pub returns : goal.returns
returns c = on_nothing c.args.bytes.now c.loop-at.at c.loop-at.around _ c.loop-at-test.false c.loop-at.invariant.same

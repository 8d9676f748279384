use Rattle.std.proofs.Common.{sym, ◌∙◌, arith}
use Rattle.iso_lexer.proofs.Quotes.{on_doubled, on_quote, on_other, is_closed, is_broken, at_end}
use Rattle.iso_lexer.proofs.quoted.quoted_end.Goals as goal
use Rattle.iso_lexer.proofs.quoted.quoted_end.Goals.{then-behind_quote+else-b-mark, else-behind_quote+then-b-mark-2, else-behind_quote+else-b-mark-2+else-is_break}

pub returns-then-b-mark : goal.returns-then-b-mark
returns-then-b-mark c = is_closed c.args.mark c.args.one_line c.args.bytes.now c.loop-i.i _ _ (omega arith) c.if-behind_quote.true c.if-b-mark.true c.loop-i.invariant

pub returns-then-is_break : goal.returns-then-is_break
returns-then-is_break c = is_broken c.args.mark c.args.one_line c.args.bytes.now c.loop-i.i _ _ (omega arith) c.if-behind_quote.false c.if-b-mark-2.false (sym c.is_break.ensures ∙ c.if-is_break.true) c.loop-i.invariant

pub loop-i-preserved : goal.loop-i-preserved
loop-i-preserved c =
    elim c.if-behind_quote.branch [
      | then-behind_quote+else-b-mark w ↦ on_doubled c.args.mark c.args.one_line c.args.bytes.now c.loop-i.i _ _ _ (omega arith) w.if-behind_quote.true w.behind_quote-is w.if-b-mark.false c.loop-i.invariant
      | else-behind_quote+then-b-mark-2 w ↦ on_quote c.args.mark c.args.one_line c.args.bytes.now c.loop-i.i _ _ _ (omega arith) w.if-behind_quote.false w.behind_quote-is w.if-b-mark-2.true c.loop-i.invariant
      | else-behind_quote+else-b-mark-2+else-is_break w ↦ on_other c.args.mark c.args.one_line c.args.bytes.now c.loop-i.i _ _ _ (omega arith) w.if-behind_quote.false (w.behind_quote-is ∙ w.if-behind_quote.false) w.if-b-mark-2.false (sym w.is_break.ensures ∙ w.if-is_break.false) c.loop-i.invariant
    ]

pub returns-then-behind_quote-2 : goal.returns-then-behind_quote-2
returns-then-behind_quote-2 c = rw c.if-behind_quote-2.true at (at_end c.args.mark c.args.one_line _ c.args.bytes.now c.loop-i.i _ (omega arith) (omega arith) c.loop-i.invariant)

pub returns-else-behind_quote-2 : goal.returns-else-behind_quote-2
returns-else-behind_quote-2 c = rw c.if-behind_quote-2.false at (at_end c.args.mark c.args.one_line _ c.args.bytes.now c.loop-i.i _ (omega arith) (omega arith) c.loop-i.invariant)

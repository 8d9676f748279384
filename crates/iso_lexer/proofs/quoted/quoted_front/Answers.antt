use Rattle.std.proofs.Common.{arith}
use Rattle.iso_lexer.proofs.QuoteEnds.{closed_boundary, broken_within, Closing}
use Rattle.iso_lexer.proofs.quoted.quoted_front.Goals as goal
use Rattle.iso_lexer.proofs.quoted.quoted_front.Goals.{In-Closed}

at_end : (c : In-Closed) → Closing c.args.text.now c.in-Closed.len
at_end c = closed_boundary c.args.mark c.args.one_line c.args.text.now c.as_bytes.result.now c.in-Closed.len c.requires c.utf8.text c.as_bytes.ensures.value c.in-Closed.ensures

pub split_at-requires : goal.split_at-requires
split_at-requires c = (at_end c).behind

pub overflow_sub-len : goal.overflow_sub-len
overflow_sub-len c = (at_end (goal.at.overflow_sub-len c).In-Closed).some

pub split_at-requires-in-Closed : goal.split_at-requires-in-Closed
split_at-requires-in-Closed c = (at_end (goal.at.split_at-requires-in-Closed c).In-Closed).before

pub overflow_add-result : goal.overflow_add-result
overflow_add-result c = omega (arith, broken_within c.args.mark c.args.one_line c.args.text.now c.as_bytes.result.now c.in-Broken.at c.as_bytes.ensures.value c.in-Broken.ensures)

use Rattle.std.proofs.Common.{◌≡◌, drop, false}
use Rattle.iso_lexer.specs.Quotes.{longer}
use Rattle.iso_lexer.specs.Inner.Quotes.{quoted_from}
use Rattle.iso_lexer.proofs.quoted.quoted_end.Given as goal

abbrev pub invariant-loop-i : goal.invariant-loop-i
invariant-loop-i l = longer l.i (quoted_from l.mark l.one_line l.behind_quote (drop l.i l.bytes)) ≡ quoted_from l.mark l.one_line false l.bytes

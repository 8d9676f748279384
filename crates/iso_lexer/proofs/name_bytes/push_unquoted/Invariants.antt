use Rattle.std.proofs.Common.{◌≡◌, ◌++◌, length}
use Rattle.iso_lexer.specs.Names.{unquoted}
use Rattle.iso_lexer.proofs.name_bytes.push_unquoted.Given as goal

abbrev pub invariant-loop-first : goal.invariant-loop-first
invariant-loop-first l = l.text.items ++ unquoted l.rest ≡ l.fn.text.items ++ unquoted l.fn.quoted

abbrev pub decreases-loop-first : goal.decreases-loop-first
decreases-loop-first l = length l.rest

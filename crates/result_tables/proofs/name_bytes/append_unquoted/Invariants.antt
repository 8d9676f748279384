use Rattle.std.proofs.Common.{◌≡◌, ◌++◌, length}
use Rattle.iso_lexer.specs.Names.{unquoted}
use Rattle.result_tables.proofs.name_bytes.append_unquoted.Given as goal

abbrev pub invariant-loop-byte : goal.invariant-loop-byte
invariant-loop-byte l = l.line.items ++ unquoted l.rest ≡ l.initial.line.items ++ unquoted l.text

abbrev pub decreases-loop-byte : goal.decreases-loop-byte
decreases-loop-byte l = length l.rest

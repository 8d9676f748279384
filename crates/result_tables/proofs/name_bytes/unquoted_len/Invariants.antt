use Rattle.std.proofs.Common.{◌≡◌, ◌+◌, ◌≤◌, length}
use Rattle.iso_lexer.specs.Names.{unquoted}
use Rattle.result_tables.proofs.name_bytes.unquoted_len.Given as goal

abbrev pub invariant-loop-behind : goal.invariant-loop-behind
invariant-loop-behind l =
    (l.count + length (unquoted l.rest) ≡ length (unquoted l.text)) × (l.count + length l.rest ≤ length l.text)

abbrev pub decreases-loop-behind : goal.decreases-loop-behind
decreases-loop-behind l = length l.rest

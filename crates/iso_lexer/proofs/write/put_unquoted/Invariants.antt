use Rattle.std.proofs.Common.{◌≡◌, ◌≤◌, true, length}
use Rattle.iso_lexer.specs.Names.{unquoted}
use Rattle.iso_lexer.proofs.Writing.{Gone}
use Rattle.iso_lexer.proofs.write.put_unquoted.Given as goal

abbrev pub invariant-loop-at : goal.invariant-loop-at
invariant-loop-at g l =
    let put = g.W.Sink.put_so_far in
    let failed = g.W.Sink.failed in
    record { gone : Gone (put l.fn.out) (put l.out) (unquoted l.rest) (unquoted l.text); stays : failed l.fn.out ≡ true → failed l.out ≡ true; within : length l.rest ≤ length l.text }

abbrev pub decreases-loop-at : goal.decreases-loop-at
decreases-loop-at g l = length l.rest

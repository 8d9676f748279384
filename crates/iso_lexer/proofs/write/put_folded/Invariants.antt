use Rattle.std.proofs.Common.{◌≡◌, true, drop}
use Rattle.std.specs.Prelude.{map}
use Rattle.std.specs.Char.{to_ascii_lowercase}
use Rattle.iso_lexer.proofs.Writing.{Gone}
use Rattle.iso_lexer.proofs.write.put_folded.Given as goal

abbrev pub invariant-loop-b : goal.invariant-loop-b
invariant-loop-b g l =
    let put = g.W.Sink.put_so_far in
    let failed = g.W.Sink.failed in
    record { gone : Gone (put l.fn.out) (put l.out) (map to_ascii_lowercase (drop l.b-index l.text)) (map to_ascii_lowercase l.text); stays : failed l.fn.out ≡ true → failed l.out ≡ true }

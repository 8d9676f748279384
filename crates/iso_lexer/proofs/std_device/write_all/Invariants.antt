use Rattle.iso_lexer.proofs.Writing.{Gone}
use Rattle.iso_lexer.proofs.std_device.write_all.Given as goal

abbrev pub invariant-loop : goal.invariant-loop
invariant-loop g l = Gone (g.T.Write.contents l.fn.to) (g.T.Write.contents l.to) l.rest l.bytes

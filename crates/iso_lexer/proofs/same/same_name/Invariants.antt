use Rattle.std.proofs.Common.{◌≡◌, length}
use Rattle.std.specs.Prelude.{bytes_eq}
use Rattle.iso_lexer.specs.Names.{name_view}
use Rattle.iso_lexer.specs.Names.{decoded}
use Rattle.iso_lexer.specs.Inner.NameParts.{decoded_in}
use Rattle.iso_lexer.proofs.same.same_name.Given as goal

abbrev pub invariant-loop-first : goal.invariant-loop-first
invariant-loop-first l = bytes_eq (decoded_in (name_view l.a) l.x) (decoded_in (name_view l.b) l.y) ≡ bytes_eq (decoded (name_view l.a)) (decoded (name_view l.b))

abbrev pub decreases-loop-first : goal.decreases-loop-first
decreases-loop-first l = length l.x

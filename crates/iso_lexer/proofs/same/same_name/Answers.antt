use Rattle.std.proofs.Common.{◌≡◌, refl}
use Rattle.iso_lexer.specs.Names.{Written, plain, quoted, folded, name_view, decoded}
use Rattle.iso_lexer.specs.Inner.NameParts.{decoded_in, raw_bytes}
use Rattle.iso_lexer.proofs.same.same_name.Goals as goal

decoded_is : (n : Written) → decoded_in n (raw_bytes n) ≡ decoded n
decoded_is (plain s) = refl
decoded_is (quoted s) = refl
decoded_is (folded s) = refl

pub loop-first-init : goal.loop-first-init
loop-first-init c = rw (c.written-x.ensures, c.written-y.ensures, decoded_is (name_view c.args.a.now), decoded_is (name_view c.args.b.now)) refl

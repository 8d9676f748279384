use Rattle.std.proofs.Common.{◌≡◌, drop, take, map, []}
use Rattle.spec_parser.specs.Inner.Known.{first_repeat}
use Rattle.spec_parser.specs.Inner.Known.{known_view}
use Rattle.spec_parser.proofs.known.first_repeat.Given as goal

abbrev pub invariant-loop-i : goal.invariant-loop-i
invariant-loop-i l = first_repeat (map known_view (take l.i l.known)) (map known_view (drop l.i l.known)) ≡ first_repeat [] (map known_view l.known)

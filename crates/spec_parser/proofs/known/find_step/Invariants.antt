use Rattle.std.proofs.Common.{◌≡◌, drop, map}
use Rattle.std.specs.Prelude.{find}
use Rattle.iso_lexer.specs.Names.{name_view}
use Rattle.spec_parser.specs.Names.{is_named}
use Rattle.spec_parser.specs.Inner.Known.{known_view}
use Rattle.spec_parser.proofs.known.find_step.Given as goal

abbrev pub invariant-loop-step : goal.invariant-loop-step
invariant-loop-step l = find (is_named (name_view l.name)) (map known_view (drop l.step-index l.known)) ≡ find (is_named (name_view l.name)) (map known_view l.known)

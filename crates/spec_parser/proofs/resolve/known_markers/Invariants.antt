use Rattle.std.proofs.Common.{◌≡◌, drop, map}
use Rattle.spec_parser.specs.Trees.{marker_view}
use Rattle.iso_lexer.specs.Results.{each}
use Rattle.spec_parser.specs.Names.{known_marker}
use Rattle.spec_parser.specs.Inner.Known.{known_view}
use Rattle.spec_parser.proofs.Resolving.{prepend}
use Rattle.spec_parser.proofs.resolve.known_markers.Given as goal

abbrev pub invariant-loop-name : goal.invariant-loop-name
invariant-loop-name l = prepend (l.items.items) (each (known_marker (map known_view l.known)) (map marker_view (drop l.name-index l.markers))) ≡ each (known_marker (map known_view l.known)) (map marker_view l.markers)

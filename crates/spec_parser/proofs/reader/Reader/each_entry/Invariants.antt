use Rattle.std.proofs.Common.{[], length}
use Rattle.std.specs.Prelude.{map}
use Rattle.spec_parser.specs.Trees.{entry_name_view}
use Rattle.spec_parser.specs.Inner.Stopping.{entry_at}
use Rattle.spec_parser.specs.Inner.Pieces.{starts_name}
use Rattle.spec_parser.specs.Inner.Readers.{rest_of, Same}
use Rattle.spec_parser.proofs.Loops.{SoFar}
use Rattle.spec_parser.proofs.reader.Reader.each_entry.Given as goal

abbrev pub invariant-loop-alloc : goal.invariant-loop-alloc
invariant-loop-alloc l = record { same : Same l.fn.self l.self; so_far : SoFar starts_name entry_at [] (rest_of l.fn.self) (map entry_name_view l.items.items) (rest_of l.self) }

abbrev pub decreases-loop-alloc : goal.decreases-loop-alloc
decreases-loop-alloc l = length (rest_of l.self).1

use Rattle.std.proofs.Common.{◌≡◌, drop, map}
use Rattle.spec_parser.specs.Trees.{entry_name_view, entry_view}
use Rattle.iso_lexer.specs.Results.{each}
use Rattle.spec_parser.specs.Names.{known_entry}
use Rattle.spec_parser.specs.Inner.Known.{known_view}
use Rattle.spec_parser.proofs.Resolving.{prepend}
use Rattle.spec_parser.proofs.resolve.known_perm.Given as goal

abbrev pub invariant-loop-entry : goal.invariant-loop-entry
invariant-loop-entry l = prepend (map entry_view l.items.items) (each (known_entry (map known_view l.known)) (map entry_name_view (drop l.entry-index l.entries))) ≡ each (known_entry (map known_view l.known)) (map entry_name_view l.entries)

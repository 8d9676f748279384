use Rattle.std.proofs.Common.{◌≡◌, drop, map}
use Rattle.spec_parser.specs.Trees.{perm_names_view, perm_view}
use Rattle.iso_lexer.specs.Results.{each}
use Rattle.spec_parser.specs.Names.{known_entry}
use Rattle.spec_parser.specs.Inner.Known.{known_view}
use Rattle.spec_parser.proofs.Resolving.{prepend}
use Rattle.spec_parser.proofs.resolve.known_perms.Given as goal

abbrev pub invariant-loop-entries : goal.invariant-loop-entries
invariant-loop-entries l = prepend (map perm_view l.items.items) (each (each (known_entry (map known_view l.known))) (map perm_names_view (drop l.entries-index l.perms))) ≡ each (each (known_entry (map known_view l.known))) (map perm_names_view l.perms)

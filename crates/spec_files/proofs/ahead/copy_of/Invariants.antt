use Rattle.std.proofs.Common.{◌≡◌, take}
use Rattle.std.specs.Prelude.{map}
use Rattle.spec_parser.specs.Trees.{entry_view}
use Rattle.spec_files.proofs.ahead.copy_of.Given as goal

abbrev pub invariant-loop-entry : goal.invariant-loop-entry
invariant-loop-entry l = map entry_view l.copy.items ≡ map entry_view (take l.entry-index l.entries)

use Rattle.std.proofs.Common.{◌≡◌, map, take}
use Rattle.spec_parser.specs.Trees.{entry_view}
use Rattle.outcome_counts.proofs.counted.copied_entries.Given as goal

abbrev pub invariant-loop-entry : goal.invariant-loop-entry
invariant-loop-entry l = map entry_view l.copies.items ≡ map entry_view (take l.entry-index l.entries)

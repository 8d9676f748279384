use Rattle.std.proofs.Common.{◌≡◌, ◌++◌, map, flat_map, take}
use Rattle.spec_parser.specs.Trees.{entry_view, spec_view}
use Rattle.iso_lexer.specs.Devices.{page_text}
use Rattle.permutation_lists.specs.Lines.{entry_text}
use Rattle.permutation_lists.proofs.line.push_entries.Given as goal

abbrev pub invariant-loop-entry : goal.invariant-loop-entry
invariant-loop-entry l = page_text l.page ≡ page_text l.fn.page ++ flat_map (entry_text (spec_view l.spec)) (map entry_view (take l.entry-index l.entries))

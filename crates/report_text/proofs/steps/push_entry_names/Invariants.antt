use Rattle.std.proofs.Common.{◌≡◌, ◌++◌, take}
use Rattle.std.specs.Prelude.{map, flat_map}
use Rattle.iso_lexer.specs.Devices.{page_text}
use Rattle.spec_parser.specs.Trees.{spec_view, entry_view}
use Rattle.report_text.specs.Inner.Steps.{entry_name}
use Rattle.report_text.proofs.steps.push_entry_names.Given as goal

abbrev pub invariant-loop-entry : goal.invariant-loop-entry
invariant-loop-entry l = page_text l.page ≡ page_text l.fn.page ++ flat_map (entry_name (spec_view l.spec)) (map entry_view (take l.entry-index l.entries))

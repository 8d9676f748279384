use Rattle.std.proofs.Common.{◌≡◌, ◌++◌, flat_map, take}
use Rattle.spec_parser.specs.Trees.{spec_view}
use Rattle.iso_lexer.specs.Devices.{page_text}
use Rattle.permutation_lists.specs.Lines.{more_marker}
use Rattle.permutation_lists.proofs.line.push_more.Given as goal

abbrev pub invariant-loop-marker : goal.invariant-loop-marker
invariant-loop-marker l = page_text l.page ≡ page_text l.fn.page ++ flat_map (more_marker (spec_view l.spec)) (take l.marker-index l.markers)

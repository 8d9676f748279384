use Rattle.std.proofs.Common.{◌≡◌, ◌++◌, take}
use Rattle.iso_lexer.specs.Devices.{page_text}
use Rattle.std.specs.Prelude.{flat_map}
use Rattle.spec_parser.specs.Trees.{spec_view}
use Rattle.report_text.specs.LineText.{line_text}
use Rattle.report_text.proofs.permutation.push_lines.Given as goal

abbrev pub invariant-loop-line : goal.invariant-loop-line
invariant-loop-line l = page_text l.page ≡ page_text l.fn.page ++ flat_map (line_text (spec_view l.spec) l.run) (take l.line-index l.lines)

use Rattle.std.proofs.Common.{◌≡◌, drop}
use Rattle.std.specs.Prelude.{find, map}
use Rattle.spec_parser.specs.Trees.{step_view}
use Rattle.report_text.specs.FreeText.{has_block}
use Rattle.report_text.proofs.free_lines.step_with.Given as goal

abbrev pub invariant-loop-step : goal.invariant-loop-step
invariant-loop-step l = find (has_block l.block) (map step_view (drop l.step-index l.session.steps.items)) ≡ find (has_block l.block) (map step_view l.session.steps.items)

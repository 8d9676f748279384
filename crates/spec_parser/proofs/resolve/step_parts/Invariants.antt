use Rattle.std.proofs.Common.{◌≡◌, ◌++◌, drop, map}
use Rattle.spec_parser.specs.Trees.{draft_view, step_view}
use Rattle.spec_parser.specs.Inner.Known.{step_tree}
use Rattle.spec_parser.proofs.resolve.step_parts.Given as goal

abbrev pub invariant-loop-step : goal.invariant-loop-step
invariant-loop-step l = map step_view l.parts.items ++ map step_tree (map draft_view (drop l.step-index l.steps)) ≡ map step_tree (map draft_view l.steps)

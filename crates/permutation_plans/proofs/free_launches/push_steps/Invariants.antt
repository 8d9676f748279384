use Rattle.std.proofs.Common.{◌≡◌, ◌++◌, drop}
use Rattle.std.specs.Prelude.{map}
use Rattle.spec_parser.specs.Trees.{step_view}
use Rattle.permutation_plans.specs.FreeLaunches.{step_block}
use Rattle.permutation_plans.proofs.free_launches.push_steps.Given as goal

abbrev pub invariant-loop-step : goal.invariant-loop-step
invariant-loop-step l = l.blocks.items ++ map step_block (map step_view (drop l.step-index l.steps)) ≡ l.fn.blocks.items ++ map step_block (map step_view l.steps)

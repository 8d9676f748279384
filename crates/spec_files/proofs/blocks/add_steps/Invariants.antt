use Rattle.std.proofs.Common.{◌≡◌, ◌++◌, take}
use Rattle.std.specs.Prelude.{map}
use Rattle.spec_parser.specs.Trees.{step_view}
use Rattle.sql_blocks.specs.declared.block.Role.TheVariants.{Session}
use Rattle.spec_files.specs.BlockAnswers.{block_as}
use Rattle.spec_files.specs.BlockAnswers.{placed_view, step_part}
use Rattle.spec_files.proofs.blocks.add_steps.Given as goal

abbrev pub invariant-loop-step : goal.invariant-loop-step
invariant-loop-step l = map placed_view l.parts.items ≡ map placed_view l.fn.parts.items ++ map (block_as Session) (map step_part (map step_view (take l.step-index l.steps)))

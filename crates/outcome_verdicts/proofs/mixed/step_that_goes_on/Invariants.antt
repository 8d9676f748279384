use Rattle.std.proofs.Common.{◌≡◌, drop}
use Rattle.std.specs.List.{list_any}
use Rattle.sql_blocks.specs.Blocks.{blocks_of}
use Rattle.spec_parser.specs.Trees.{spec_view}
use Rattle.outcome_verdicts.specs.Failures.{goes_on}
use Rattle.outcome_verdicts.proofs.mixed.step_that_goes_on.Given as goal

abbrev pub invariant-loop-step : goal.invariant-loop-step
invariant-loop-step l =
    list_any (goes_on (spec_view l.spec) (blocks_of l.blocks) l.session) (drop l.step-index l.steps) ≡ list_any (goes_on (spec_view l.spec) (blocks_of l.blocks) l.session) l.steps

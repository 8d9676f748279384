use Rattle.std.proofs.Common.{◌≡◌, drop, map}
use Rattle.sql_blocks.specs.Blocks.{blocks_of}
use Rattle.spec_parser.specs.Trees.{session_view}
use Rattle.outcome_verdicts.specs.Transactions.{cut, is_open_at_first, of_session}
use Rattle.outcome_verdicts.specs.Inner.Cutting.{with_rest}
use Rattle.outcome_verdicts.proofs.transactions.cut.Given as goal

abbrev pub invariant-loop-step : goal.invariant-loop-step
invariant-loop-step l =
    with_rest l.number l.over.items l.now.items (cut (blocks_of l.blocks) (session_view l.session) l.begun (drop l.step-index l.steps))
    ≡ map (of_session l.number) (cut (blocks_of l.blocks) (session_view l.session) (is_open_at_first (blocks_of l.blocks) (session_view l.session)) l.steps)

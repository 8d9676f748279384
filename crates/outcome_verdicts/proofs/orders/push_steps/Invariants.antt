use Rattle.std.proofs.Common.{◌≡◌, ◌++◌, take, map}
use Rattle.spec_parser.specs.Trees.{entry_view}
use Rattle.outcome_verdicts.specs.Transactions.{entries_in, of_session}
use Rattle.outcome_verdicts.proofs.orders.push_steps.Given as goal

abbrev pub invariant-loop-step : goal.invariant-loop-step
invariant-loop-step l =
    map entry_view l.entries.items ≡ map entry_view l.fn.entries.items ++ entries_in (of_session l.transaction.session (take l.step-index l.step-items))

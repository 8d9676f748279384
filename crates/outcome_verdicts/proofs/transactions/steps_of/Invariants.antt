use Rattle.std.proofs.Common.{◌≡◌, ◌++◌, drop, map}
use Rattle.spec_parser.specs.Trees.{entry_view}
use Rattle.outcome_verdicts.specs.Transactions.{steps_of}
use Rattle.outcome_verdicts.proofs.transactions.steps_of.Given as goal

abbrev pub invariant-loop-entry : goal.invariant-loop-entry
invariant-loop-entry l =
    l.steps.items ++ steps_of l.session (map entry_view (drop l.entry-index l.entries)) ≡ steps_of l.session (map entry_view l.entries)

use Rattle.std.proofs.Common.{◌≡◌, take, map}
use Rattle.spec_parser.specs.Trees.{spec_view}
use Rattle.outcome_verdicts.specs.Transactions.{list_view}
use Rattle.outcome_verdicts.specs.Failures.{rest_of}
use Rattle.outcome_verdicts.proofs.failures.rest_of.Given as goal

abbrev pub invariant-loop-list : goal.invariant-loop-list
invariant-loop-list l =
    map list_view l.rest.items ≡ rest_of (spec_view l.spec) l.outcome (map list_view (take l.list-index l.lists))

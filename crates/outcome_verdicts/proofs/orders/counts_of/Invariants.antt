use Rattle.std.proofs.Common.{◌≡◌, length, take, map}
use Rattle.outcome_verdicts.specs.Transactions.{list_view}
use Rattle.outcome_verdicts.proofs.orders.counts_of.Given as goal

abbrev pub invariant-loop-list : goal.invariant-loop-list
invariant-loop-list l =
    l.counts.items ≡ map length (map list_view (take l.list-index l.lists))

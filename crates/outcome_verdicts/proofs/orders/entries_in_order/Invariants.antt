use Rattle.std.proofs.Common.{◌≡◌, ◌++◌, map}
use Rattle.spec_parser.specs.Trees.{entry_view}
use Rattle.outcome_verdicts.specs.Transactions.{in_order, list_view}
use Rattle.outcome_verdicts.proofs.Turns.{turns_from}
use Rattle.outcome_verdicts.proofs.orders.entries_in_order.Given as goal

abbrev pub invariant-loop-place : goal.invariant-loop-place
invariant-loop-place l = map entry_view l.entries.items ++ turns_from (map list_view l.lists) l.order l.place ≡ in_order (map list_view l.lists) l.order

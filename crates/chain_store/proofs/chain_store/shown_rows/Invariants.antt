use Rattle.chain_store.proofs.Showing.{ShownOf}
use Rattle.chain_store.proofs.chain_store.shown_rows.Given as goal

-- of the rows so far each is in the list as it is shown
abbrev pub invariant-loop-number : goal.invariant-loop-number
invariant-loop-number l = ShownOf l.list l.view l.table l.numbers l.number-index l.shown.items

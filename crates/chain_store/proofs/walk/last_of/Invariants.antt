use Rattle.chain_store.specs.Inner.Linked.{counts, passes_at}
use Rattle.chain_store.proofs.Walking.{NoneFrom}
use Rattle.chain_store.proofs.walk.last_of.Given as goal

-- no place from here on has a write that counts
abbrev pub invariant-loop-index : goal.invariant-loop-index
invariant-loop-index l = NoneFrom (passes_at l.list.log (counts l.list l.asker)) l.places l.index

use Rattle.std.proofs.Common.{List, ℕ, sym, subst}
use Rattle.std.specs.List.Sorted.{IsStrictlyIncreasing}
use Rattle.chain_store.specs.declared.walk.Asker.TheVariants.{ByTx}
use Rattle.chain_store.specs.Inner.Linked.{IsGreatest, NonePasses, counts, passes_at}
use Rattle.chain_store.proofs.Linking.{chain_within}
use Rattle.chain_store.proofs.Showing.{newest_is, no_newest}
use Rattle.chain_store.proofs.chain_store.newest_in.Goals as goal

pub last_of-requires-clause-within : goal.last_of-requires-clause-within
last_of-requires-clause-within c = chain_within c.args.list.now c.args.links.now c.args.row.0 c.at.result.now c.requires.linked c.at.ensures

pub last_of-requires-clause-rise : goal.last_of-requires-clause-rise
last_of-requires-clause-rise c = subst IsStrictlyIncreasing (sym c.at.ensures) (c.requires.linked.chains c.args.row.0).rise

pub returns-in_err-place : goal.returns-in_err-place
returns-in_err-place c = rw c.from_residual.ensures
    (sym (no_newest c.args.list.now c.args.links.now c.args.row c.args.tx c.requires.linked c.requires.stands
    (subst (λ (xs : List ℕ). NonePasses (passes_at c.args.list.now.log (counts c.args.list.now (ByTx c.args.tx))) xs) c.at.ensures c.in_err-place.ensures)))

pub returns : goal.returns
returns c = sym (newest_is c.args.list.now c.args.links.now c.args.row c.args.tx c.in_ok-place.place c.requires.linked c.requires.stands
    (subst (λ (xs : List ℕ). IsGreatest (passes_at c.args.list.now.log (counts c.args.list.now (ByTx c.args.tx))) xs c.in_ok-place.place) c.at.ensures c.in_ok-place.ensures))

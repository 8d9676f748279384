use Rattle.std.proofs.Common.{◌<◌, List, ℕ, length, refl, sym, subst, ap, arith, rules, inl, inr}
use Rattle.std.specs.List.Sorted.{IsStrictlyIncreasing}
use Rattle.chain_store.specs.declared.walk.Asker.TheVariants.{ByView}
use Rattle.chain_store.specs.Inner.Linked.{IsGreatest, NonePasses, counts, passes_at}
use Rattle.chain_store.proofs.Linking.{at_place, chain_within, in_log}
use Rattle.chain_store.proofs.Showing.{last_hides, last_shown, none_shown}
use Rattle.chain_store.proofs.chain_store.shown_of.Goals as goal
use Rattle.chain_store.proofs.chain_store.shown_of.Goals.{then-write-table-via-then-write-table, then-write-table-via-else-write-table+then-is_none}

pub last_of-requires-clause-within : goal.last_of-requires-clause-within
last_of-requires-clause-within c = chain_within c.args.list.now c.args.links.now c.args.row c.at.result.now c.requires.linked c.at.ensures

pub last_of-requires-clause-rise : goal.last_of-requires-clause-rise
last_of-requires-clause-rise c = subst IsStrictlyIncreasing (sym c.at.ensures) (c.requires.linked.chains c.args.row).rise

pub returns-in_err-place : goal.returns-in_err-place
returns-in_err-place c = rw c.from_residual.ensures
    (none_shown c.args.list.now c.args.links.now c.args.view.now c.args.table c.args.row c.requires.linked c.requires.stands
    (subst (λ (xs : List ℕ). NonePasses (passes_at c.args.list.now.log (counts c.args.list.now (ByView c.args.view.now))) xs) c.at.ensures c.in_err-place.ensures))

pub offset_bounds-log-place : goal.offset_bounds-log-place
offset_bounds-log-place c =
    let p = in_log c.args.list.now c.args.links.now c.args.row c.in_ok-place.place c.at.result.now c.requires.linked c.at.ensures c.in_ok-place.ensures.there in
    let l : c.in_ok-place.place < length c.log.result.now = omega (arith, p.within, ap length c.log.ensures) in
    search rules

pub bounds-log-place : goal.bounds-log-place
bounds-log-place c =
    let p = in_log c.args.list.now c.args.links.now c.args.row c.in_ok-place.place c.at.result.now c.requires.linked c.at.ensures c.in_ok-place.ensures.there in
    omega (arith, p.within, ap length c.log.ensures)

pub returns-then-write-table : goal.returns-then-write-table
returns-then-write-table c =
    let p = in_log c.args.list.now c.args.links.now c.args.row c.in_ok-place.place c.at.result.now c.requires.linked c.at.ensures c.in_ok-place.ensures.there in
    let w = c.index-log-place.result in
    let there = at_place c.log.result.now c.args.list.now.log c.in_ok-place.place w c.log.ensures (omega (arith, p.within, ap length c.log.ensures)) c.index-log-place.is in
    let last = subst (λ (xs : List ℕ). IsGreatest (passes_at c.args.list.now.log (counts c.args.list.now (ByView c.args.view.now))) xs c.in_ok-place.place) c.at.ensures c.in_ok-place.ensures in
    last_hides c.args.list.now c.args.links.now c.args.view.now c.args.table c.args.row c.in_ok-place.place w c.requires.linked c.requires.stands last there
    (elim c.then-write-table.branch [ then-write-table-via-then-write-table v ↦ inl v.if-write-table.true | then-write-table-via-else-write-table+then-is_none v ↦ inr v.if-is_none.ensures ])

pub returns : goal.returns
returns c =
    let p = in_log c.args.list.now c.args.links.now c.args.row c.in_ok-place.place c.at.result.now c.requires.linked c.at.ensures c.in_ok-place.ensures.there in
    let w = c.index-log-place.result in
    let there = at_place c.log.result.now c.args.list.now.log c.in_ok-place.place w c.log.ensures (omega (arith, p.within, ap length c.log.ensures)) c.index-log-place.is in
    let last = subst (λ (xs : List ℕ). IsGreatest (passes_at c.args.list.now.log (counts c.args.list.now (ByView c.args.view.now))) xs c.in_ok-place.place) c.at.ensures c.in_ok-place.ensures in
    (refl, last_shown c.args.list.now c.args.links.now c.args.view.now c.args.table c.args.row c.in_ok-place.place w c.requires.linked c.requires.stands last there c.if-write-table.false c.if-is_none.ensures)

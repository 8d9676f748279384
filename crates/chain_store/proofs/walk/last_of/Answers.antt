use Rattle.std.proofs.Common.{◌<◌, ◌-◌, length, get_or, sym, ◌∙◌, ap, arith, rules, inl, inr}
use Rattle.std.proofs.lemmas.Bool.{cases_eq}
use Rattle.chain_store.specs.Inner.Linked.{counts, passes_at}
use Rattle.chain_store.proofs.Linking.{at_place, passes_is}
use Rattle.chain_store.proofs.Walking.{greatest, none_passes}
use Rattle.chain_store.proofs.walk.last_of.Goals as goal

pub returns-then-counts : goal.returns-then-counts
returns-then-counts c =
    let log = c.args.list.now.log in
    let xs = c.args.places.now in
    let i = c.loop-index.index - 1 in
    let inside : c.loop-index.index - 1 < length c.args.places.now = search rules in
    let l : get_or c.args.places.now (c.loop-index.index - 1) 0 < length c.log-log.result.now = omega (arith, c.requires.within i 0 inside, ap length c.log-log.ensures) in
    let w = c.index-log-place.result in
    let there = at_place c.log-log.result.now log (get_or xs i 0) w c.log-log.ensures l c.index-log-place.is in
    greatest (passes_at log (counts c.args.list.now c.args.asker.now)) xs i c.requires.rise inside
    (passes_is log (counts c.args.list.now c.args.asker.now) (get_or xs i 0) w there ∙ sym c.counts.ensures ∙ c.if-counts.true)
    (λ k m n. c.loop-index.invariant k (omega arith) n)

pub loop-index-preserved : goal.loop-index-preserved
loop-index-preserved c = λ k m n.
    let log = c.args.list.now.log in
    let xs = c.args.places.now in
    let i = c.loop-index.index - 1 in
    let inside : c.loop-index.index - 1 < length c.args.places.now = search rules in
    let l : get_or c.args.places.now (c.loop-index.index - 1) 0 < length c.log-log.result.now = omega (arith, c.requires.within i 0 inside, ap length c.log-log.ensures) in
    let w = c.index-log-place.result in
    let there = at_place c.log-log.result.now log (get_or xs i 0) w c.log-log.ensures l c.index-log-place.is in
    elim (cases_eq k i) [
      | inl same ↦ ap (λ j. passes_at log (counts c.args.list.now c.args.asker.now) (get_or xs j 0)) same
          ∙ passes_is log (counts c.args.list.now c.args.asker.now) (get_or xs i 0) w there ∙ sym c.counts.ensures ∙ c.if-counts.false
      | inr other ↦ c.loop-index.invariant k (omega arith) n
    ]

pub returns : goal.returns
returns c = none_passes (passes_at c.args.list.now.log (counts c.args.list.now c.args.asker.now)) c.args.places.now (λ k m n. c.loop-index.invariant k (omega arith) n)

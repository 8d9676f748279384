use Rattle.std.proofs.Common.{sym, ◌∙◌, ap}
use Rattle.std.specs.Prelude.{option_and_then}
use Rattle.row_versions.specs.Log.{has_committed}
use Rattle.unique_keys.specs.Inner.Finding.{row_noted}
use Rattle.unique_keys.specs.Inner.Slots.{at}
use Rattle.unique_keys.proofs.Taking.{among_more, taker_is_first}
use Rattle.unique_keys.proofs.taken.taker.Goals as goal

pub loop-row-preserved : goal.loop-row-preserved
loop-row-preserved g c =
    among_more (has_committed (g.V.Versions.content c.args.store.now)) c.args.notes.now.slots.items c.args.table c.args.tx c.args.except c.args.asked.now c.args.columns.now c.candidates-candidates.result.now c.loop-row.row-index
    c.loop-row.first c.first_taking-place.result c.earlier-first.result c.loop-row-test.true c.loop-row.invariant c.first_taking-place.ensures c.earlier-first.ensures

pub returns-in_err-first : goal.returns-in_err-first
returns-in_err-first g c =
    let slots = c.args.notes.now.slots.items in
    rw c.from_residual.ensures
    (sym (ap (λ o. row_noted (option_and_then (λ place. at slots place) o)) c.in_err-first.was)
    ∙ taker_is_first (has_committed (g.V.Versions.content c.args.store.now)) slots c.args.table c.args.tx c.args.except c.args.asked.now c.args.columns.now c.candidates-candidates.result.now c.loop-row.row-index
    c.loop-row.first c.candidates-candidates.ensures c.loop-row-test.false c.loop-row.invariant)

pub returns : goal.returns
returns g c =
    let slots = c.args.notes.now.slots.items in
    c.row_at.ensures ∙ sym (ap (λ o. row_noted (option_and_then (λ place. at slots place) o)) c.in_ok-first.was)
    ∙ taker_is_first (has_committed (g.V.Versions.content c.args.store.now)) slots c.args.table c.args.tx c.args.except c.args.asked.now c.args.columns.now c.candidates-candidates.result.now c.loop-row.row-index
    c.loop-row.first c.candidates-candidates.ensures c.loop-row-test.false c.loop-row.invariant

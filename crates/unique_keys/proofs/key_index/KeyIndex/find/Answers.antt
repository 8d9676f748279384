use Rattle.std.proofs.Common.{[], ap, ◌∙◌, sym}
use Rattle.std.specs.Prelude.{option_and_then}
use Rattle.row_versions.specs.Newest.{newest_of}
use Rattle.unique_keys.specs.Checks.{found_by}
use Rattle.unique_keys.specs.Inner.Slots.{kept}
use Rattle.unique_keys.proofs.Answered.{finds_held, finds_unheld}
use Rattle.unique_keys.proofs.key_index.KeyIndex.find.Goals as goal

pub returns-then-is_held-clause-found : goal.returns-then-is_held-clause-found
returns-then-is_held-clause-found g c = λ up is_open.
    finds_held (g.V.Versions.content c.args.store.now) c.args.table c.args.tx c.args.except c.args.asked.now c.args.columns.now c.is_held.result (c.is_held.ensures up) c.if-is_held.true

pub returns-in-Some-clause-found : goal.returns-in-Some-clause-found
returns-in-Some-clause-found g c = λ up is_open.
    let content = g.V.Versions.content c.args.store.now in
    finds_unheld content c.args.self.now (kept c.self.inside.notes.slots.items) c.args.table c.args.tx c.args.except c.args.asked.now c.args.columns.now c.is_held.result c.taker.result
    c.self.view_is c.is_held.ensures c.if-is_held.false c.taker.ensures up is_open
    ∙ ap (λ o. found_by [] (option_and_then (λ row. newest_of content row c.args.tx) o)) c.in-Some.is ∙ ap (found_by []) (sym c.newest.ensures) ∙ sym c.found_in.ensures

pub returns-in-None-clause-found : goal.returns-in-None-clause-found
returns-in-None-clause-found g c = λ up is_open.
    let content = g.V.Versions.content c.args.store.now in
    finds_unheld content c.args.self.now (kept c.self.inside.notes.slots.items) c.args.table c.args.tx c.args.except c.args.asked.now c.args.columns.now c.is_held.result c.taker.result
    c.self.view_is c.is_held.ensures c.if-is_held.false c.taker.ensures up is_open
    ∙ ap (λ o. found_by [] (option_and_then (λ row. newest_of content row c.args.tx) o)) c.in-None.is

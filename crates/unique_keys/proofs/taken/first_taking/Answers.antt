use Rattle.std.proofs.Common.{sym, ◌∙◌, ap, ◌&&◌}
use Rattle.row_versions.specs.Log.{has_committed}
use Rattle.unique_keys.specs.Inner.Finding.{newest_has}
use Rattle.unique_keys.specs.Inner.Slots.{kept}
use Rattle.unique_keys.proofs.Taking.{first_given, never_given, takes_nothing}
use Rattle.unique_keys.proofs.taken.first_taking.Goals as goal
use Rattle.unique_keys.proofs.taken.first_taking.Goals.{then-not-is_another-via-then-not-is_another, then-not-is_another-via-else-not-is_another+then-not-newest_has}

pub returns-then-not-is_another : goal.returns-then-not-is_another
returns-then-not-is_another g c =
    let committed = has_committed (g.V.Versions.content c.args.store.now) in
    let slots = c.args.notes.now.slots.items in
    let still = newest_has committed (kept slots) c.args.columns.now c.args.asked.now c.args.row c.args.tx in
    takes_nothing slots committed c.args.table c.args.tx c.args.except c.args.asked.now c.args.columns.now c.args.row
    (elim c.then-not-is_another.branch [
      | then-not-is_another-via-then-not-is_another w ↦ ap (λ b. b && still) (sym c.is_another.ensures ∙ w.if-not-is_another.true)
      | then-not-is_another-via-else-not-is_another+then-not-newest_has w ↦
          ap (λ b. b && still) (sym c.is_another.ensures ∙ w.if-not-is_another.false) ∙ sym w.newest_has.ensures ∙ w.if-not-newest_has.true
    ])

pub returns-then-gives_at : goal.returns-then-gives_at
returns-then-gives_at g c =
    let committed = has_committed (g.V.Versions.content c.args.store.now) in
    first_given c.args.notes.now committed c.args.table c.args.tx c.args.except c.args.asked.now c.args.columns.now c.args.row c.at-places.result.now c.loop-place.place-index c.requires c.at-places.ensures
    (sym c.is_another.ensures ∙ c.if-not-is_another.false) (sym c.newest_has.ensures ∙ c.if-not-newest_has.false) c.loop-place-test.true (sym c.gives_at.ensures ∙ c.if-gives_at.true) c.loop-place.invariant

pub returns : goal.returns
returns g c =
    let committed = has_committed (g.V.Versions.content c.args.store.now) in
    never_given c.args.notes.now committed c.args.table c.args.tx c.args.except c.args.asked.now c.args.columns.now c.args.row c.at-places.result.now c.loop-place.place-index c.requires c.at-places.ensures
    (sym c.is_another.ensures ∙ c.if-not-is_another.false) (sym c.newest_has.ensures ∙ c.if-not-newest_has.false) c.loop-place-test.false c.loop-place.invariant

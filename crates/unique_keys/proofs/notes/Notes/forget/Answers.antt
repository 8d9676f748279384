use Rattle.std.proofs.Common.{◌≡◌, sym, ◌∙◌, [], rules}
use Rattle.places.specs.Noted.{noted}
use Rattle.unique_keys.specs.Inner.Slots.{kept}
use Rattle.unique_keys.proofs.Slots.{without_none}
use Rattle.unique_keys.proofs.Places.{no_places}
use Rattle.unique_keys.proofs.notes.Notes.forget.Goals as goal

pub returns-clause-left : goal.returns-clause-left
returns-clause-left c =
    let none : noted c.loop-place.self.by_tx c.args.tx.0 ≡ [] = search rules in
    sym (without_none c.args.tx (kept c.loop-place.self.slots.items) (no_places c.loop-place.self c.args.tx c.loop-place.invariant.0 none)) ∙ c.loop-place.invariant.1

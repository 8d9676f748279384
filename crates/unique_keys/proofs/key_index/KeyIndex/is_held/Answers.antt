use Rattle.std.proofs.Common.{◌∙◌}
use Rattle.unique_keys.specs.Inner.Slots.{kept}
use Rattle.unique_keys.proofs.Answered.{held_by_some}
use Rattle.unique_keys.proofs.key_index.KeyIndex.is_held.Goals as goal

pub returns : goal.returns
returns g c = λ up.
    c.is_blocked.ensures
    ∙ held_by_some (g.V.Versions.content c.args.store.now) c.args.self.now (kept c.self.inside.notes.slots.items) c.args.table c.args.tx c.args.asked.now c.args.columns.now c.self.view_is up

use Rattle.std.proofs.Common.{◌∙◌, rules, tests}
use Rattle.std.proofs.lemmas.Iterator.Search.{any_from_yields_List}
use Rattle.std.proofs.lemmas.Iterator.{YieldsList-from_slice}
use Rattle.row_versions.specs.Log.{has_committed}
use Rattle.unique_keys.specs.Inner.Finding.{holds_by_row}
use Rattle.unique_keys.specs.Inner.Slots.{kept}
use Rattle.unique_keys.proofs.Standing.{candidates_hold}
use Rattle.unique_keys.proofs.blocking.holds.Goals as goal

pub returns : goal.returns
returns g c =
    let committed = has_committed (g.V.Versions.content c.args.store.now) in
    let slots = c.args.notes.now.slots.items in
    any_from_yields_List (λ r. holds_by_row committed (kept slots) c.args.table c.args.columns.now c.args.asked.now c.args.tx (record { 0 = r })) _ _ c.any.result c.any.ensures.ran
    (YieldsList-from_slice c.args.candidates.now cc) (λ x b q k. search (rules, tests))
    ∙ candidates_hold committed slots c.args.candidates.now c.args.table c.args.columns.now c.args.asked.now c.args.tx c.requires.leads

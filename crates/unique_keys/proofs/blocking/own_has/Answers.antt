use Rattle.std.proofs.Common.{rules, tests, ◌==◌, ◌&&◌}
use Rattle.std.proofs.lemmas.Iterator.Search.{any_from_yields_List}
use Rattle.std.proofs.lemmas.Iterator.{YieldsList-from_slice}
use Rattle.row_versions.specs.Members.{same_tx}
use Rattle.unique_keys.specs.declared.noted.Noted.{Noted}
use Rattle.unique_keys.specs.Keys.{has_key}
use Rattle.unique_keys.specs.Inner.Slots.{at, passes}
use Rattle.unique_keys.proofs.Quick.{both}
use Rattle.unique_keys.proofs.Places.{any_of_writer}
use Rattle.unique_keys.proofs.blocking.own_has.Goals as goal

pub returns : goal.returns
returns c =
    let test = λ (v : Noted). ((v.row.0 == c.args.row.0) && same_tx v.tx c.args.tx) && has_key c.args.columns.now c.args.asked.now v.values in
    any_of_writer c.args.notes.now c.args.row c.args.tx test c.written-places.result.now c.any.result
    (λ w h. (both ((w.row.0 == c.args.row.0) && same_tx w.tx c.args.tx) (has_key c.args.columns.now c.args.asked.now w.values) h).0)
    c.written-places.ensures
    (any_from_yields_List (λ p. passes test (at c.args.notes.now.slots.items p)) _ _ c.any.result c.any.ensures.ran (YieldsList-from_slice c.written-places.result.now cc) (λ x b q k. search (rules, tests)))

use Rattle.std.proofs.Common.{◌≡◌, sym, ◌∙◌, ap, subst, false, suc, ◌-◌, ◌==◌, drop, arith}
use Rattle.std.specs.List.{list_any}
use Rattle.row_versions.specs.Log.{has_committed}
use Rattle.unique_keys.specs.Inner.Finding.{counts_by, is_version_by, version_has}
use Rattle.unique_keys.specs.Inner.Slots.{at, kept, passes}
use Rattle.unique_keys.proofs.Quick.{both}
use Rattle.unique_keys.proofs.Slots.{last_none}
use Rattle.unique_keys.proofs.Places.{any_of_row, last_of_row}
use Rattle.unique_keys.proofs.newest.last_has.Goals as goal

pub returns-then-is_version_at : goal.returns-then-is_version_at
returns-then-is_version_at g c =
    let committed = has_committed (g.V.Versions.content c.args.store.now) in
    let test = is_version_by committed c.args.own c.args.row in
    let slots = c.args.notes.now.slots.items in
    let places = c.at-places.result.now in
    let next : c.loop-index.index ≡ suc (c.loop-index.index - 1) = omega arith in
    c.version_has.ensures
    ∙ ap (version_has c.args.columns.now c.args.asked.now)
    (c.at.ensures
    ∙ sym (last_of_row c.args.notes.now c.args.row test places (c.loop-index.index - 1) c.requires (λ w h. (both (w.row.0 == c.args.row.0) (counts_by committed c.args.own w) h).0) c.at-places.ensures
    (omega arith) (sym c.is_version_at.ensures ∙ c.if-is_version_at.true) (subst (λ n. list_any (λ p. passes test (at slots p)) (drop n places) ≡ false) next c.loop-index.invariant)))

pub returns : goal.returns
returns g c =
    let committed = has_committed (g.V.Versions.content c.args.store.now) in
    let test = is_version_by committed c.args.own c.args.row in
    let slots = c.args.notes.now.slots.items in
    let places = c.at-places.result.now in
    let end : c.loop-index.index ≡ 0 = omega arith in
    let none = any_of_row c.args.notes.now c.args.row test places false c.requires (λ w h. (both (w.row.0 == c.args.row.0) (counts_by committed c.args.own w) h).0) c.at-places.ensures
    (sym (subst (λ n. list_any (λ p. passes test (at slots p)) (drop n places) ≡ false) end c.loop-index.invariant)) in
    sym (ap (version_has c.args.columns.now c.args.asked.now) (last_none test (kept slots) (sym none)))

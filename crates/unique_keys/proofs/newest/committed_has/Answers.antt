use Rattle.std.proofs.Common.{◌≡◌, refl, ap, ◌∙◌, Bool, true, false, ◌||◌, ◌&&◌, ◌==◌}
use mathlib.Core.Path.{fun_ext}
use Rattle.row_versions.specs.Log.{has_committed}
use Rattle.unique_keys.specs.Inner.Finding.{last_of, version_has}
use Rattle.unique_keys.specs.Inner.Slots.{kept}
use Rattle.unique_keys.proofs.newest.committed_has.Goals as goal

or_false : (b : Bool) → (b || false) ≡ b
or_false true = refl
or_false false = refl

pub returns : goal.returns
returns g c =
    let committed = has_committed (g.V.Versions.content c.args.store.now) in
    c.last_has.ensures
    ∙ ap (λ test. version_has c.args.columns.now c.args.asked.now (last_of test (kept c.args.notes.now.slots.items))) (fun_ext (λ w. ap (λ b. (w.row.0 == c.args.row.0) && b) (or_false (committed w.tx))))

use Rattle.std.proofs.Common.{◌↔◌, [], map, subst, IsTrue, IfOk}
use Rattle.std.proofs.lemmas.Result.{IfOk-weaker}
use Rattle.spec_parser.specs.Trees.{entry_view, spec_view}
use Rattle.report_lines.specs.Due.{Launches as Listed}
use Rattle.permutation_plans.specs.Launches.{due_after, due_in}
use Rattle.permutation_plans.specs.Code.Fits.{FitsAfter}
use Rattle.permutation_plans.specs.Regular.{LaunchesFit}
use Rattle.permutation_plans.proofs.Next.{fits_so}
use Rattle.permutation_plans.proofs.fit.launches_fit.Goals as goal

pub returns : goal.returns
returns c =
    let spec = spec_view c.args.spec.now in
    let entries = map entry_view c.args.entries.now in
    let items = c.args.items.now in
    let same = fits_so spec entries items in
    let found : IfOk c.fits.result (λ fit. IsTrue fit ↔ FitsAfter (due_in spec entries) [] items) =
    subst (λ (l : Listed). IfOk c.fits.result (λ fit. IsTrue fit ↔ FitsAfter (due_after l entries) [] items)) c.in_ok-launches.ensures c.fits.ensures in
    IfOk-weaker c.fits.result (λ fit. IsTrue fit ↔ FitsAfter (due_in spec entries) [] items) (λ fit. IsTrue fit ↔ LaunchesFit spec entries items)
    (λ fit h. (λ yes. same.0 (h.0 yes), λ launched. h.1 (same.1 launched))) found

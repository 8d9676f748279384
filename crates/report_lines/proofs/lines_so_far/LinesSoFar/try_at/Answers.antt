use Rattle.std.proofs.Common.{◌≡◌, ◌<◌, ◌≤◌, ◌&&◌, true, false, Some, slice_get, length, sym, ◌∙◌, ap, arith}
use Rattle.std.proofs.lemmas.Result.{err_from_is_err_and}
use Rattle.report_lines.specs.Report.{active}
use Rattle.report_lines.specs.Code.Walk.{can_report}
use Rattle.report_lines.specs.Code.SoFar.{LinesSoFar}
use Rattle.report_lines.specs.Inner.Trying.{is_chosen, retried_from}
use Rattle.report_lines.specs.declared.history.Line.TheVariants.{Completed}
use Rattle.report_lines.proofs.Passes.{try_reports, try_fewer, try_passes, waits_below}
use Rattle.report_lines.proofs.Growing.{one_longer, try_adds}
use Rattle.report_lines.proofs.lines_so_far.LinesSoFar.try_at.Goals as goal

pub completes-requires-clause-entry : goal.completes-requires-clause-entry
completes-requires-clause-entry c =
    let so_far = c.args.self.now in
    let at : slice_get (active so_far.lines so_far.launched) c.args.place ≡ Some c.in-Some.entry = sym c.waiting_at.ensures.entry ∙ c.in-Some.is in
    let below : c.in-Some.entry < so_far.launched = waits_below so_far.lines so_far.launched c.args.place c.in-Some.entry at in
    omega (arith, c.requires.entries)

pub complete-requires : goal.complete-requires
complete-requires c =
    let so_far = c.args.self.now in
    let at : slice_get (active so_far.lines so_far.launched) c.args.place ≡ Some c.in-Some.entry = sym c.waiting_at.ensures.entry ∙ c.in-Some.is in
    waits_below so_far.lines so_far.launched c.args.place c.in-Some.entry at

pub returns-in_ok-complete-clause-lines : goal.returns-in_ok-complete-clause-lines
returns-in_ok-complete-clause-lines c =
    let so_far = c.args.self.now in
    let at : slice_get (active so_far.lines so_far.launched) c.args.place ≡ Some c.in-Some.entry = sym c.waiting_at.ensures.entry ∙ c.in-Some.is in
    let can : (is_chosen c.args.run.now c.args.m c.args.chosen c.in-Some.entry && can_report c.args.run.now c.args.m so_far.lines c.in-Some.entry) ≡ true = sym c.completes.ensures ∙ c.if-completes.true in
    ap (λ (t : LinesSoFar). retried_from c.args.run.now c.args.m c.args.chosen t.lines t.launched c.args.place) c.in_ok-complete.ensures
    ∙ try_reports c.args.run.now c.args.m c.args.chosen so_far.lines so_far.launched c.args.place c.in-Some.entry at can

pub returns-in_ok-complete-clause-fewer : goal.returns-in_ok-complete-clause-fewer
returns-in_ok-complete-clause-fewer c =
    let so_far = c.args.self.now in
    let at : slice_get (active so_far.lines so_far.launched) c.args.place ≡ Some c.in-Some.entry = sym c.waiting_at.ensures.entry ∙ c.in-Some.is in
    let same = ap (λ (t : LinesSoFar). length (active t.lines t.launched)) c.in_ok-complete.ensures in
    let less = try_fewer so_far.lines so_far.launched c.args.place c.in-Some.entry c.args.m.seen at in
    omega arith

pub returns-else-completes-clause-lines : goal.returns-else-completes-clause-lines
returns-else-completes-clause-lines c =
    let so_far = c.args.self.now in
    let at : slice_get (active so_far.lines so_far.launched) c.args.place ≡ Some c.in-Some.entry = sym c.waiting_at.ensures.entry ∙ c.in-Some.is in
    let cannot : (is_chosen c.args.run.now c.args.m c.args.chosen c.in-Some.entry && can_report c.args.run.now c.args.m so_far.lines c.in-Some.entry) ≡ false = sym c.completes.ensures ∙ c.if-completes.false in
    try_passes c.args.run.now c.args.m c.args.chosen so_far.lines so_far.launched c.args.place c.in-Some.entry at cannot

pub returns-in_ok-complete-clause-grown : goal.returns-in_ok-complete-clause-grown
returns-in_ok-complete-clause-grown c =
    let same = ap (λ (t : LinesSoFar). length t.lines) c.in_ok-complete.ensures in
    let one = one_longer c.args.self.now.lines (Completed c.in-Some.entry c.args.m.seen) in
    omega (arith, same, one)

pub returns-in_err-complete-clause-memory : goal.returns-in_err-complete-clause-memory
returns-in_err-complete-clause-memory c =
    let so_far = c.args.self.now in
    let at : slice_get (active so_far.lines so_far.launched) c.args.place ≡ Some c.in-Some.entry = sym c.waiting_at.ensures.entry ∙ c.in-Some.is in
    let can : (is_chosen c.args.run.now c.args.m c.args.chosen c.in-Some.entry && can_report c.args.run.now c.args.m so_far.lines c.in-Some.entry) ≡ true = sym c.completes.ensures ∙ c.if-completes.true in
    let p = err_from_is_err_and c.from_residual.result c.from_residual.ensures.1 in
    rw p.1 (try_adds c.args.run.now c.args.m c.args.chosen so_far.lines so_far.launched c.args.place c.in-Some.entry at can)

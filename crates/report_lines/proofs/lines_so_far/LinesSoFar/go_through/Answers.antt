use Rattle.std.proofs.Common.{◌≡◌, ℕ, ◌<◌, ◌≤◌, List, length, refl, sym, ◌∙◌, ap, arith}
use Rattle.std.specs.List.{fold}
use Rattle.std.proofs.lemmas.Result.{err_from_is_err_and}
use Rattle.report_lines.specs.declared.history.Line.{Line}
use Rattle.report_lines.specs.Report.{active}
use Rattle.report_lines.specs.Code.SoFar.{LinesSoFar}
use Rattle.report_lines.specs.Inner.Trying.{instances, chosen_retry}
use Rattle.report_lines.proofs.Passes.{through_waiting, through_end}
use Rattle.report_lines.proofs.lines_so_far.LinesSoFar.go_through.Goals as goal

pub loop-turn-init : goal.loop-turn-init
loop-turn-init c =
    let long : length c.self.inside.waiting.items ≡ length (active c.args.self.now.lines c.args.self.now.launched) =
    ap length c.self.invariant.waits ∙ ap (λ (t : LinesSoFar). length (active t.lines t.launched)) c.self.view_is in
    record {
      launched = refl;
      lines = sym (through_waiting c.args.run.now c.args.m c.args.chosen c.args.self.now.lines c.args.self.now.launched);
      grown = omega arith;
      fewer = omega (arith, c.self.inside.waiting.ok.0);
    }

pub returns-clause-lines : goal.returns-clause-lines
returns-clause-lines c =
    let so_far : List Line → ℕ → LinesSoFar = λ lines launched. record { lines = lines; launched = launched } in
    let over : length (active c.loop-turn.self.lines c.loop-turn.self.launched) ≤ c.loop-turn.place = omega arith in
    let lines = sym (through_end c.args.run.now c.args.m c.args.chosen c.loop-turn.self.lines c.loop-turn.self.launched c.loop-turn.place over) ∙ c.loop-turn.invariant.lines in
    ap (λ (x : List Line). so_far x c.loop-turn.self.launched) lines
    ∙ ap (so_far (fold (chosen_retry c.args.run.now c.args.m c.args.chosen) c.args.self.now.lines (instances c.args.self.now.launched))) c.loop-turn.invariant.launched

pub returns-in_err-place-clause-memory : goal.returns-in_err-place-clause-memory
returns-in_err-place-clause-memory c =
    let p = err_from_is_err_and c.from_residual.result c.from_residual.ensures.1 in
    let same = ap length c.loop-turn.invariant.lines in
    let adds : length c.args.self.now.lines < length (fold (chosen_retry c.args.run.now c.args.m c.args.chosen) c.args.self.now.lines (instances c.args.self.now.launched)) =
    omega (arith, same, c.loop-turn.invariant.grown, c.in_err-place.ensures.memory) in
    rw p.1 adds

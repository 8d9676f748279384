use Rattle.std.proofs.Common.{◌≡◌, ◌+◌, ◌∙◌, ap, length, arith}
use Rattle.std.proofs.lemmas.Result.{err_from_is_err_and}
use Rattle.report_lines.specs.Code.SoFar.{LinesSoFar}
use Rattle.report_lines.specs.Inner.Trying.{pass}
use Rattle.report_lines.proofs.Waits.{polled_on}
use Rattle.report_lines.proofs.Growing.{pass_grows, poll_adds}
use Rattle.report_lines.proofs.lines_so_far.LinesSoFar.poll.Goals as goal

pub loop-turn-preserved : goal.loop-turn-preserved
loop-turn-preserved c =
    let lines : c.turn.new.self.lines ≡ pass c.args.run.now c.args.m c.loop-turn.self.lines = ap (λ (t : LinesSoFar). t.lines) c.in_ok-turn.ensures.lines in
    let longer = pass_grows c.args.run.now c.args.m c.loop-turn.self.lines in
    let same = ap length lines in
    record {
      launched = ap (λ (t : LinesSoFar). t.launched) c.in_ok-turn.ensures.lines ∙ c.loop-turn.invariant.launched;
      grown = omega (arith, longer, same, c.loop-turn.invariant.grown);
      lines = polled_on c.args.run.now c.args.m (c.args.m.joined + 1) c.loop-turn._turn c.loop-turn.self.lines c.turn.new.self.lines c.in_ok-turn.field-0 c.loop-turn-test.true lines c.in_ok-turn.ensures.again c.if-not-branch.false ∙ c.loop-turn.invariant.lines;
    }

pub returns-in_err-turn-clause-memory : goal.returns-in_err-turn-clause-memory
returns-in_err-turn-clause-memory c =
    let p = err_from_is_err_and c.from_residual.result c.from_residual.ensures.1 in
    rw p.1 (poll_adds c.args.run.now c.args.m (c.args.m.joined + 1) c.loop-turn._turn c.args.self.now.lines c.loop-turn.self.lines _ c.loop-turn-test.true c.loop-turn.invariant.grown c.loop-turn.invariant.lines
    c.in_err-turn.ensures.memory)

use Rattle.std.proofs.Common.{◌≤◌, ◌∙◌, ap, List, length, arith}
use Rattle.std.proofs.lemmas.Result.{on_ok_weaker, on_err_weaker}
use Rattle.report_lines.specs.Code.SoFar.{LinesSoFar}
use Rattle.report_lines.specs.declared.history.Line.{Line}
use Rattle.report_lines.proofs.Passes.{joined_pass}
use Rattle.report_lines.proofs.lines_so_far.LinesSoFar.pass.Goals as goal

pub returns-clause-lines : goal.returns-clause-lines
returns-clause-lines c =
    let so_far : List Line → LinesSoFar = λ lines. record { lines = lines; launched = c.args.self.now.launched } in
    let few : c.args.m.joined ≤ c.args.self.now.launched = omega (arith, c.requires.joined, c.requires.launched) in
    on_ok_weaker c.go_through.result (λ gone. gone ∙ ap so_far (joined_pass c.args.run.now c.args.m c.args.self.now.lines c.args.self.now.launched few)) c.go_through.ensures.lines

pub returns-clause-memory : goal.returns-clause-memory
returns-clause-memory c =
    let few : c.args.m.joined ≤ c.args.self.now.launched = omega (arith, c.requires.joined, c.requires.launched) in
    let same = ap length (joined_pass c.args.run.now c.args.m c.args.self.now.lines c.args.self.now.launched few) in
    on_err_weaker c.go_through.result (λ adds. omega (arith, adds, same)) c.go_through.ensures.memory

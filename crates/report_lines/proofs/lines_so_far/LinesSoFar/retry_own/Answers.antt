use Rattle.std.proofs.Common.{◌∙◌, ap, List, length, arith}
use Rattle.std.proofs.lemmas.Result.{on_ok_weaker, on_err_weaker}
use Rattle.report_lines.specs.Code.SoFar.{LinesSoFar}
use Rattle.report_lines.specs.declared.history.Line.{Line}
use Rattle.report_lines.proofs.Polls.{own_filter}
use Rattle.report_lines.proofs.lines_so_far.LinesSoFar.retry_own.Goals as goal
use Rattle.report_lines.specs.Inner.Trying.{instances}

pub returns-clause-lines : goal.returns-clause-lines
returns-clause-lines c =
    let so_far : List Line → LinesSoFar = λ lines. record { lines = lines; launched = c.args.self.now.launched } in
    on_ok_weaker c.go_through.result (λ gone. gone ∙ ap so_far (own_filter c.args.run.now c.args.m c.args.session (instances c.args.self.now.launched) c.args.self.now.lines)) c.go_through.ensures.lines

pub returns-clause-memory : goal.returns-clause-memory
returns-clause-memory c =
    let same = ap length (own_filter c.args.run.now c.args.m c.args.session (instances c.args.self.now.launched) c.args.self.now.lines) in
    on_err_weaker c.go_through.result (λ adds. omega (arith, adds, same)) c.go_through.ensures.memory

use Rattle.std.proofs.Common.{◌≡◌, ◌+◌, ◌-◌, ap, length}
use Rattle.report_lines.specs.declared.history.RunState.{RunState}
use Rattle.report_lines.specs.Code.SoFar.{LinesSoFar, IsReportSoFar, IsAt}
use Rattle.report_lines.specs.Code.Walk.{walked_from}
use Rattle.report_lines.proofs.Keeping.{both, tells_next, tells_over}
use Rattle.report_lines.proofs.lines_so_far.LinesSoFar.go_on.Goals as goal

pub returns-in_ok-launch-in-Due-clause-report : goal.returns-in_ok-launch-in-Due-clause-report
returns-in_ok-launch-in-Due-clause-report c =
    let run = c.args.run.now in
    let l = c.arrive.inside.launched in
    let mid = c.launch.new.self in
    let new = c.arrive-in-Due.new.self in
    both c.arrive-in-Due.result
    (λ (s : RunState). walked_from run l (length run.entries - l) l mid.lines ≡ record { lines = new.lines; state = s })
    (λ (s : RunState). IsAt run l new.launched s)
    (λ (s : RunState). IsReportSoFar run (c.args.count + 1) new s)
    (λ s reported at. tells_next run c.args.count c.in-Due.field-0 l c.args.self.now mid new c.args.state s c.requires.report c.in-Due.is c.in_ok-launch-in-Due.ensures (ap (λ (t : LinesSoFar). t.launched) c.arrive.view_is) reported at)
    c.arrive-in-Due.ensures.report c.arrive-in-Due.ensures.at

pub returns-in-Whole-clause-report : goal.returns-in-Whole-clause-report
returns-in-Whole-clause-report c = tells_over c.args.run.now c.args.count c.args.self.now c.args.state c.requires.report c.in-Whole.is

use Rattle.std.proofs.Common.{◌≡◌, ◌<◌, ◌∙◌, ap, sym, arith, true, false, length}
use Rattle.report_lines.specs.Code.SoFar.{LinesSoFar}
use Rattle.report_lines.specs.Code.Walk.{before_launch, has_unreported}
use Rattle.report_lines.proofs.Reports.{report_stuck, report_due}
use Rattle.report_lines.proofs.lines_so_far.LinesSoFar.arrive.Goals as goal

pub returns-then-is_busy-clause-report : goal.returns-then-is_busy-clause-report
returns-then-is_busy-clause-report c =
    let run = c.args.run.now in
    let e = c.args.entry in
    let way = c.make_way.new.self.lines in
    let less : e < length run.entries = grind arith in
    let is : way ≡ before_launch run c.args.self.now.lines e = ap (λ (t : LinesSoFar). t.lines) c.in_ok-make_way.ensures.lines in
    let busy : has_unreported run way e ≡ true = sym c.is_busy.ensures ∙ c.if-is_busy.true in
    report_stuck run (length run.entries) e c.args.self.now.lines way less is busy

pub returns-else-is_busy-clause-report : goal.returns-else-is_busy-clause-report
returns-else-is_busy-clause-report c =
    let run = c.args.run.now in
    let e = c.args.entry in
    let way = c.make_way.new.self.lines in
    let less : e < length run.entries = grind arith in
    let is : way ≡ before_launch run c.args.self.now.lines e = ap (λ (t : LinesSoFar). t.lines) c.in_ok-make_way.ensures.lines in
    let free : has_unreported run way e ≡ false = sym c.is_busy.ensures ∙ c.if-is_busy.false in
    report_due run (length run.entries) e c.args.self.now.lines way less is free

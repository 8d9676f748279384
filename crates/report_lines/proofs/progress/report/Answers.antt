use Rattle.std.proofs.Common.{◌-◌, ◌∙◌, subst}
use Rattle.report_lines.specs.History.{PermutationRun}
use Rattle.report_lines.specs.Due.{orders}
use Rattle.report_lines.specs.Code.Progress.{IsSettled}
use Rattle.report_lines.proofs.Keeping.{settled_tells}
use Rattle.report_lines.proofs.Same.{report_is}
use Rattle.report_lines.proofs.progress.report.Goals as goal

pub returns-clause-report : goal.returns-clause-report
returns-clause-report c =
    let run = c.args.run.now in
    report_is run (orders run.items - run.setups)
    ∙ settled_tells run c.reach.new.self
    (subst (λ (s : PermutationRun). IsSettled s c.reach.new.self) (λ i. record { entries = c.entries-2.ensures i; items = c.items.ensures i; setups = c.setups-2.ensures.exact i }) c.in_ok-reach.ensures.settled)

use Rattle.std.proofs.Common.{◌+◌, ◌∙◌, arith}
use Rattle.report_lines.proofs.Found.{start_past}
use Rattle.report_lines.proofs.run_so_far.RunSoFar.before.Goals as goal

pub returns-clause-seen : goal.returns-clause-seen
returns-clause-seen c = c.seen_before.ensures.exact ∙ start_past c.args.self.now.items (c.args.self.now.setups + c.args.entry) (omega (arith, c.requires.now))

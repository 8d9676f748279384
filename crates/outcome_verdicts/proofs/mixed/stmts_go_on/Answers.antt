use Rattle.std.proofs.Common.{◌∙◌}
use Rattle.outcome_verdicts.proofs.Ends.{front_ends}
use Rattle.outcome_verdicts.proofs.mixed.stmts_go_on.Goals as goal

pub returns : goal.returns
returns c = c.any_end.ensures ∙ front_ends c.args.stmts.now c.saturating_sub.result c.saturating_sub.ensures

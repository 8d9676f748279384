use Rattle.std.proofs.Common.{◌≡◌, ◌↔◌, sym, subst}
use Rattle.report_lines.specs.declared.history.RunState.TheVariants.{Invalid}
use Rattle.report_lines.specs.Report.{Report}
use Rattle.report_lines.specs.Invalid.{IsInvalid}
use Rattle.report_lines.proofs.Invalid.{invalid_is as law}
use Rattle.report_lines.proofs.Same.{report_is}
use Rattle.report_lines.proofs.laws.invalid_where_a_step_is_still_active.Goals as goal

pub returns : goal.returns
returns _ = λ c count. subst (λ (r : Report). r.state ≡ Invalid ↔ IsInvalid c count) (sym (report_is c count)) (law c count)

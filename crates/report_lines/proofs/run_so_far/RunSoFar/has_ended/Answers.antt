use Rattle.std.proofs.Common.{◌∙◌, ap, subst, nat_lt, length, get_or}
use Rattle.report_lines.specs.History.{PermutationRun}
use Rattle.report_lines.specs.Code.Places.{IsTimed}
use Rattle.report_lines.proofs.Found.{end_found}
use Rattle.report_lines.proofs.run_so_far.RunSoFar.has_ended.Goals as goal

pub returns-in-Some : goal.returns-in-Some
returns-in-Some c =
    let timed : IsTimed c.args.self.now c.self.inside.last.now = subst (λ (s : PermutationRun). IsTimed s c.self.inside.last.now) c.self.view_is c.self.invariant in
    ap (λ k. nat_lt k c.in-Some.last.now) c.seen_before-from.ensures.exact
    ∙ end_found c.args.self.now c.self.inside.last.now c.args.entry c.in-Some.last.now timed
    (c.in-Some.ensures.lookup.0 ∙ ap (λ k. nat_lt k (length c.self.inside.last.now)) c.session_at-session.ensures)
    (c.in-Some.ensures.lookup.1 ∙ ap (λ k. get_or c.self.inside.last.now k c.in-Some.last.now) c.session_at-session.ensures)

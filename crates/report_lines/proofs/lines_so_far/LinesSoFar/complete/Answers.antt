use Rattle.report_lines.proofs.Waits.{kept_leave}
use Rattle.std.proofs.Common.{◌≡◌, ◌++◌, ◌∷◌, [], ◌<◌, arith, ap}
use Rattle.report_lines.specs.Code.SoFar.{LinesSoFar}
use Rattle.report_lines.specs.declared.history.Line.TheVariants.{Completed}
use Rattle.report_lines.proofs.lines_so_far.LinesSoFar.complete.Goals as goal

pub invariant_of-self-2 : goal.invariant_of-self-2
invariant_of-self-2 c =
    let is : c.push.new.self.items ≡ c.self.inside.lines.items ++ Completed c.args.entry c.args.seen ∷ [] = c.in_ok-push.ensures.items in
    let small : c.args.entry < c.self.inside.launched = omega (arith, ap (λ (t : LinesSoFar). t.launched) c.self.view_is, c.requires) in
    rw is (kept_leave c.self.inside.lines.items c.self.inside.launched c.args.entry c.args.seen _ _ c.self.invariant small c.leave.ensures)

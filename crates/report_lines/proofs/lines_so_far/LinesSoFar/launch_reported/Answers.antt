use Rattle.std.proofs.Common.{◌≡◌, ◌++◌, ◌∷◌, []}
use Rattle.report_lines.specs.declared.history.Line.TheVariants.{AtOnce}
use Rattle.report_lines.proofs.Waits.{kept_first}
use Rattle.report_lines.proofs.lines_so_far.LinesSoFar.launch_reported.Goals as goal

pub invariant_of-self-2 : goal.invariant_of-self-2
invariant_of-self-2 c =
    let is : c.push.new.self.items ≡ c.self.inside.lines.items ++ AtOnce c.self.inside.launched c.args.seen ∷ [] = c.in_ok-push.ensures.items in
    rw is (kept_first c.self.inside.lines.items c.self.inside.launched c.args.seen c.self.inside.waiting.items c.self.invariant)

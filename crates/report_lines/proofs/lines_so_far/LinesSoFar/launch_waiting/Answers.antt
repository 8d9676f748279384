use Rattle.std.proofs.Common.{◌≡◌, ◌++◌, ◌∷◌, [], ap, ◌∙◌, List, ℕ}
use Rattle.report_lines.specs.declared.history.Line.TheVariants.{Waiting}
use Rattle.report_lines.proofs.Waits.{kept_wait}
use Rattle.report_lines.proofs.lines_so_far.LinesSoFar.launch_waiting.Goals as goal

pub invariant_of-self-2 : goal.invariant_of-self-2
invariant_of-self-2 c =
    let is : c.push.new.self.items ≡ c.self.inside.lines.items ++ Waiting c.self.inside.launched ∷ [] = c.in_ok-push.ensures.items in
    let joined = c.join.ensures ∙ ap (λ (w : List ℕ). w ++ c.self.inside.launched ∷ []) c.in_ok-try_reserve.ensures.items in
    rw (is, joined) (kept_wait c.self.inside.lines.items c.self.inside.launched c.self.inside.waiting.items c.self.invariant)

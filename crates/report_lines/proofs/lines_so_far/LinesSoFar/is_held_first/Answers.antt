use Rattle.std.proofs.Common.{◌≡◌, ◌+◌, ◌||◌, Bool, true, false, refl, sym, ap, subst, ◌∙◌}
use Rattle.std.specs.List.{list_any}
use Rattle.report_lines.specs.Code.SoFar.{LinesSoFar}
use Rattle.report_lines.specs.History.{PermutationRun}
use Rattle.report_lines.specs.Code.Walk.{is_awaited}
use Rattle.report_lines.specs.Report.{active}
use Rattle.report_lines.proofs.Waits.{held_first}
use Rattle.report_lines.proofs.lines_so_far.LinesSoFar.is_held_first.Goals as goal

abbrev HeldFirst : PermutationRun → LinesSoFar → Type 0
HeldFirst run t = list_any (is_awaited run t.launched) (active t.lines (t.launched + 1)) ≡ (list_any (is_awaited run t.launched) (active t.lines t.launched) || is_awaited run t.launched t.launched)

one : (a b : Bool) → a ≡ true → a ≡ (a || b)
one true b h = refl
one false b h = cc

other : (a b : Bool) → a ≡ false → b ≡ (a || b)
other true b h = cc
other false b h = refl

pub returns-then-held : goal.returns-then-held
returns-then-held c =
    let run = c.args.run.now in
    let t = c.args.self.now in
    let at : c.self.inside.launched ≡ t.launched = ap (λ (x : LinesSoFar). x.launched) c.self.view_is in
    let held : c.is_held-held.result ≡ list_any (is_awaited run t.launched) (active t.lines t.launched) = c.is_held-held.ensures ∙ ap (λ n. list_any (is_awaited run n) (active t.lines t.launched)) at in
    let named : c.is_named-by_itself.result ≡ is_awaited run t.launched t.launched = c.is_named-by_itself.ensures ∙ ap (λ n. is_awaited run n n) at in
    let first : HeldFirst run t = subst (HeldFirst run) c.self.view_is (held_first (is_awaited run c.self.inside.launched) c.self.inside.lines.items c.self.inside.launched c.self.inside.waiting.items c.self.invariant) in
    let both : (c.is_held-held.result || c.is_named-by_itself.result) ≡ list_any (is_awaited run t.launched) (active t.lines (t.launched + 1)) = rw (held, named) (sym first) in
    one c.is_held-held.result c.is_named-by_itself.result c.if-held.true ∙ both

pub returns-else-held : goal.returns-else-held
returns-else-held c =
    let run = c.args.run.now in
    let t = c.args.self.now in
    let at : c.self.inside.launched ≡ t.launched = ap (λ (x : LinesSoFar). x.launched) c.self.view_is in
    let held : c.is_held-held.result ≡ list_any (is_awaited run t.launched) (active t.lines t.launched) = c.is_held-held.ensures ∙ ap (λ n. list_any (is_awaited run n) (active t.lines t.launched)) at in
    let named : c.is_named-by_itself.result ≡ is_awaited run t.launched t.launched = c.is_named-by_itself.ensures ∙ ap (λ n. is_awaited run n n) at in
    let first : HeldFirst run t = subst (HeldFirst run) c.self.view_is (held_first (is_awaited run c.self.inside.launched) c.self.inside.lines.items c.self.inside.launched c.self.inside.waiting.items c.self.invariant) in
    let both : (c.is_held-held.result || c.is_named-by_itself.result) ≡ list_any (is_awaited run t.launched) (active t.lines (t.launched + 1)) = rw (held, named) (sym first) in
    other c.is_held-held.result c.is_named-by_itself.result c.if-held.false ∙ both

use Rattle.std.proofs.Common.{◌-◌, ◌≤◌, ℕ, length, take, drop, ap, ◌∙◌, arith}
use Rattle.std.proofs.lemmas.List.{take_min, take_all, length-drop}
use Rattle.report_text.proofs.line_text.between.Goals as goal

pub returns : goal.returns
returns c =
    let from = c.args.from in
    let behind = drop from c.args.items.now in
    let rest = take (length c.args.items.now - from) behind in
    let whole : length behind ≤ length c.args.items.now - from = simp length-drop (omega arith) in
    ap (λ (n : ℕ). take n rest) c.min-count.ensures
    ∙ take_min c.saturating_sub.result rest
    ∙ ap (λ (n : ℕ). take n rest) c.saturating_sub.ensures
    ∙ ap (take (c.args.to - from)) (take_all (length c.args.items.now - from) behind whole)

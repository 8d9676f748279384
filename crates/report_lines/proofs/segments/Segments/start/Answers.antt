use Rattle.std.proofs.Common.{◌≡◌, ◌≤◌, List, length, ap, sym, ◌∙◌, arith}
use Rattle.session_machine.specs.declared.reply.HistItem.{HistItem}
use Rattle.report_lines.specs.Starts.{segment_start}
use Rattle.report_lines.proofs.Found.{start_found, start_missing, start_within}
use Rattle.report_lines.proofs.segments.Segments.start.Goals as goal

pub returns-in-Some-clause-exact : goal.returns-in-Some-clause-exact
returns-in-Some-clause-exact c =
    start_found c.self.inside.history.now c.self.inside.starts.now c.args.number c.in-Some.place.now c.self.invariant c.in-Some.ensures.lookup.0 c.in-Some.ensures.lookup.1
    ∙ ap (λ (w : List HistItem). segment_start w c.args.number) c.self.view_is

pub returns-in-Some-clause-within : goal.returns-in-Some-clause-within
returns-in-Some-clause-within c =
    let at : c.in-Some.place.now ≡ segment_start c.self.inside.history.now c.args.number = start_found c.self.inside.history.now c.self.inside.starts.now c.args.number c.in-Some.place.now c.self.invariant c.in-Some.ensures.lookup.0 c.in-Some.ensures.lookup.1 in
    let within : segment_start c.self.inside.history.now c.args.number ≤ length c.self.inside.history.now = start_within c.self.inside.history.now c.args.number in
    let long : length c.self.inside.history.now ≡ length c.args.self.now = ap (λ (w : List HistItem). length w) c.self.view_is in
    omega arith

pub returns-in-None-clause-exact : goal.returns-in-None-clause-exact
returns-in-None-clause-exact c =
    let same : c.items.result.now ≡ c.self.inside.history.now = c.items.ensures ∙ sym c.self.view_is in
    ap (λ (w : List HistItem). length w) same
    ∙ start_missing c.self.inside.history.now c.self.inside.starts.now c.args.number c.self.invariant c.in-None.ensures.lookup.0
    ∙ ap (λ (w : List HistItem). segment_start w c.args.number) c.self.view_is

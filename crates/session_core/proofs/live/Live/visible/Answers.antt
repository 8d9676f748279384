use Rattle.std.proofs.Common.{◌≡◌, ◌∙◌, Some, ap, sym}
use Rattle.std.proofs.lemmas.Result.{err_from_is_err_and}
use Rattle.session_machine.specs.Machine.{Machine, visible_to}
use Rattle.session_core.proofs.Going.{shows}
use Rattle.session_core.proofs.live.Live.visible.Goals as goal

-- memory was refused to rows that are shown to a session that is there
pub returns-in_err-visible-clause-memory : goal.returns-in_err-visible-clause-memory
returns-in_err-visible-clause-memory g c =
    let p = err_from_is_err_and c.from_residual.result c.from_residual.ensures.1 in
    let shown = c.in_err-visible.ensures.memory in
    let here : visible_to c.args.self.now.db c.in-Some.current.now c.args.table.now ≡ Some shown.0 =
    sym (ap (λ (m : Machine). visible_to m.db c.in-Some.current.now c.args.table.now) c.self.view_is) ∙ shown.1 in
    rw p.1 (shown.0, shows c.args.self.now c.args.session c.args.table.now c.in-Some.current.now shown.0 c.in-Some.ensures here)

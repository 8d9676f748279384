use Rattle.std.proofs.Common.{◌∙◌, sym, ap}
use Rattle.session_machine.specs.Transactions.{started}
use Rattle.session_machine.specs.Rows.{Work}
use Rattle.session_statements.proofs.Going.{same_started}
use Rattle.session_statements.proofs.walk.halt.Goals as goal

pub returns-in-Blocked-clause-did : goal.returns-in-Blocked-clause-did
returns-in-Blocked-clause-did g c before outcome same =
    let db = c.args.db.now in
    let begun = c.started-begun.ensures ∙ ap (λ (x : Work). started db.content x.t) c.work.view_is ∙ sym (same_started before db.content c.args.work.now.t same) in
    rw c.in-Blocked.is (c.pause.ensures.pauses before db begun)

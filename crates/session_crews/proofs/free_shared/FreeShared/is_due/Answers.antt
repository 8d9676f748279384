use Rattle.std.proofs.Common.{rules, ◌≡◌, Some}
use Rattle.session_crews.proofs.free_shared.FreeShared.is_due.Goals as goal

pub returns-clause-exact : goal.returns-clause-exact
returns-clause-exact g c is =
    let due : c.due.result ≡ Some c.args.event = c.due.ensures.exact c.args.event is in
    search (rules, due)

use Rattle.std.proofs.Common.{◌≡◌, ◌<◌, get_or, length, subst}
use Rattle.session_machine.specs.Statements.{Surroundings}
use Rattle.session_database.proofs.Waiting.{one_more}
use Rattle.session_database.proofs.database.Database.waits_now.Goals as goal

pub loop-session-preserved : goal.loop-session-preserved
loop-session-preserved g c =
    let i = c.loop-session.session-index in
    let within = subst (λ (x : Surroundings). i < length x.sessions) c.around.view_is c.loop-session-test.true in
    let is = subst (λ (x : Surroundings). c.session-item.result ≡ get_or x.sessions i c.session-item.result) c.around.view_is c.session-item.is in
    one_more c.args.self.now c.args.around.now.sessions i c.session-item.result c.loop-session.waits c.add_wait.new.waits within is c.in_ok-add_wait.ensures c.loop-session.invariant

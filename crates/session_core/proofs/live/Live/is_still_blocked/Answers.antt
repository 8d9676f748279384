use Rattle.session_core.proofs.Blocking.{blocked_so}
use Rattle.session_core.proofs.live.Live.is_still_blocked.Goals as goal

pub returns : goal.returns
returns g c = blocked_so c.args.self.now c.args.blockers.now c.args.session c.is_blocked.result c.requires.blockers c.is_blocked.ensures

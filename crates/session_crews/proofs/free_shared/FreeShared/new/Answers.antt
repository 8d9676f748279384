use Rattle.session_crews.proofs.Scripts.{begins}
use Rattle.session_crews.proofs.free_shared.FreeShared.new.Goals as goal

pub invariant_of-result : goal.invariant_of-result
invariant_of-result g c = begins g.P.Scripting.start (g.E.Engine.engine c.args.engine) g.P.Scripting.scripts c.args.progress.items c.requires.start c.requires.unspent c.requires.scripts

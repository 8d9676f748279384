use Rattle.std.proofs.Common.{subst}
use Rattle.session_crews.specs.Inner.FreeRuns.{AreAtStart}
use Rattle.session_crews.proofs.free.run_scripting.Goals as goal

pub new-shared-requires-clause-scripts : goal.new-shared-requires-clause-scripts
new-shared-requires-clause-scripts g c = subst (λ scripts. AreAtStart scripts c.in-Ok.progress.items) c.requires.scripts c.in-Ok.ensures.ok

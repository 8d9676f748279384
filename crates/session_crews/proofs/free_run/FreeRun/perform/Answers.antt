use Rattle.std.proofs.Common.{subst, sym}
use Rattle.session_machine.specs.Engine.{Engine}
use Rattle.session_seats.specs.Acts.{IsRunOf}
use Rattle.session_crews.proofs.Going.{not_acted_of}
use Rattle.session_crews.proofs.free_run.FreeRun.perform.Goals as goal

pub returns-in-Err-clause-of : goal.returns-in-Err-clause-of
returns-in-Err-clause-of g c =
    subst (λ (e : Engine). IsRunOf (g.E.Engine.engine c.args.self.now.engine) e) (sym c.note.ensures.same)
    (not_acted_of c.args.event (g.E.Engine.engine c.args.self.now.engine) (g.E.Engine.engine c.act.new.engine) c.in-Err.fault c.in-Err.ensures.err)

use Rattle.std.proofs.Common.{◌≡◌, None, subst, sym}
use Rattle.session_crews.specs.Inner.FreeRuns.{AllDone, FreeSharedOf, HaveDone}
use Rattle.session_crews.proofs.Scripts.{all_done}
use Rattle.session_crews.proofs.free_shared.FreeShared.into_parts.Goals as goal

pub returns-clause-done : goal.returns-clause-done
returns-clause-done g c done =
    subst (λ (s : FreeSharedOf). s.fault ≡ None → AllDone g.P.Scripting.start g.P.Scripting.scripts s.engine) c.self.view_is
    (all_done g.P.Scripting.start (g.E.Engine.engine c.self.inside.engine) g.P.Scripting.scripts c.self.inside.progress.items c.self.inside.fault c.self.invariant (subst HaveDone c.deref.ensures.value (c.all_done-done.ensures.done done)))

pub returns-clause-all : goal.returns-clause-all
returns-clause-all g c done =
    let here : HaveDone c.self.inside.progress.items = subst (λ (s : FreeSharedOf). HaveDone s.progress) (sym c.self.view_is) done in
    c.all_done-done.ensures.all (subst HaveDone (sym c.deref.ensures.value) here)

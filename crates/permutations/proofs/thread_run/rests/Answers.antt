use Rattle.std.proofs.Common.{◌≡◌, subst, sym, true}
use Rattle.session_machine.specs.Engine.{Engine}
use Rattle.session_machine.specs.Engine.{is_quiet_in}
use Rattle.spec_files.specs.Inner.Resting.{IsAtRest}
use Rattle.permutations.proofs.Running.{rests}
use Rattle.permutations.proofs.thread_run.rests.Goals as goal

pub returns : goal.returns
returns g c =
    let same = c.state-engine.ensures in
    subst IsAtRest same (rests c.state-engine.result.now (subst (λ (e : Engine). is_quiet_in e.machine ≡ true) (sym same) c.requires) c.history.ensures.leads)

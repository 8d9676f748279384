use Rattle.std.proofs.Common.{subst}
use Rattle.session_machine.specs.Engine.{Engine, IsLegal}
use Rattle.permutations.proofs.free_run.is_legal.Goals as goal

pub returns : goal.returns
returns c = subst (λ (e : Engine). IsLegal e.blocks e.count e.mode e.history) c.state-engine.ensures c.history.ensures.legal

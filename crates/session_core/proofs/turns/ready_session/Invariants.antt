use Rattle.std.proofs.Common.{◌≡◌, drop}
use Rattle.std.specs.List.{position_from}
use Rattle.session_machine.specs.Inner.Steps.{is_ready}
use Rattle.session_core.proofs.turns.ready_session.Given as goal

-- of the sessions that are left the first ready one is that of all
abbrev pub invariant-loop-k : goal.invariant-loop-k
invariant-loop-k l = position_from is_ready l.k (drop l.k l.sessions) ≡ position_from is_ready 0 l.sessions

use Rattle.session_core.proofs.Blocking.{Mending}
use Rattle.session_core.proofs.live.Live.mend.Given as goal

-- the sessions so far are mended, and the others as they were
abbrev pub invariant-loop-k : goal.invariant-loop-k
invariant-loop-k g l = Mending l.self l.doer l.session l.fn.blockers l.k l.blockers

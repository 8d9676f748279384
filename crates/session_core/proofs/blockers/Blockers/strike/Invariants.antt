use Rattle.std.proofs.Common.{length}
use Rattle.session_core.proofs.Striking.{Struck}
use Rattle.session_core.proofs.blockers.Blockers.strike.Given as goal

-- all others are there still
abbrev pub invariant-loop-place : goal.invariant-loop-place
invariant-loop-place l = Struck l.tx l.fn.self l.self-inside.by.items

abbrev pub decreases-loop-place : goal.decreases-loop-place
decreases-loop-place l = length l.self-inside.by.items

use Rattle.std.proofs.Common.{◌≡◌, drop}
use Rattle.session_core.proofs.Striking.{place_from}
use Rattle.session_core.proofs.blockers.place_of.Given as goal

-- of those that are left its place is that among all
abbrev pub invariant-loop-place : goal.invariant-loop-place
invariant-loop-place l = place_from l.tx l.place (drop l.place l.found) ≡ place_from l.tx 0 l.found

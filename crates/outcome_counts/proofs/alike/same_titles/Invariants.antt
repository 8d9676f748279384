use Rattle.std.proofs.Common.{◌≡◌, take, length}
use Rattle.outcome_counts.proofs.alike.same_titles.Given as goal

abbrev pub invariant-loop-i : goal.invariant-loop-i
invariant-loop-i l = record { long : length l.a ≡ length l.b; same : take l.i l.a ≡ take l.i l.b }

use Rattle.std.proofs.Common.{◌≡◌, [], replicate}
use Rattle.session_core.proofs.blockers.AllBlockers.none.Given as goal

abbrev pub invariant-loop : goal.invariant-loop
invariant-loop l = l.lists.items ≡ replicate l.counter []

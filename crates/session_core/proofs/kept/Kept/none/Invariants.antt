use Rattle.std.proofs.Common.{◌≡◌, None, replicate}
use Rattle.session_core.proofs.kept.Kept.none.Given as goal

abbrev pub invariant-loop : goal.invariant-loop
invariant-loop l = l.lists.items ≡ replicate l.counter None

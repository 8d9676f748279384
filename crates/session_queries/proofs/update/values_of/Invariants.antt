use Rattle.std.proofs.Common.{◌≡◌, take}
use Rattle.session_queries.proofs.update.values_of.Given as goal

abbrev pub invariant-loop-value : goal.invariant-loop-value
invariant-loop-value l = l.values.items ≡ take l.value-index l.row

use Rattle.std.proofs.Common.{◌≡◌, map, take}
use Rattle.std.specs.Prelude.{slice_index_or}
use Rattle.session_queries.proofs.ordering.picked.Given as goal

abbrev pub invariant-loop-i : goal.invariant-loop-i
invariant-loop-i l = l.picked.items ≡ map (λ i. slice_index_or l.places i 0) (take l.i-index l.indices)

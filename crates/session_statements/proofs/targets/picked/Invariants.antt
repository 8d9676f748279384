use Rattle.std.proofs.Common.{◌≡◌, ◌++◌, drop, filter_map, slice_get}
use Rattle.session_statements.proofs.targets.picked.Given as goal

abbrev pub invariant-loop-place : goal.invariant-loop-place
invariant-loop-place l = l.picked.items ++ filter_map (slice_get l.seen) (drop l.place-index l.places) ≡ filter_map (slice_get l.seen) l.places

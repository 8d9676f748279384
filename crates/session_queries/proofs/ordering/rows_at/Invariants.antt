use Rattle.std.proofs.Common.{◌≡◌, map, take}
use Rattle.query_results.specs.Ordering.{rows_at}
use Rattle.session_queries.proofs.ordering.rows_at.Given as goal

abbrev pub invariant-loop-place : goal.invariant-loop-place
invariant-loop-place l = map (λ row. row.now) l.taken.items ≡ rows_at (map (λ row. row.now) l.rows) (take l.place-index l.places)

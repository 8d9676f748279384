use Rattle.std.proofs.Common.{◌≡◌, ◌<◌, [], None, drop, length, map}
use Rattle.std.specs.Prelude.{All}
use Rattle.query_results.specs.Queries.{passing}
use Rattle.session_queries.specs.Inner.Ordering.{passing_from}
use Rattle.session_queries.specs.Inner.Fronts.{in_front}
use Rattle.session_queries.proofs.passing.all_places.Given as goal

abbrev pub invariant-loop-place : goal.invariant-loop-place
invariant-loop-place l =
    let rows = map (λ row. row.now) l.rows in
    record {
      so_far : passing [] None rows ≡ in_front l.places.items (passing_from [] None l.place (map (λ row. row.now) (drop l.place l.rows)));
      within : All (λ p. p < length l.rows) l.places.items;
    }

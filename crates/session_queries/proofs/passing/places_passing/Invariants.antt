use Rattle.std.proofs.Common.{◌≡◌, ◌<◌, Some, drop, length, map}
use Rattle.std.specs.Prelude.{All}
use Rattle.sql_trees.specs.Trees.{tree_of}
use Rattle.query_results.specs.Queries.{passing}
use Rattle.session_queries.specs.Inner.Ordering.{passing_from}
use Rattle.session_queries.specs.Inner.Fronts.{in_front}
use Rattle.session_queries.proofs.passing.places_passing.Given as goal

abbrev pub invariant-loop-place : goal.invariant-loop-place
invariant-loop-place l =
    let condition = Some (tree_of l.condition.expr) in
    let rows = map (λ row. row.now) l.rows in
    record {
      so_far : passing l.condition.columns condition rows ≡ in_front l.places.items (passing_from l.condition.columns condition l.place (map (λ row. row.now) (drop l.place l.rows)));
      within : All (λ p. p < length l.rows) l.places.items;
    }

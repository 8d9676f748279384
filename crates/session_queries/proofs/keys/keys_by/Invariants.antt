use Rattle.std.proofs.Common.{◌≡◌, drop, length, map}
use Rattle.std.specs.Prelude.{All}
use Rattle.sql_trees.specs.Statements.{item_of, order_of}
use Rattle.session_queries.specs.Inner.Fronts.{in_front}
use Rattle.query_results.specs.Ordering.{rows_at}
use Rattle.sql_values.specs.Values.{each}
use Rattle.query_results.specs.Inner.Pieces.{keys_of}
use Rattle.session_queries.proofs.keys.keys_by.Given as goal

abbrev pub invariant-loop-place : goal.invariant-loop-place
invariant-loop-place l =
    let one = keys_of l.columns (map item_of l.items) (map order_of l.order) in
    let rows = map (λ row. row.now) l.rows in
    record {
      so_far : each one (rows_at rows l.places) ≡ in_front l.keys.items (each one (rows_at rows (drop l.place-index l.places)));
      each_long : All (λ row. length row ≡ length l.order) l.keys.items;
      long : length l.keys.items ≡ l.place-index;
    }

use Rattle.std.proofs.Common.{◌≡◌, drop, length, map}
use Rattle.sql_trees.specs.Statements.{item_of, order_of}
use Rattle.session_queries.specs.Inner.Fronts.{in_front}
use Rattle.query_results.specs.Inner.Pieces.{keys_of}
use Rattle.session_queries.specs.Inner.Ordering.{key_answers}
use Rattle.session_queries.proofs.keys.keys_of.Given as goal

abbrev pub invariant-loop-i : goal.invariant-loop-i
invariant-loop-i l =
    let items = map item_of l.items in
    record {
      so_far : keys_of l.columns items (map order_of l.order) l.row ≡ in_front l.keys.items (key_answers l.columns items (map order_of (drop l.i l.order)) l.row);
      long : length l.keys.items ≡ l.i;
    }

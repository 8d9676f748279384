use Rattle.std.proofs.Common.{◌≡◌, ◌+◌, drop, length, map}
use Rattle.sql_trees.specs.Statements.{item_of}
use Rattle.sql_values.specs.Aggregates.{aggregate}
use Rattle.sql_values.specs.Values.{each}
use Rattle.session_queries.specs.Inner.Fronts.{in_front}
use Rattle.session_queries.specs.Inner.Answers.{counted}
use Rattle.session_queries.proofs.answer.agg_values.Given as goal

abbrev pub invariant-loop-item : goal.invariant-loop-item
invariant-loop-item l =
    let taken = map (λ row. row.now) l.taken in
    let rest = counted (map item_of (drop l.item-index l.items)) in
    record {
      so_far : each (λ a. aggregate a.0 l.columns taken) (counted (map item_of l.items)) ≡ in_front l.values.items (each (λ a. aggregate a.0 l.columns taken) rest);
      long : length (counted (map item_of l.items)) ≡ length l.values.items + length rest;
    }

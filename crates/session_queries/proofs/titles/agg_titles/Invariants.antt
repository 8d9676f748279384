use Rattle.std.proofs.Common.{◌≡◌, ◌+◌, ◌++◌, length, map, drop}
use Rattle.sql_trees.specs.Statements.{item_of}
use Rattle.session_queries.specs.Inner.Answers.{counted}
use Rattle.session_queries.proofs.titles.agg_titles.Given as goal

abbrev pub invariant-loop-item : goal.invariant-loop-item
invariant-loop-item l =
    let rest = counted (map item_of (drop l.item-index l.items)) in
    record {
      so_far : map (λ a. a.1) (counted (map item_of l.items)) ≡ l.titles.items ++ map (λ a. a.1) rest;
      long : length (counted (map item_of l.items)) ≡ length l.titles.items + length rest;
    }

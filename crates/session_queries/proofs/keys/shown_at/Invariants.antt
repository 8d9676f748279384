use Rattle.std.proofs.Common.{◌≡◌, drop, map, Ok}
use Rattle.std.specs.Prelude.{slice_index_or}
use Rattle.sql_trees.specs.Statements.{item_of}
use Rattle.sql_values.specs.declared.value.Value.TheVariants.{Null}
use Rattle.query_results.specs.Inner.Pieces.{shown}
use Rattle.session_queries.specs.Inner.Answers.{shown_at}
use Rattle.session_queries.proofs.keys.shown_at.Given as goal

abbrev pub invariant-loop-item : goal.invariant-loop-item
invariant-loop-item l = record {
  same : l.values ≡ l.row;
  goes_on : slice_index_or (shown l.columns (map item_of l.items) l.row) l.fn.place (Ok Null) ≡ shown_at l.columns (map item_of (drop l.item-index l.items)) l.row l.place;
}

use Rattle.std.proofs.Common.{◌<◌, Some, length, map, subst, sym}
use Rattle.std.specs.Prelude.{All}
use Rattle.std.proofs.lemmas.List.Elements.{All-nil}
use Rattle.sql_trees.specs.Trees.{tree_of}
use Rattle.session_queries.proofs.Taking.{passing_rows}
use Rattle.session_queries.proofs.passing.places_passing.Goals as goal

pub loop-place-init : goal.loop-place-init
loop-place-init c = record {
  so_far = passing_rows c.args.condition.now.columns (Some (tree_of c.args.condition.now.expr)) (map (λ row. row.now) c.args.rows.now) c.new-places.result.items c.new-places.ensures.items;
  within = subst (All (λ p. p < length c.args.rows.now)) (sym c.new-places.ensures.items) (All-nil (λ p. p < length c.args.rows.now));
}

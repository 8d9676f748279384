use Rattle.std.proofs.Common.{◌≡◌, length, map}
use Rattle.std.proofs.lemmas.List.Elements.{All-map}
use Rattle.sql_trees.specs.Statements.{item_of}
use Rattle.session_queries.proofs.Even.{result_even}
use Rattle.session_queries.proofs.answer.row_results.Goals as goal

pub new-requires : goal.new-requires
new-requires c =
    result_even c.args.columns.now c.known-cols.result (map item_of c.args.items.now) (map (λ row. row.now) c.args.taken.now) c.in_ok-rows.rows.items c.in_ok-titles.titles.items
    c.known-cols.ensures.names (All-map (λ row. length row ≡ length c.args.columns.now) (λ row. row.now) c.args.taken.now c.requires) c.in_ok-rows.ensures c.in_ok-titles.ensures

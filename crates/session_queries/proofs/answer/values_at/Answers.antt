use Rattle.std.proofs.Common.{map}
use Rattle.sql_trees.specs.Statements.{item_of}
use Rattle.session_queries.proofs.Shown.{from_items}
use Rattle.session_queries.proofs.answer.values_at.Goals as goal

pub loop-item-init : goal.loop-item-init
loop-item-init c = from_items c.args.columns.now (map item_of c.args.items.now) c.args.row.now c.new-values.result.items c.new-values.ensures.items

use Rattle.std.proofs.Common.{map}
use Rattle.sql_trees.specs.Statements.{item_of}
use Rattle.session_queries.proofs.Even.{values_long}
use Rattle.session_queries.proofs.answer.row_values.Goals as goal

pub returns-clause-long : goal.returns-clause-long
returns-clause-long c =
    values_long c.args.columns.now c.known-columns.result (map item_of c.args.items.now) c.args.row.now c.values_at.result c.known-columns.ensures.names c.requires c.values_at.ensures

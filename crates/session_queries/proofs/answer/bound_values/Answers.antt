use Rattle.std.proofs.Common.{arith}
use Rattle.std.specs.Prelude.{option_map}
use Rattle.sql_trees.specs.Statements.{item_of}
use Rattle.sql_values.specs.Bound.{bound_tree}
use Rattle.session_queries.specs.Inner.Answers.{item_bound}
use Rattle.session_queries.proofs.Bindings.{one_at}
use Rattle.session_queries.proofs.answer.bound_values.Goals as goal

pub append_bound-requires-clause-bound : goal.append_bound-requires-clause-bound
append_bound-requires-clause-bound c =
    one_at (option_map bound_tree) item_of (item_bound c.args.columns.now) c.args.bound.now c.args.items.now c.loop-i.i c.index-bound-i.result c.index-items-i.result c.requires.bound (omega arith)
    c.index-bound-i.is c.index-items-i.is

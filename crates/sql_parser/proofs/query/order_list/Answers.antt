use Rattle.std.proofs.Common.{map}
use Rattle.sql_parser.proofs.Lists.{items_give}
use Rattle.sql_trees.specs.Statements.{order_of}
use Rattle.sql_parser.specs.Inner.Queries.{order_add}
use Rattle.sql_parser.proofs.query.order_list.Goals as goal

pub returns-clause-exact : goal.returns-clause-exact
returns-clause-exact c =
    let g = items_give (λ s. map order_of s.keys.items) (order_add c.args.parser.text_len) _ _ _ c.items.ensures.exact in
    rw c.new.ensures.items at g

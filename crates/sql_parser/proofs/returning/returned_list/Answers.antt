use Rattle.std.proofs.Common.{map}
use Rattle.sql_expressions.specs.Readers.{added}
use Rattle.sql_parser.proofs.Lists.{items_give}
use Rattle.sql_trees.specs.Statements.{item_of}
use Rattle.sql_parser.specs.Changes.{returned_at}
use Rattle.sql_parser.proofs.returning.returned_list.Goals as goal

pub returns-clause-exact : goal.returns-clause-exact
returns-clause-exact c =
    let g = items_give (λ s. map item_of s.items.items) (added (returned_at c.args.parser.text_len)) _ _ _ c.items.ensures.exact in
    rw c.new.ensures.items at g

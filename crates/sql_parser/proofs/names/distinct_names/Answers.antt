use Rattle.std.proofs.Common.{map}
use Rattle.sql_parser.proofs.Lists.{items_give}
use Rattle.sql_trees.specs.Statements.{name_of}
use Rattle.sql_parser.specs.Inner.Changes.{distinct_add}
use Rattle.sql_parser.proofs.names.distinct_names.Goals as goal

pub returns-clause-exact : goal.returns-clause-exact
returns-clause-exact c =
    let g = items_give (λ s. map name_of s.names.items) (distinct_add c.args.parser.text_len) _ _ _ c.items.ensures.exact in
    rw c.new.ensures.items at g

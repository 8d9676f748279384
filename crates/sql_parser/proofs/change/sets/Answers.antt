use Rattle.std.proofs.Common.{map}
use Rattle.sql_parser.proofs.Lists.{items_give}
use Rattle.sql_trees.specs.Statements.{set_of}
use Rattle.sql_parser.specs.Inner.Changes.{set_add}
use Rattle.sql_parser.proofs.change.sets.Goals as goal

pub returns-clause-exact : goal.returns-clause-exact
returns-clause-exact c =
    let g = items_give (λ s. map set_of s.sets.items) (set_add c.args.parser.text_len) _ _ _ c.items.ensures.exact in
    rw c.new.ensures.items at g

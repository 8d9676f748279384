use Rattle.std.proofs.Common.{map}
use Rattle.sql_expressions.specs.Readers.{name_at, added}
use Rattle.sql_parser.proofs.Lists.{items_give}
use Rattle.sql_trees.specs.Statements.{name_of}
use Rattle.sql_parser.proofs.names.names.Goals as goal

pub returns-clause-exact : goal.returns-clause-exact
returns-clause-exact c =
    let g = items_give (λ s. map name_of s.names.items) (added (name_at c.args.parser.text_len)) _ _ _ c.items.ensures.exact in
    rw c.new.ensures.items at g

use Rattle.sql_expressions.specs.Readers.{added}
use Rattle.sql_parser.specs.Readers.{tree_at}
use Rattle.sql_parser.proofs.Lists.{items_give}
use Rattle.sql_trees.specs.Statements.{exprs_of}
use Rattle.sql_parser.proofs.names.values.Goals as goal

pub returns-clause-exact : goal.returns-clause-exact
returns-clause-exact c =
    let g = items_give (λ s. exprs_of s.values) (added (tree_at c.args.parser.text_len)) _ _ _ c.items.ensures.exact in
    rw c.new.ensures.items at g

use Rattle.sql_parser.proofs.Lists.{items_give}
use Rattle.sql_parser.specs.Code.Views.{rows_view}
use Rattle.sql_parser.specs.Inner.Changes.{row_add}
use Rattle.sql_parser.proofs.names.rows.Goals as goal

pub returns-clause-exact : goal.returns-clause-exact
returns-clause-exact c =
    let g = items_give (λ s. rows_view s) (row_add c.args.parser.text_len) _ _ _ c.items.ensures.exact in
    rw c.new.ensures.items at g

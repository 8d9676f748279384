use Rattle.sql_parser.proofs.Lists.{items_give}
use Rattle.sql_parser.specs.Code.Views.{table_text_of}
use Rattle.sql_parser.specs.Inner.Tables.{table_add}
use Rattle.sql_parser.proofs.table.table_items.Goals as goal

pub returns-clause-exact : goal.returns-clause-exact
returns-clause-exact c =
    let g = items_give (λ s. table_text_of s) (table_add c.args.parser.text_len) _ _ _ c.items.ensures.exact in
    rw (c.new.ensures.items, c.new-2.ensures.items) at g

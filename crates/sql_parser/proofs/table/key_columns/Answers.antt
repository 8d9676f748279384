use Rattle.std.proofs.Common.{map}
use Rattle.sql_parser.proofs.Lists.{items_give}
use Rattle.sql_parser.specs.Code.Views.{placed_of}
use Rattle.sql_parser.specs.Inner.Tables.{key_add}
use Rattle.sql_parser.proofs.table.key_columns.Goals as goal

pub returns-clause-exact : goal.returns-clause-exact
returns-clause-exact c =
    let g = items_give (λ s. map placed_of s.columns.items) (key_add c.args.parser.text_len) _ _ _ c.items.ensures.exact in
    rw c.new.ensures.items at g

use Rattle.sql_parser.proofs.Blocks.{whole_gives}
use Rattle.sql_parser.proofs.block.whole_stmt.Goals as goal

pub returns : goal.returns
returns c = whole_gives _ _ _ _ _ _ _ _ c.in_ok-answer.ensures c.all_read.ensures c.and.ensures

use Rattle.sql_parser.proofs.BlocksRead.{blocks_are_read}
use Rattle.sql_parser.proofs.laws.blocks_are_read.Goals as goal

pub returns : goal.returns
returns c = blocks_are_read

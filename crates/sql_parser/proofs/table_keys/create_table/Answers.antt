use Rattle.std.proofs.Common.{arith}
use Rattle.sql_parser.proofs.Counts.{table_fits}
use Rattle.sql_parser.proofs.table_keys.create_table.Goals as goal

pub finished-requires : goal.finished-requires
finished-requires c = omega (arith, table_fits _ _ _ _ _ c.in_ok-table.ensures.exact, c.in_ok-open.ensures.shorter, c.in_ok-name.ensures.shorter, c.in_ok-tokens.ensures.shorter)

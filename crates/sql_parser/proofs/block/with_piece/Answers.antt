use Rattle.std.proofs.Common.{arith}
use Rattle.std.proofs.lemmas.Result.{err_from_is_err_and}
use Rattle.sql_parser.proofs.Blocks.{piece_stopped}
use Rattle.sql_parser.proofs.Lists.{fails_on}
use Rattle.sql_parser.proofs.block.with_piece.Goals as goal

pub returns-in_err-whole_stmt-clause-exact : goal.returns-in_err-whole_stmt-clause-exact
returns-in_err-whole_stmt-clause-exact c =
    let p = err_from_is_err_and c.from_residual.result c.from_residual.ensures.1 in
    rw (p.1, p.2) (fails_on _ _ _ c.in_err-whole_stmt.ensures (piece_stopped _ _ _ _ _ (omega arith) (omega (arith, c.len.ensures, c.if-len-ge-MAX_STMTS.false))))

use Rattle.std.proofs.Common.{ap, refl, arith, length}
use Rattle.std.proofs.lemmas.Result.{err_from_is_err_and}
use Rattle.sql_parser.proofs.Lists.{fails_on, gives_same}
use Rattle.sql_parser.proofs.Blocks.{last_piece, piece_on, piece_stops}
use Rattle.sql_parser.proofs.block.read_stmts.Goals as goal

pub loop-piece-init : goal.loop-piece-init
loop-piece-init c = record {
  same = rw (c.nothing_read-stmts.ensures.none, c.nothing_read-stmts.ensures.all) refl;
  shorter = omega (arith, ap length c.nothing_read-stmts.ensures.all);
  few = omega (arith, c.nothing_read-stmts.ensures.len);
}

pub loop-piece-preserved : goal.loop-piece-preserved
loop-piece-preserved c = record {
  same = piece_on _ _ _ _ _ c.loop-piece.invariant.same _ _ _ _ c.in-Some.ensures.splits c.in_ok-stmts.ensures.exact;
  shorter = omega (arith, c.in-Some.ensures.shorter.1, c.loop-piece.invariant.shorter);
  few = c.in_ok-stmts.ensures.few c.loop-piece.invariant.few;
}

pub returns-clause-exact : goal.returns-clause-exact
returns-clause-exact c = gives_same _ _ _ _ (last_piece _ _ _ _ _ c.loop-piece.invariant.same c.in_default.ensures.splits) c.with_piece-2.ensures.exact

pub returns-in_err-stmts-clause-exact : goal.returns-in_err-stmts-clause-exact
returns-in_err-stmts-clause-exact c =
    let p = err_from_is_err_and c.from_residual.result c.from_residual.ensures.1 in
    rw (p.1, p.2) (fails_on _ _ _ c.in_err-stmts.ensures.exact (piece_stops _ _ _ _ _ c.loop-piece.invariant.same _ _ _ _ c.in-Some.ensures.splits))

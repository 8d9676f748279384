use Rattle.std.proofs.Common.{sym, arith}
use Rattle.std.proofs.lemmas.Result.{err_from_is_err_and}
use Rattle.sql_parser.proofs.Lists.{first_item, no_first, next_item, no_next, views_shorter, comma_shorter}
use Rattle.sql_parser.proofs.list.items.Goals as goal

pub returns-in_err-rest-clause-exact : goal.returns-in_err-rest-clause-exact
returns-in_err-rest-clause-exact g c =
    let p = err_from_is_err_and c.from_residual.result c.from_residual.ensures.1 in
    rw (p.1, p.2) (no_first _ _ _ _ c.in_err-rest.ensures.exact)

pub loop-after-init : goal.loop-after-init
loop-after-init g c = record {
  onward = first_item _ _ _ _ _ c.in_ok-rest.ensures.exact (views_shorter _ _ c.in_ok-rest.ensures.shorter);
  shorter = c.in_ok-rest.ensures.shorter;
}

pub returns-in_err-rest-2-clause-exact : goal.returns-in_err-rest-2-clause-exact
returns-in_err-rest-2-clause-exact g c =
    let p = err_from_is_err_and c.from_residual-in_err-rest-2.result c.from_residual-in_err-rest-2.ensures.1 in
    rw (p.1, p.2) (no_next _ _ _ _ _ _ _ c.loop-after.invariant.onward (sym c.in-Some.ensures) c.in_err-rest-2.ensures.exact)

pub loop-after-preserved : goal.loop-after-preserved
loop-after-preserved g c = record {
  onward = next_item _ _ _ _ _ _ _ _ c.loop-after.invariant.onward (sym c.in-Some.ensures) c.in_ok-rest-2.ensures.exact (views_shorter _ _ c.in_ok-rest-2.ensures.shorter);
  shorter = omega (arith, c.in_ok-rest-2.ensures.shorter, comma_shorter c.loop-after.rest.now _ (sym c.in-Some.ensures), c.loop-after.invariant.shorter);
}

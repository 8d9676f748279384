use Rattle.std.proofs.Common.{arith, rules, map}
use Rattle.std.proofs.lemmas.Result.{err_from_is_err_and}
use Rattle.sql_trees.specs.Tokens.{tok_views}
use Rattle.sql_parser.specs.Code.Views.{key_text_of}
use Rattle.sql_parser.proofs.Lists.{fails_on, views_fewer}
use Rattle.sql_parser.proofs.Going.{going_from, going_ends, going_stops, going_on, limits_done, limits_stop}
use Rattle.sql_parser.proofs.table.read_limits.Goals as goal

pub loop-parser-init : goal.loop-parser-init
loop-parser-init c = record { going = going_from _ _ _ _; shorter = c.in_ok-kind.ensures.shorter }

pub loop-parser-preserved : goal.loop-parser-preserved
loop-parser-preserved c = record {
  going = going_on _ _ _ _ _ (record { not_null = c.in_ok-not_null.field-0-0; keys = map key_text_of c.read_limit.new.keys.items }, tok_views c.in_ok-not_null.field-0-1.now) c.loop-parser.invariant.going (search rules) c.in_ok-not_null.ensures.exact (views_fewer _ _ c.in_ok-not_null.ensures.shorter);
  shorter = omega (arith, c.in_ok-not_null.ensures.shorter, c.loop-parser.invariant.shorter);
}

pub returns-clause-exact : goal.returns-clause-exact
returns-clause-exact c = limits_done _ _ _ _ _ c.in_ok-kind.ensures.exact _ (going_ends _ _ _ _ _ c.loop-parser.invariant.going (search rules))

pub returns-in_err-not_null-clause-exact : goal.returns-in_err-not_null-clause-exact
returns-in_err-not_null-clause-exact c =
    let p = err_from_is_err_and c.from_residual-in_err-not_null.result c.from_residual-in_err-not_null.ensures.1 in
    rw (p.1, p.2) (fails_on _ _ _ c.in_err-not_null.ensures.exact (λ h. limits_stop _ _ _ _ _ c.in_ok-kind.ensures.exact _ (going_stops _ _ _ _ _ _ c.loop-parser.invariant.going (search rules) h)))

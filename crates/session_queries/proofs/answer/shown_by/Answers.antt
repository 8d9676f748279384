use Rattle.std.proofs.Common.{rules, ◌≡◌, Err, map, arith}
use Rattle.sql_trees.specs.Statements.{item_of}
use Rattle.query_results.specs.Queries.{row_values}
use Rattle.session_queries.proofs.Fronts.{fault_told, one_fault, one_more}
use Rattle.session_queries.proofs.answer.shown_by.Goals as goal

pub loop-row-preserved : goal.loop-row-preserved
loop-row-preserved c =
    one_more (λ row. row.now) (row_values c.args.columns.now (map item_of c.args.items.now)) c.args.rows.now c.loop-row.row-index c.row-item.result c.in_ok-bound_values.field-0
    c.loop-row.shown.items c.push.new.self.items (omega arith) c.row-item.is c.in_ok-bound_values.ensures c.in_ok-push.ensures.items c.loop-row.invariant

pub returns-in_err-bound_values : goal.returns-in_err-bound_values
returns-in_err-bound_values c =
    let is : c.from_residual-in_err-bound_values.result ≡ Err c.in_err-bound_values.field-0.0 = search rules in
    fault_told c.from_residual-in_err-bound_values.result c.in_err-bound_values.field-0.0 _ is (λ known.
    one_fault (λ row. row.now) (row_values c.args.columns.now (map item_of c.args.items.now)) c.args.rows.now c.loop-row.row-index c.row-item.result c.in_err-bound_values.field-0.0
    c.loop-row.shown.items (omega arith) c.row-item.is (c.in_err-bound_values.ensures known) c.loop-row.invariant)

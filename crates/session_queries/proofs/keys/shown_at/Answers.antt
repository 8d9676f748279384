use Rattle.std.proofs.Common.{◌≡◌, length, map, arith, ap}
use Rattle.std.proofs.lemmas.Grind.{common_steps}
use Rattle.sql_trees.specs.Statements.{item_of}
use Rattle.session_queries.proofs.Picking.{key_read}
use Rattle.session_queries.proofs.Shown.{by_place}
use Rattle.session_queries.proofs.keys.shown_at.Goals as goal

pub loop-item-init : goal.loop-item-init
loop-item-init c = record {
  same = c.values-values.ensures;
  goes_on = by_place c.args.columns.now (map item_of c.args.items.now) c.args.row.now c.args.place;
}

pub returns-in-All : goal.returns-in-All
returns-in-All c =
    let same : c.values-values.result.now ≡ c.args.row.now = c.values-values.ensures in
    let long = ap length same in
    let here = key_read c.loop-item.place c.args.row.now c.index-values-place.result (omega arith) (rw same at c.index-values-place.is) in
    let given = c.in_ok-copied-in-All.ensures in
    let more = c.loop-item.invariant.goes_on in
    grind (arith, common_steps)

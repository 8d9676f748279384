use Rattle.std.proofs.Common.{◌≡◌, map, length, ap, ◌∙◌}
use Rattle.sql_trees.specs.Statements.{column_of, select_of}
use Rattle.query_results.specs.Ordering.{rows_at}
use Rattle.session_queries.proofs.Picking.{taken_long}
use Rattle.session_queries.proofs.Selecting.{selected_from}
use Rattle.session_queries.proofs.answer.selected.Goals as goal

pub answered-requires : goal.answered-requires
answered-requires c =
    let lent : c.deref-3.result.now ≡ c.in_ok-taken.taken.items = c.deref-3.ensures.value in
    let places = c.in_ok-places.places.items in
    let shown = c.in_ok-taken.ensures ∙ ap (rows_at (map (λ row. row.now) c.args.rows.now)) c.deref.ensures.value in
    rw lent (taken_long (λ row. row.now) (length c.args.columns.now) c.args.rows.now c.in_ok-taken.taken.items places shown c.in_ok-places.ensures.within c.requires)

pub returns : goal.returns
returns c =
    let rows = map (λ row. row.now) c.args.rows.now in
    let places = c.in_ok-places.places.items in
    let shown = ap (map (λ row. row.now)) c.deref-3.ensures.value ∙ c.in_ok-taken.ensures ∙ ap (rows_at rows) c.deref.ensures.value in
    selected_from (select_of c.args.select.now) (map column_of c.args.columns.now) rows (map (λ row. row.now) c.deref-3.result.now) places c.answered.result
    c.in_ok-places.ensures.places shown (rw c.deref-2.ensures.value at c.answered.ensures)

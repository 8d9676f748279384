use Rattle.std.proofs.Common.{rules, ◌≡◌, length, map, Ok, subst}
use Rattle.sql_trees.specs.Statements.{OrderTree, item_of, order_of}
use Rattle.sql_values.specs.Values.{each}
use Rattle.query_results.specs.Ordering.{rows_at}
use Rattle.query_results.specs.Queries.{by_keys}
use Rattle.query_results.specs.Inner.Pieces.{keys_of}
use Rattle.session_queries.specs.Code.Fronts.{AnswersList}
use Rattle.session_queries.proofs.Picking.{sorted_within}
use Rattle.session_queries.proofs.Taking.{ordered_answer}
use Rattle.session_queries.proofs.ordering.ordered.Goals as goal

pub returns-clause-places : goal.returns-clause-places
returns-clause-places c =
    let is = map item_of c.args.select.now.items.items in
    let order = map order_of c.args.select.now.order.items in
    let rows = map (λ row. row.now) c.args.rows.now in
    let by = c.deref-5.result.now in
    let keys = c.deref-7.result.now in
    let evaluated : each (keys_of c.args.columns.now is order) (rows_at rows c.args.places.items) ≡ Ok keys = search rules in
    let same : by ≡ map (λ (k : OrderTree). k.dir) order = search rules in
    ordered_answer c.args.columns.now is order rows c.args.places.items keys by c.by_keys.result evaluated same
    (subst (λ places. AnswersList c.by_keys.result (by_keys by places keys)) c.deref-6.ensures.value c.by_keys.ensures.places)

pub returns-clause-within : goal.returns-clause-within
returns-clause-within c =
    let keys = c.deref-7.result.now in
    let places = c.deref-6.result.now in
    let same : places ≡ c.args.places.items = c.deref-6.ensures.value in
    let as_many : length keys ≡ length places = cc (c.deref-7.ensures.value, c.deref-4.ensures.value, c.in_ok-keys.ensures.long) in
    sorted_within (length c.args.rows.now) c.deref-5.result.now places keys c.by_keys.result as_many (rw same c.requires.within) c.by_keys.ensures.places

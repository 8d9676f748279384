use Rattle.std.proofs.Common.{◌≡◌, length}
use Rattle.query_results.proofs.Insertion.{order_within}
use Rattle.session_queries.proofs.Picking.{picked_in_order}
use Rattle.session_queries.proofs.ordering.by_keys.Goals as goal

pub picked-requires : goal.picked-requires
picked-requires c =
    rw c.deref.ensures.value (order_within c.args.by.now c.args.keys.now c.in_ok-sorted.sorted.items (length c.args.places.now) c.in_ok-sorted.ensures.sorted c.requires.long)

pub returns-clause-places : goal.returns-clause-places
returns-clause-places c =
    let sorted = c.in_ok-sorted.sorted.items in
    let same : c.deref.result.now ≡ sorted = c.deref.ensures.value in
    let order = c.one_order_by_insertion.ensures c.args.by.now c.args.keys.now sorted c.in_ok-sorted.ensures.sorted in
    picked_in_order c.args.by.now c.args.places.now c.args.keys.now sorted c.in_ok-picked.field-0.items
    (λ no. let wrong = c.in_ok-sorted.ensures.mismatch.1 no in absurd cc) order (rw same at c.in_ok-picked.ensures)

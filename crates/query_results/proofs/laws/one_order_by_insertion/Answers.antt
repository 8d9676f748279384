use Rattle.query_results.specs.Ordering.{sorted_places}
use Rattle.query_results.proofs.laws.one_order_by_insertion.Goals as goal

pub returns : goal.returns
returns c = λ by keys places sorted. c.one_sorted_order.ensures by keys (sorted_places by keys) places (c.sorted_by_insertion.ensures by keys) sorted

use Rattle.std.proofs.Common.{◌∙◌, ap}
use Rattle.std.specs.VecDeque.Iter.{deque_iter_rest}
use Rattle.ordered_slots.specs.Kept.{filled, values}
use Rattle.ordered_slots.proofs.Filled.{same_values}
use Rattle.ordered_slots.proofs.slots.OrderedSlots.values.Goals as goal

pub returns : goal.returns
returns g c = same_values (deque_iter_rest c.iter.result) 0 c.args.self.now.first ∙ ap (λ slots. values (filled c.args.self.now.first slots)) c.iter.ensures.rest

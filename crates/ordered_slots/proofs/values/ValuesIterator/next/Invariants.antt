use Rattle.std.proofs.Common.{◌≡◌, length}
use Rattle.std.specs.VecDeque.Iter.{deque_iter_rest}
use Rattle.ordered_slots.specs.Kept.{filled, values}
use Rattle.ordered_slots.proofs.values.ValuesIterator.next.Given as goal

-- no value has been passed over
abbrev pub invariant-loop-slot : goal.invariant-loop-slot
invariant-loop-slot g l = values (filled 0 (deque_iter_rest l.self-inside.slots)) ≡ l.fn.self

abbrev pub decreases-loop-slot : goal.decreases-loop-slot
decreases-loop-slot g l = length (deque_iter_rest l.self-inside.slots)

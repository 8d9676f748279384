use Rattle.std.proofs.Common.{sym, ◌∙◌, ap, ◌∷◌, length, arith}
use Rattle.std.specs.VecDeque.Iter.{deque_iter_rest}
use Rattle.ordered_slots.specs.Kept.{filled, values}
use Rattle.ordered_slots.proofs.Filled.{same_values}
use Rattle.ordered_slots.proofs.values.ValuesIterator.next.Goals as goal

pub returns-in-Some-slot-clause-steps : goal.returns-in-Some-slot-clause-steps
returns-in-Some-slot-clause-steps g c =
    sym c.loop-slot.invariant
    ∙ ap (λ rest. values (filled 0 rest)) (c.in-Some.ensures.steps ∙ ap (λ slot. slot ∷ deque_iter_rest c.next.new.self) c.in-Some-slot.is)
    ∙ ap (λ others. c.in-Some-slot.value ∷ others) (same_values (deque_iter_rest c.next.new.self) 1 0)

pub returns-in-Some-slot-clause-goes : goal.returns-in-Some-slot-clause-goes
returns-in-Some-slot-clause-goes g c = record { on = λ _. (tt, tt, omega (arith, ap length (returns-in-Some-slot-clause-steps g c))); keeps = tt; rests = λ _. tt }

pub loop-slot-preserved : goal.loop-slot-preserved
loop-slot-preserved g c =
    same_values (deque_iter_rest c.next.new.self) 0 1
    ∙ sym (ap (λ rest. values (filled 0 rest)) (c.in-Some.ensures.steps ∙ ap (λ slot. slot ∷ deque_iter_rest c.next.new.self) c.in_default-slot.is))
    ∙ c.loop-slot.invariant

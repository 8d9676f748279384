use Rattle.std.proofs.Common.{◌≡◌, length}
use Rattle.ordered_slots.specs.Kept.{kept}
use Rattle.ordered_slots.proofs.slots.OrderedSlots.trim.Given as goal

-- no value is let go of
abbrev pub invariant-loop-self : goal.invariant-loop-self
invariant-loop-self g l = kept l.self ≡ kept l.fn.self

abbrev pub decreases-loop-self : goal.decreases-loop-self
decreases-loop-self g l = length l.self.slots.items

abbrev pub invariant-loop-second : goal.invariant-loop-second
invariant-loop-second g l = kept l.self ≡ kept l.fn.self

abbrev pub decreases-loop-second : goal.decreases-loop-second
decreases-loop-second g l = length l.self.slots.items

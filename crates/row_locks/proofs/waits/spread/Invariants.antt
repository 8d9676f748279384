use Rattle.std.proofs.Common.{◌≡◌, take}
use Rattle.ordered_slots.specs.Kept.{kept}
use Rattle.row_locks.specs.Inner.Searching.{spread}
use Rattle.row_locks.proofs.waits.spread.Given as goal

-- the blockers of the waits in the slots so far are reached
abbrev pub invariant-loop-slot : goal.invariant-loop-slot
invariant-loop-slot l = l.reached.items ≡ spread (kept l.waits) (take l.slot-index l.slots) l.initial.reached.items

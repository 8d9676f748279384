use Rattle.std.proofs.Common.{◌≡◌, ◌↔◌, drop}
use Rattle.session_seats.specs.Seats.{items_of}
use Rattle.session_seats.proofs.fitting.same_items.Given as goal

abbrev pub invariant-loop-item : goal.invariant-loop-item
invariant-loop-item l = (l.items ≡ items_of l.session l.history) ↔ (l.rest ≡ items_of l.session (drop l.item-index l.history))

-- To be believed. The places of orders in a history.
use Rattle.std.specs.Prelude.{ℕ, zero, suc, ◌+◌, ◌==◌, Bool, ◌&&◌, List, [], ◌∷◌, Option, Some, None, is_some, if◌then◌else◌}
use Rattle.session_machine.specs.declared.event.Event.{Event}
use Rattle.session_machine.specs.declared.event.Event.TheVariants.{Launch, Step, Leave}
use Rattle.session_machine.specs.declared.event.Order.{Order}
use Rattle.session_machine.specs.declared.event.Order.TheVariants.{Launch as LaunchOrder, Leave as LeaveOrder}
use Rattle.session_machine.specs.declared.reply.HistItem.{HistItem}
use Rattle.session_machine.specs.Machine.{session_of}

-- the order that an event carries out; a Step is none
abbrev pub order_of : Event → Option Order
order_of event = elim event [ Launch session block ↦ Some (LaunchOrder session block) | Step session ↦ None | Leave session ↦ Some (LeaveOrder session) ]

abbrev pub is_order : Event → Bool
is_order event = is_some (order_of event)

-- how many items come before the order of this number, from 0; all where there are fewer orders
abbrev pub segment_start : List HistItem → ℕ → ℕ
segment_start [] k = 0
segment_start (item ∷ items) zero = if is_some (order_of item.event) then 0 else (segment_start items zero + 1)
segment_start (item ∷ items) (suc k) = if is_some (order_of item.event) then (segment_start items k + 1) else (segment_start items (suc k) + 1)

abbrev pub ends_in : ℕ → HistItem → Bool
ends_in session item = (session_of item.event == session) && item.reply.ended

-- That what the sessions are given is what a driver orders.
use Rattle.std.specs.Prelude.{◌≡◌, List, [], ◌∷◌, ◌++◌}
use Rattle.session_machine.specs.declared.event.Event.{Event}
use Rattle.session_machine.specs.declared.event.Event.TheVariants.{Launch, Step, Leave}
use Rattle.session_machine.specs.declared.event.Order.{Order}
use Rattle.session_machine.specs.declared.event.Order.TheVariants.{Launch as LaunchOrder, Leave as LeaveOrder, Stop}
use Rattle.session_machine.specs.declared.reply.HistItem.{HistItem}

-- the order after a history
abbrev pub Orders : Type 0
Orders = List HistItem → Order

-- a Launch or a Leave is the order; a Step needs none
abbrev pub IsOrder : Event → Order → Type 0
IsOrder (Launch session block) order = order ≡ LaunchOrder session block
IsOrder (Step session) order = Unit {0}
IsOrder (Leave session) order = order ≡ LeaveOrder session

-- each Launch and Leave of the items is the order after what came before it
abbrev pub OrderedAfter : Orders → List HistItem → List HistItem → Type 0
OrderedAfter orders before [] = Unit {0}
OrderedAfter orders before (item ∷ items) = IsOrder item.event (orders before) × OrderedAfter orders (before ++ item ∷ []) items

-- the items are given by these orders up to a Stop: each Launch and Leave is the order after what came before it, and the order after all of them is a Stop
pub record IsDriven (orders : Orders) (items : List HistItem) : Type 0 where
  pub ordered : OrderedAfter orders [] items
  pub stops : orders items ≡ Stop

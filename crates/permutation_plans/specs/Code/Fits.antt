-- Whether a history launches what its permutation launches, as the code goes through it.
use Rattle.std.specs.Prelude.{◌≡◌, List, [], ◌∷◌, ◌++◌}
use Rattle.session_machine.specs.declared.event.Event.{Event}
use Rattle.session_machine.specs.declared.event.Event.TheVariants.{Launch, Step, Leave}
use Rattle.session_machine.specs.declared.event.Order.{Order}
use Rattle.session_machine.specs.declared.event.Order.TheVariants.{Launch as LaunchOrder, Leave as LeaveOrder, Stop}
use Rattle.session_machine.specs.declared.reply.HistItem.{HistItem}
use Rattle.spec_parser.specs.Trees.{EntryTree, SpecTree}
use Rattle.permutation_plans.specs.Launches.{due_in}
use Rattle.permutation_plans.specs.Regular.{next_order}

-- a Launch or a Leave is the order; a Step needs none
abbrev pub IsOrdered : Event → Order → Type 0
IsOrdered (Launch session block) order = order ≡ LaunchOrder session block
IsOrdered (Step session) order = Unit {0}
IsOrdered (Leave session) order = order ≡ LeaveOrder session

-- each Launch and Leave of the items is the order that is due after what came before it, and at the end that is a Stop
abbrev pub FitsAfter : (List HistItem → Order) → List HistItem → List HistItem → Type 0
FitsAfter due before [] = due before ≡ Stop
FitsAfter due before (item ∷ items) = IsOrdered item.event (due before) × FitsAfter due (before ++ item ∷ []) items

-- what the code finds to be due is the permutation's next order
abbrev pub DueIsNextOrder : Type 0
DueIsNextOrder = (spec : SpecTree) (entries : List EntryTree) (items : List HistItem) → due_in spec entries items ≡ next_order spec entries items

-- A permutation under way: its history so far, and that the machine does what is ordered next.
use Rattle.std.specs.Prelude.{◌≡◌, List, ◌∷◌, ◌++◌, length, IfSome, IsTrue}
use Rattle.session_machine.specs.declared.event.Event.TheVariants as events
use Rattle.session_machine.specs.declared.event.Order.{Order}
use Rattle.session_machine.specs.declared.event.Order.TheVariants.{Launch, Leave, Stop}
use Rattle.session_machine.specs.declared.event.Mode.TheVariants.{Directed}
use Rattle.session_machine.specs.declared.reply.HistItem.{HistItem}
use Rattle.session_machine.specs.Machine.{Machine, Blocks, opening, is_quiet, Run}
use Rattle.session_machine.specs.Engine.{Goes}
use Rattle.spec_parser.specs.Trees.{EntryTree, SpecTree}
use Rattle.report_lines.specs.Starts.{order_of}
use Rattle.permutation_plans.specs.Regular.{next_order}

-- each Launch and Leave is the next order after what comes before it
abbrev pub AreInOrder : SpecTree → List EntryTree → List HistItem → Type 0
AreInOrder spec entries items = (before behind : List HistItem) (item : HistItem) → items ≡ before ++ item ∷ behind → IfSome (order_of item.event) (λ order. next_order spec entries before ≡ order)

-- these items lead to a quiet state, and launch what the permutation launches, as far as they go
pub record IsUnderWay (spec : SpecTree) (blocks : Blocks) (entries : List EntryTree) (items : List HistItem) (m : Machine) : Type 0 where
  pub run : Run blocks Directed (opening (length spec.sessions)) items m
  pub quiet : IsTrue (is_quiet m)
  pub ordered : AreInOrder spec entries items

-- the machine does what is ordered; by a Stop there is nothing to do
abbrev pub DoesOrder : Blocks → Machine → Order → Type 0
DoesOrder blocks m (Launch session block) = Goes blocks Directed m (events.Launch session block)
DoesOrder blocks m (Leave session) = Goes blocks Directed m (events.Leave session)
DoesOrder blocks m Stop = Unit {0}

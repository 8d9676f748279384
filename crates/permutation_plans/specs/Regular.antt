-- To be believed. The histories that a permutation may have, and that there is at most one.
use Rattle.std.specs.Prelude.{◌≡◌, List, ◌∷◌, ◌++◌, length, unwrap_or, slice_get, IsTrue, IfSome}
use Rattle.session_machine.specs.declared.event.Order.{Order}
use Rattle.session_machine.specs.declared.event.Order.TheVariants.{Stop}
use Rattle.session_machine.specs.declared.event.Mode.TheVariants.{Directed}
use Rattle.session_machine.specs.declared.reply.HistItem.{HistItem}
use Rattle.session_machine.specs.Machine.{Machine, Blocks, opening, is_quiet, Run}
use Rattle.spec_parser.specs.Trees.{EntryTree, SpecTree}
use Rattle.report_lines.specs.Starts.{order_of}
use Rattle.report_lines.specs.Due.{orders}
use Rattle.report_lines.specs.Orders.{orders_of}
use Rattle.report_text.specs.Said.{whole}
use Rattle.report_text.specs.Permutation.{permutation_says}

-- the next order after these items: of the permutation's orders the first that isn't there yet; a Stop behind the last one, and where a setup failed or waits or the permutation is
-- invalid, so that its report has ended
abbrev pub next_order : SpecTree → List EntryTree → List HistItem → Order
next_order spec entries items =
    elim (permutation_says spec entries items).ending [ whole ↦ unwrap_or (slice_get (orders_of spec entries items) (orders items)) Stop | _ ↦ Stop ]

-- the history launches what the permutation launches, all of it and in its order: each Launch and Leave in it is the next order after what comes before it, and behind all of it that is
-- a Stop
pub record LaunchesFit (spec : SpecTree) (entries : List EntryTree) (items : List HistItem) : Type 0 where
  pub ordered : (before behind : List HistItem) (item : HistItem) → items ≡ before ++ item ∷ behind → IfSome (order_of item.event) (λ order. next_order spec entries before ≡ order)
  pub over : next_order spec entries items ≡ Stop

-- a history of the permutation: a run of the machine that leads to a quiet state, and that launches what the permutation launches
pub record IsRegular (spec : SpecTree) (blocks : Blocks) (entries : List EntryTree) (items : List HistItem) : Type 0 where
  pub state : Machine
  pub run : Run blocks Directed (opening (length spec.sessions)) items state
  pub quiet : IsTrue (is_quiet state)
  pub launched : LaunchesFit spec entries items

-- a permutation has at most one regular history, whatever its blocks are
abbrev pub HasOneHistory : SpecTree → List EntryTree → Type 0
HasOneHistory spec entries = (blocks : Blocks) (items others : List HistItem) → IsRegular spec blocks entries items → IsRegular spec blocks entries others → items ≡ others

abbrev pub EachHasOneHistory : Type 0
EachHasOneHistory = (spec : SpecTree) (entries : List EntryTree) → HasOneHistory spec entries

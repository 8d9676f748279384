-- A permutation's plan, and the order that it gives.
use Rattle.std.specs.Prelude.{List}
use Rattle.session_machine.specs.declared.event.Order.{Order}
use Rattle.session_machine.specs.declared.reply.HistItem.{HistItem}
use Rattle.report_lines.specs.declared.progress.PlanProgress.{PlanProgress}
use Rattle.report_lines.specs.Code.Progress.{KeepsFront}
use Rattle.spec_parser.specs.Trees.{EntryTree}
use Rattle.report_lines.specs.Due.{Launches}
use Rattle.permutation_plans.specs.Launches.{run_of, due_after}

-- what is launched, the entries, and what is kept between two orders
pub record Planning : Type 0 where
  pub launches : Launches
  pub entries : List EntryTree
  pub progress : PlanProgress

-- the order that is due after these items
abbrev pub order_after : Planning → List HistItem → Order
order_after plan items = due_after plan.launches plan.entries items

-- what is kept is of a prefix of these items
abbrev pub IsFollowing : Planning → List HistItem → Type 0
IsFollowing plan items = KeepsFront (run_of plan.launches plan.entries items) plan.progress

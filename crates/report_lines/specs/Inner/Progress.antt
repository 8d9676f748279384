-- What the code does with what is kept, item by item.
use Rattle.std.specs.Prelude.{◌≡◌, ◌+◌, ◌-◌, ◌⊎◌, true, Some, slice_get}
use Rattle.report_lines.specs.declared.progress.PlanProgress.{PlanProgress}
use Rattle.session_machine.specs.declared.reply.HistItem.{HistItem}
use Rattle.report_lines.specs.Starts.{is_order}
use Rattle.report_lines.specs.History.{PermutationRun}
use Rattle.report_lines.specs.Due.{orders}
use Rattle.report_lines.specs.Code.Progress.{first_items}
use Rattle.report_lines.specs.Inner.Places.{starts_after, ends_after}

-- the lines of the last segment, if it is an entry's, are missing
abbrev pub Lags : PermutationRun → PlanProgress → Type 0
Lags c p = p.segments_done ≡ orders c.items - (c.setups + 1)

-- the item behind that front, if there is one, is an order, or belongs to a segment whose lines are missing
abbrev pub IsNext : PermutationRun → PlanProgress → Type 0
IsNext c p = (item : HistItem) → slice_get c.items p.seen ≡ Some item → (is_order item.event ≡ true) ⊎ Lags (first_items c p.seen) p

-- the item has come
pub record IsNoted (item : HistItem) (p q : PlanProgress) : Type 0 where
  pub starts_are : q.starts.items ≡ starts_after item p.seen p.starts.items
  pub last_is : q.last.items ≡ ends_after item (p.seen + 1) p.last.items
  pub so_far_is : q.so_far ≡ p.so_far
  pub state_is : q.state ≡ p.state
  pub seen_is : q.seen ≡ p.seen + 1
  pub segments_done_is : q.segments_done ≡ p.segments_done

-- What is driven by a permutation's plan launches what the permutation launches.
use Rattle.std.proofs.Common.{◌≡◌, ◌++◌, ◌∷◌, [], ◌∙◌, List, append-nil, append_assoc, ap, sym, subst}
use Rattle.session_machine.specs.declared.event.Event.{Event}
use Rattle.session_machine.specs.declared.event.Event.TheVariants.{Launch, Step, Leave}
use Rattle.session_machine.specs.declared.event.Order.{Order}
use Rattle.session_machine.specs.declared.event.Order.TheVariants.{Stop}
use Rattle.session_machine.specs.declared.reply.HistItem.{HistItem}
use Rattle.session_seats.specs.Orders.{Orders, IsOrder, OrderedAfter, IsDriven}
use Rattle.spec_parser.specs.Trees.{EntryTree, SpecTree}
use Rattle.report_lines.specs.Due.{Launches}
use Rattle.permutation_plans.specs.Launches.{launches, due_after, due_in}
use Rattle.permutation_plans.specs.Code.Fits.{IsOrdered, FitsAfter}
use Rattle.spec_files.specs.Plans.{Planning, order_after}

is_ordered : (event : Event) (order : Order) → IsOrder event order → IsOrdered event order
is_ordered (Launch session block) order is = is
is_ordered (Step session) order is = tt
is_ordered (Leave session) order is = is

fits_after : (due : Orders) (before items : List HistItem) → OrderedAfter due before items → due (before ++ items) ≡ Stop → FitsAfter due before items
fits_after due before [] ordered stop = ap due (sym (append-nil before)) ∙ stop
fits_after due before (item ∷ items) ordered stop =
    (is_ordered item.event (due before) ordered.0, fits_after due (before ++ item ∷ []) items ordered.1 (ap due (append_assoc before (item ∷ []) items) ∙ stop))

driven_fits : (due : Orders) (items : List HistItem) → IsDriven due items → FitsAfter due [] items
driven_fits due items driven = fits_after due [] items driven.ordered driven.stops

pub plan_fits : (spec : SpecTree) (entries : List EntryTree) (plan : Planning) (items : List HistItem)
    → plan.launches ≡ launches spec entries → plan.entries ≡ entries → IsDriven (order_after plan) items → FitsAfter (due_in spec entries) [] items
plan_fits spec entries plan items its own driven =
    let of = subst (λ (l : Launches). IsDriven (due_after l plan.entries) items) its driven in
    driven_fits (due_after (launches spec entries) entries) items (subst (λ (es : List EntryTree). IsDriven (due_after (launches spec entries) es) items) own of)

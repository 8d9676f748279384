-- With the blocks and the steps that the spec names the machine does what is next behind a history in order.
use Rattle.std.proofs.Common.{◌≡◌, refl, sym, ◌∙◌, ap, subst, ℕ, List, [], ◌∷◌, ◌++◌, length}
use Rattle.std.specs.Prelude.{Option, Some, None, is_none, IfSome}
use Rattle.session_machine.specs.declared.event.Event.{Event}
use Rattle.session_machine.specs.declared.event.Event.TheVariants.{Launch, Step, Leave}
use Rattle.session_machine.specs.declared.event.Order.{Order}
use Rattle.session_machine.specs.declared.event.Order.TheVariants.{Launch as LaunchOrder, Leave as LeaveOrder, Stop}
use Rattle.session_machine.specs.declared.event.Mode.TheVariants.{Directed}
use Rattle.session_machine.specs.declared.reply.HistItem.{HistItem}
use Rattle.session_machine.specs.Machine.{Machine, Blocks, opening, turn_in, Run}
use Rattle.session_machine.specs.Engine.{Goes}
use Rattle.session_seats.specs.Orders.{IsOrder, OrderedAfter}
use Rattle.session_seats.specs.Refusals.{next_event}
use Rattle.wait_laws.proofs.Rest.{rest_is_reached}
use Rattle.spec_parser.specs.Trees.{EntryTree, SpecTree}
use Rattle.report_lines.specs.Starts.{order_of}
use Rattle.permutation_plans.specs.Launches.{due_in}
use Rattle.permutation_plans.specs.Regular.{next_order}
use Rattle.permutation_plans.proofs.Next.{next_is}
use Rattle.spec_files.specs.Complete.{HasItsBlocks, HasItsSteps}
use Rattle.history_laws.specs.UnderWay.{AreInOrder, DoesOrder}
use Rattle.history_laws.proofs.Busy.{busy_sessions_were_launched}
use Rattle.history_laws.proofs.Accepted.{accepts}
use Rattle.history_laws.proofs.Existing.{Fits, in_order}

pub ordered_so : (event : Event) (order : Order) → IsOrder event order → IfSome (order_of event) (λ o. order ≡ o)
ordered_so (Launch session block) order h = h
ordered_so (Step session) order h = tt
ordered_so (Leave session) order h = h

all_fit : (due : List HistItem → Order) (before items : List HistItem) → OrderedAfter due before items → Fits due before items
all_fit due before [] h = tt
all_fit due before (item ∷ items) h = (ordered_so item.event (due before) h.0, all_fit due (before ++ item ∷ []) items h.1)

if_same : (o : Option Order) (x y : Order) → x ≡ y → IfSome o (λ p. y ≡ p) → IfSome o (λ p. x ≡ p)
if_same None x y h k = tt
if_same (Some p) x y h k = h ∙ k

in_their_order : (spec : SpecTree) (entries : List EntryTree) (items : List HistItem) → OrderedAfter (due_in spec entries) [] items → AreInOrder spec entries items
in_their_order spec entries items ordered before behind item parts =
    if_same (order_of item.event) (next_order spec entries before) (due_in spec entries before) (next_is spec entries before)
    (in_order (due_in spec entries) [] items before behind item (all_fit (due_in spec entries) [] items ordered) parts)

module _ (spec : SpecTree) (blocks : Blocks) (entries : List EntryTree) (fit : HasItsBlocks spec blocks) (steps : HasItsSteps spec entries) where
  same_event : (event other : Event) (m : Machine) → ◌≡◌ {A = Option Event} (Some event) (Some other) → Goes blocks Directed m event → Goes blocks Directed m other
  same_event event other m same goes = let is : event ≡ other = cc in subst (Goes blocks Directed m) is goes

  no_event : (event : Event) → ◌≡◌ {A = Option Event} None (Some event) → ⊥
  no_event event h = cc

  -- behind a history in order the machine does what is next
  pub next_is_done : (items : List HistItem) (m : Machine) (event : Event) → Run blocks Directed (opening (length spec.sessions)) items m → OrderedAfter (due_in spec entries) [] items
      → next_event (turn_in m) (due_in spec entries items) ≡ Some event → Goes blocks Directed m event
  next_is_done items m event run order_kept due = by (turn_in m) refl due where
    ordered : turn_in m ≡ None → (o : Order) → due_in spec entries items ≡ o → DoesOrder blocks m o
    ordered quiet o h =
        subst (DoesOrder blocks m) (next_is spec entries items ∙ h)
        (accepts busy_sessions_were_launched spec blocks entries fit steps items m
        (record { run = run; quiet = ap is_none quiet; ordered = in_their_order spec entries items order_kept }))

    does : (o : Order) → DoesOrder blocks m o → next_event None o ≡ Some event → Goes blocks Directed m event
    does (LaunchOrder s b) goes e = same_event (Launch s b) event m e goes
    does (LeaveOrder s) goes e = same_event (Leave s) event m e goes
    does Stop goes e = absurd (no_event event e)

    by : (o : Option ℕ) → turn_in m ≡ o → next_event o (due_in spec entries items) ≡ Some event → Goes blocks Directed m event
    by (Some k) turn e = same_event (Step k) event m e (rest_is_reached.in_turn blocks Directed (length spec.sessions) m (items, run) k turn)
    by None turn e = does (due_in spec entries items) (ordered turn (due_in spec entries items) refl) e

-- The machine does what a permutation orders next.
use Rattle.std.proofs.Common.{◌≡◌, ◌≢◌, refl, ◌∙◌, ap, Bool, true, false, not, ℕ, ◌+◌, List, length, length-set, arith, if◌then◌else◌}
use Rattle.std.specs.Prelude.{Some, is_some, slice_get, Ok, Err}
use Rattle.std.proofs.lemmas.List.{length-replicate}
use Rattle.session_machine.specs.declared.session.Session.{Session}
use Rattle.session_machine.specs.declared.event.Event.{Event}
use Rattle.session_machine.specs.declared.event.Order.{Order}
use Rattle.session_machine.specs.declared.event.Order.TheVariants.{Launch, Leave, Stop}
use Rattle.session_machine.specs.declared.event.Mode.{Mode}
use Rattle.session_machine.specs.declared.event.Mode.TheVariants.{Directed}
use Rattle.session_machine.specs.declared.reply.HistItem.{HistItem}
use Rattle.session_machine.specs.declared.reply.Outcome.TheVariants.{Left}
use Rattle.session_machine.specs.declared.fault.Refusal.TheVariants.{Busy, NotYourTurn, BlockNotAllowed}
use Rattle.session_machine.specs.Machine.{Machine, Blocks, Next, next, opening, at_rest, stmts_of, may_launch, is_quiet, comes_out, session_of, Run}
use Rattle.session_machine.specs.Inner.Steps.{launch_of, leave_of, left_behind, first_place, after_launch}
use Rattle.wait_laws.proofs.Events.{session_there, always}
use Rattle.spec_parser.specs.Trees.{EntryTree, SpecTree}
use Rattle.report_lines.specs.Due.{orders}
use Rattle.report_lines.specs.Orders.{orders_of}
use Rattle.permutation_plans.specs.Regular.{next_order}
use Rattle.permutation_plans.proofs.Replied.{legal_ends}
use Rattle.history_laws.specs.UnderWay.{IsUnderWay, DoesOrder}
use Rattle.spec_files.specs.Complete.{HasItsBlocks, HasItsSteps}
use Rattle.history_laws.specs.Laws.{BusySessionsWereLaunched}
use Rattle.history_laws.proofs.Lists.{each_at, there}
use Rattle.history_laws.proofs.Busy.{turned}
use Rattle.history_laws.proofs.Ready.{next_at, not_given_two}
use Rattle.history_laws.proofs.Placed.{IsPlaced, orders_placed}

-- no event makes sessions come or go
as_many : (given : Blocks) (mode : Mode) (count : ℕ) (m : Machine) (event : Event) (n : Next) → length m.sessions ≡ count → next given mode m event ≡ Ok n → length n.machine.sessions ≡ count
as_many given mode count m event n long h =
    let found = session_there given mode m event n h in
    let t = turned given mode m event found.0 n found.1 h in
    ap length t.is ∙ length-set m.sessions (session_of event) t.u ∙ long

pub all_there : (given : Blocks) (mode : Mode) (count : ℕ) (items : List HistItem) (m : Machine) → Run given mode (opening count) items m → length m.sessions ≡ count + 1
all_there given mode count items m run =
    always (λ x. length x.sessions ≡ count + 1) given mode (λ x event n long h. as_many given mode (count + 1) x event n long h) items (opening count) m (length-replicate (count + 1) at_rest) run

launch_done : (allowed busy quiet : Bool) (n : Next) → allowed ≡ true → busy ≡ false → quiet ≡ true
    → (if not allowed then Err BlockNotAllowed else if busy then Err Busy else if not quiet then Err NotYourTurn else Ok n) ≡ Ok n
launch_done true false true n a b c = refl
launch_done true false false n a b c = cc
launch_done true true quiet n a b c = cc
launch_done false busy quiet n a b c = cc

leave_done : (quiet : Bool) (n : Next) → quiet ≡ true → (if not quiet then Err NotYourTurn else Ok n) ≡ Ok n
leave_done true n c = refl
leave_done false n c = cc

module _ (busy_law : BusySessionsWereLaunched) (spec : SpecTree) (blocks : Blocks) (entries : List EntryTree) (fit : HasItsBlocks spec blocks) (steps : HasItsSteps spec entries) where
  n : ℕ
  n = length spec.sessions

  -- what is ordered is of a session that is there, and a block that it may be given
  placed : (items : List HistItem) (o : Order) → next_order spec entries items ≡ o → o ≢ Stop → IsPlaced blocks (length spec.sessions) o
  placed items o h go =
      each_at (IsPlaced blocks (length spec.sessions)) (orders_of spec entries items) (orders items) o (orders_placed spec blocks fit entries items steps) (next_at spec entries items o h go)

  not_busy : (items : List HistItem) (m : Machine) (s b : ℕ) (v : Session) → IsUnderWay spec blocks entries items m → next_order spec entries items ≡ Launch s b → slice_get m.sessions s ≡ Some v → is_some v.place ≡ false
  not_busy items m s b v way h at = by (is_some v.place) refl where
    by : (busy : Bool) → is_some v.place ≡ busy → busy ≡ false
    by false e = refl
    by true e =
        absurd (not_given_two spec entries items s (record {
          u = busy_law blocks Directed (length spec.sessions) items m way.run s v at e;
          ends = legal_ends blocks (length spec.sessions) Directed items (m, way.run);
          ordered = way.ordered;
          block = b;
          next = h;
        }))

  stop_not : (s b : ℕ) → Launch s b ≢ Stop
  stop_not s b h = cc

  stop_none : (s : ℕ) → Leave s ≢ Stop
  stop_none s h = cc

  does : (items : List HistItem) (m : Machine) → IsUnderWay spec blocks entries items m → (o : Order) → next_order spec entries items ≡ o → DoesOrder blocks m o
  does items m way (Launch s b) h =
      let where_it_is = placed items (Launch s b) h (stop_not s b) in
      let long = all_there blocks Directed (length spec.sessions) items m way.run in
      let v = there m.sessions s (omega (arith, where_it_is.0, long)) in
      let after = after_launch m s v.0 (first_place b (stmts_of blocks b)) in
      (after, ap (launch_of blocks Directed m s b) v.1 ∙ launch_done (may_launch blocks s b) (is_some v.0.place) (is_quiet m) after where_it_is.1 (not_busy items m s b v.0 way h v.1) way.quiet)
  does items m way (Leave s) h =
      let where_it_is = placed items (Leave s) h (stop_none s) in
      let long = all_there blocks Directed (length spec.sessions) items m way.run in
      let v = there m.sessions s (omega (arith, where_it_is, long)) in
      let after = comes_out m (left_behind m.db v.0.transaction) s at_rest Left in
      (after, ap (leave_of Directed m s) v.1 ∙ leave_done (is_quiet m) after way.quiet)
  does items m way Stop h = tt

  pub accepts : (items : List HistItem) (m : Machine) → IsUnderWay spec blocks entries items m → DoesOrder blocks m (next_order spec entries items)
  accepts items m way = does items m way (next_order spec entries items) refl

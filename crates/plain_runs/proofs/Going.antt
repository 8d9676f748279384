-- A run on one thread, under way: what it did so far is in order.
use Rattle.std.proofs.Common.{◌≡◌, ◌≢◌, refl, ℕ, length, List, [], ◌∷◌, sym, ap, subst, ◌∙◌, Option, Some, None, ◌++◌, ◌<◌, append-nil, append_assoc, arith}
use Rattle.std.specs.Prelude.{Result, Ok, Err, IfSome}
use Rattle.std.specs.Option.{option_map_or}
use Rattle.session_machine.specs.declared.event.Event.{Event}
use Rattle.session_machine.specs.declared.event.Event.TheVariants.{Launch, Step, Leave}
use Rattle.session_machine.specs.declared.event.Order.{Order}
use Rattle.session_machine.specs.declared.event.Order.TheVariants.{Launch as LaunchOrder, Leave as LeaveOrder, Stop}
use Rattle.session_machine.specs.declared.event.Mode.{Mode}
use Rattle.session_machine.specs.declared.event.Mode.TheVariants.{Directed}
use Rattle.session_machine.specs.declared.fault.Refusal.{Refusal}
use Rattle.session_machine.specs.declared.fault.EngineFault.{EngineFault}
use Rattle.session_machine.specs.declared.fault.EngineFault.TheVariants.{Busy, NotYourTurn, StillBlocked, Idle, Spent, Memory, NoSession, BlockNotAllowed}
use Rattle.session_machine.specs.declared.reply.Reply.{Reply}
use Rattle.session_machine.specs.declared.reply.HistItem.{HistItem}
use Rattle.session_machine.specs.Machine.{Machine, Blocks, Next, next, opening, turn_in, Run}
use Rattle.session_machine.specs.Engine.{Engine, EngineAnswered, engine_after, engine_answered, engine_step, fault_of, opened}
use Rattle.session_core.specs.Engines.{IsOf}
use Rattle.session_seats.specs.declared.fault.ThreadFault.TheVariants.{Engine as Engine_fault}
use Rattle.session_seats.specs.Orders.{Orders, IsOrder, OrderedAfter}
use Rattle.spec_parser.specs.Trees.{EntryTree, SpecTree}
use Rattle.report_lines.specs.Starts.{order_of}
use Rattle.report_lines.specs.Due.{Launches}
use Rattle.wait_laws.proofs.Rest.{rest_is_reached}
use Rattle.history_laws.specs.Left.{events_left}
use Rattle.history_laws.proofs.Fewer.{events_are_fewer}
use Rattle.permutation_plans.specs.Launches.{launches, due_after, due_in}
use Rattle.session_seats.specs.Refusals.{next_event}
use Rattle.plain_runs.specs.Alone.{IsOfAlone, RefusesNext}
use Rattle.spec_files.specs.Faults.{thread_fault}
use Rattle.plain_runs.specs.Inner.Next.{IsNextEvent, left_in}
use Rattle.spec_files.specs.Plans.{Planning, order_after, IsFollowing}
use Rattle.spec_files.specs.Code.Following.{follows_longer}

-- what the engine did since it was opened is what the plan ordered at first, and orders now
pub record IsUnderWay (first plan : Planning) (opened e : Engine) : Type 0 where
  pub launches : plan.launches ≡ first.launches
  pub entries : plan.entries ≡ first.entries
  pub follows : IsFollowing plan e.history
  pub ordered : OrderedAfter (order_after first) [] e.history
  pub same : IsOf e opened.blocks opened.count opened.mode

-- plans of the same launches and entries order the same
at_first : (P : Orders → Type 0) (first plan : Planning) → plan.launches ≡ first.launches → plan.entries ≡ first.entries → P (order_after plan) → P (order_after first)
at_first P first plan launches entries is =
    subst (λ (es : List EntryTree). P (due_after first.launches es)) entries (subst (λ (l : Launches). P (due_after l plan.entries)) launches is)

-- the items go on by one that is ordered
ordered_on : (orders : Orders) (before items : List HistItem) (item : HistItem) → OrderedAfter orders before items → IsOrder item.event (orders (before ++ items)) → OrderedAfter orders before (items ++ item ∷ [])
ordered_on orders before [] item ordered is = (subst (λ w. IsOrder item.event (orders w)) (append-nil before) is, tt)
ordered_on orders before (i ∷ is) item ordered last =
    (ordered.0, ordered_on orders (before ++ i ∷ []) is item ordered.1 (subst (λ w. IsOrder item.event (orders w)) (sym (append_assoc before (i ∷ []) is)) last))

-- an answer is the next item of the history
answered_item : (e : Engine) (event : Event) (n : Result Next Refusal) (reply : Reply) → (engine_answered e event n).answer ≡ Ok reply
    → (engine_answered e event n).engine.history ≡ e.history ++ record { event = event; reply = reply } ∷ []
answered_item e event (Err refusal) reply is = absurd cc
answered_item e event (Ok n) reply is = let same : n.reply ≡ reply = cc in ap (λ (r : Reply). e.history ++ record { event = event; reply = r } ∷ []) same

step_item : (e : Engine) (event : Event) (m : Option Machine) (reply : Reply) → (engine_step e event m).answer ≡ Ok reply
    → (engine_step e event m).engine.history ≡ e.history ++ record { event = event; reply = reply } ∷ []
step_item e event None reply is = absurd cc
step_item e event (Some m) reply is = answered_item e event (next e.blocks e.mode m event) reply is

acted_history : (event : Event) (before after : Engine) (reply : Reply) → engine_after before event ≡ record { engine = after; answer = Ok reply }
    → after.history ≡ before.history ++ record { event = event; reply = reply } ∷ []
acted_history event before after reply is =
    sym (ap (λ (x : EngineAnswered). x.engine.history) is) ∙ step_item before event before.machine reply (ap (λ (x : EngineAnswered). x.answer) is)

-- the event that the plan orders was done
pub goes_on : (first plan now : Planning) (opened e after : Engine) (event : Event) (reply : Reply)
    → IsUnderWay first plan opened e → now.launches ≡ plan.launches → now.entries ≡ plan.entries → IsFollowing now e.history → IsOrder event (order_after plan e.history)
    → engine_after e event ≡ record { engine = after; answer = Ok reply } → IsOf after e.blocks e.count e.mode → IsUnderWay first now opened after
goes_on first plan now opened e after event reply so launches entries follows ordered done same =
    let item : HistItem = record { event = event; reply = reply } in
    let longer = sym (acted_history event e after reply done) in
    let due = at_first (λ (orders : Orders). IsOrder event (orders e.history)) first plan so.launches so.entries ordered in
    record {
      launches = launches ∙ so.launches;
      entries = entries ∙ so.entries;
      follows = subst (λ (w : List HistItem). IsFollowing now w) longer (follows_longer _ (item ∷ []) now.progress follows);
      ordered = subst (OrderedAfter (order_after first) []) longer (ordered_on (order_after first) [] e.history item so.ordered due);
      same = (same.0 ∙ so.same.0, same.1 ∙ so.same.1, same.2 ∙ so.same.2);
    }

-- what is next is ordered
is_order_in : (turn : Option ℕ) (order : Order) (event : Event) → Some event ≡ next_event turn order → IsOrder event order
is_order_in (Some session) order event is = let same : event ≡ Step session = cc in subst (λ (e : Event). IsOrder e order) (sym same) tt
is_order_in None (LaunchOrder session block) event is = let same : event ≡ Launch session block = cc in subst (λ (e : Event). IsOrder e (LaunchOrder session block)) (sym same) refl
is_order_in None (LeaveOrder session) event is = let same : event ≡ Leave session = cc in subst (λ (e : Event). IsOrder e (LeaveOrder session)) (sym same) refl
is_order_in None Stop event is = absurd cc

pub is_order : (e : Engine) (order : Order) (event : Event) → IsNextEvent e order (Some event) → IsOrder event order
is_order e order event next = is_order_in (turn_in next.state) order event next.is

refused_in : (e : Engine) (event : Event) (n : Result Next Refusal) (fault : EngineFault) → (engine_answered e event n).answer ≡ Err fault
    → (refusal : Refusal) × (n ≡ Err refusal) × (fault ≡ fault_of refusal)
refused_in e event (Err refusal) fault is = (refusal, refl, cc)
refused_in e event (Ok n) fault is = absurd cc

-- what is next was refused
pub refuses_next : (first plan : Planning) (opened e after : Engine) (event : Event) (fault : EngineFault)
    → IsUnderWay first plan opened e → IsNextEvent e (order_after plan e.history) (Some event)
    → engine_after e event ≡ record { engine = after; answer = Err fault } → RefusesNext (order_after first) opened.blocks opened.count opened.mode fault
refuses_next first plan opened e after event fault so is_next is =
    let answer = ap (λ (m : Option Machine). (engine_step e event m).answer) (sym is_next.live) ∙ ap (λ (a : EngineAnswered). a.answer) is in
    let refused = refused_in e event (next e.blocks e.mode is_next.state event) fault answer in
    record {
      items = e.history;
      state = is_next.state;
      run = subst (λ (b : Blocks). Run b opened.mode (opening opened.count) e.history is_next.state) so.same.0
          (subst (λ (m : Mode). Run e.blocks m (opening opened.count) e.history is_next.state) so.same.2
          (subst (λ (k : ℕ). Run e.blocks e.mode (opening k) e.history is_next.state) so.same.1 is_next.run));
      ordered = so.ordered;
      event = event;
      due = at_first (λ (orders : Orders). next_event (turn_in is_next.state) (orders e.history) ≡ Some event) first plan so.launches so.entries (sym is_next.is);
      refusal = refused.0;
      refuses = ap (λ (b : Blocks). next b opened.mode is_next.state event) (sym so.same.0) ∙ ap (λ (m : Mode). next e.blocks m is_next.state event) (sym so.same.2) ∙ refused.1;
      told = refused.2;
    }

-- ---- what is left

record Did (e after : Engine) (m : Machine) (event : Event) : Type 0 where
  pub n : Next
  pub taken : next e.blocks e.mode m event ≡ Ok n
  pub is : after ≡ record e { machine = Some n.machine; history = e.history ++ record { event = event; reply = n.reply } ∷ [] }

did : (e after : Engine) (m : Machine) (event : Event) (reply : Reply) → e.machine ≡ Some m → engine_after e event ≡ record { engine = after; answer = Ok reply } → Did e after m event
did e after m event reply live is = by (next e.blocks e.mode m event) refl (ap (engine_step e event) (sym live) ∙ is) where
  refused : (f : EngineFault) → ◌≡◌ {A = Result Reply EngineFault} (Err f) (Ok reply) → ⊥
  refused f h = cc

  by : (r : Result Next Refusal) → next e.blocks e.mode m event ≡ r → engine_answered e event r ≡ record { engine = after; answer = Ok reply } → Did e after m event
  by (Err refusal) taken h = absurd (refused (fault_of refusal) (ap (λ (a : EngineAnswered). a.answer) h))
  by (Ok n) taken h = record { n = n; taken = taken; is = sym (ap (λ (a : EngineAnswered). a.engine) h) }

ordered_so : (event : Event) (order : Order) → IsOrder event order → IfSome (order_of event) (λ o. order ≡ o)
ordered_so (Launch session block) order h = h
ordered_so (Step session) order h = tt
ordered_so (Leave session) order h = h

-- once it was done less is left
pub smaller : (plan now : Planning) (e after : Engine) (event : Event) (reply : Reply) → IsNextEvent e (order_after plan e.history) (Some event) → now.launches ≡ plan.launches
    → engine_after e event ≡ record { engine = after; answer = Ok reply } → left_in now.launches after < left_in plan.launches e
smaller plan now e after event reply is_next launches is =
    let d = did e after is_next.state event reply is_next.live is in
    let due = ordered_so event (order_after plan e.history) (is_order e (order_after plan e.history) event is_next) in
    let less = events_are_fewer rest_is_reached plan.launches plan.entries e.blocks e.mode e.count e.history is_next.state event d.n is_next.run d.taken due in
    let before : left_in plan.launches e ≡ events_left plan.launches e.blocks e.count e.history is_next.state =
    ap (λ (m : Option Machine). option_map_or (events_left plan.launches e.blocks e.count e.history) m 0) is_next.live in
    let behind : left_in now.launches after ≡ events_left plan.launches e.blocks e.count (e.history ++ record { event = event; reply = d.n.reply } ∷ []) d.n.machine =
    ap (λ (l : Launches). left_in l after) launches ∙ ap (left_in plan.launches) d.is in
    omega (arith, less, before, behind)

told_as : (orders : Orders) (blocks : Blocks) (count : ℕ) (fault : EngineFault) → (fault ≢ Memory → RefusesNext orders blocks count Directed fault) → IsOfAlone orders blocks count (thread_fault (Engine_fault fault))
told_as orders blocks count Memory refused = tt
told_as orders blocks count Busy refused = refused (λ is. absurd cc)
told_as orders blocks count NotYourTurn refused = refused (λ is. absurd cc)
told_as orders blocks count StillBlocked refused = refused (λ is. absurd cc)
told_as orders blocks count Idle refused = refused (λ is. absurd cc)
told_as orders blocks count Spent refused = refused (λ is. absurd cc)
told_as orders blocks count NoSession refused = refused (λ is. absurd cc)
told_as orders blocks count BlockNotAllowed refused = refused (λ is. absurd cc)

-- a fault of the run of a permutation is one that its own orders met
pub told_alone : (spec : SpecTree) (entries : List EntryTree) (blocks : Blocks) (count : ℕ) (plan : Planning) (e : Engine) (fault : EngineFault)
    → plan.launches ≡ launches spec entries → plan.entries ≡ entries → e ≡ opened blocks count Directed → count ≡ length spec.sessions
    → (fault ≢ Memory → RefusesNext (order_after plan) e.blocks e.count e.mode fault) → IsOfAlone (due_in spec entries) blocks (length spec.sessions) (thread_fault (Engine_fault fault))
told_alone spec entries blocks count plan e fault its own is long refused =
    subst (λ (es : List EntryTree). IsOfAlone (due_after (launches spec entries) es) blocks (length spec.sessions) (thread_fault (Engine_fault fault))) own
    (subst (λ (l : Launches). IsOfAlone (due_after l plan.entries) blocks (length spec.sessions) (thread_fault (Engine_fault fault))) its
    (subst (λ (n : ℕ). IsOfAlone (order_after plan) blocks n (thread_fault (Engine_fault fault))) (ap (λ (o : Engine). o.count) is ∙ long)
    (subst (λ (b : Blocks). IsOfAlone (order_after plan) b e.count (thread_fault (Engine_fault fault))) (ap (λ (o : Engine). o.blocks) is)
    (told_as (order_after plan) e.blocks e.count fault (λ other. subst (λ (m : Mode). RefusesNext (order_after plan) e.blocks e.count m fault) (ap (λ (o : Engine). o.mode) is) (refused other))))))

-- A run that came to its end.
use Rattle.std.proofs.Common.{◌≡◌, ◌≤◌, ◌+◌, ℕ, zero, suc, length, map, take, refl, List, [], ◌∷◌, Option, Some, None, true, ap, sym, subst, arith}
use Rattle.std.specs.Prelude.{IfSome, MatchOption, Result, Ok, Err, IfOk, IfErr, slice_get}
use Rattle.std.specs.Global.{Vec}
use Rattle.std.proofs.lemmas.Result.{IfOk-weaker}
use Rattle.session_machine.specs.declared.event.Mode.TheVariants.{Directed}
use Rattle.session_machine.specs.Machine.{Machine, Blocks, opening, Run}
use Rattle.session_machine.specs.Engine.{Engine, is_quiet_in, opened}
use Rattle.session_seats.specs.declared.fault.ThreadFault.{ThreadFault}
use Rattle.session_threads.specs.Closing.{ClosedOf}
use Rattle.session_seats.specs.Orders.{Orders}
use Rattle.session_seats.specs.Refusals.{MayStop}
use Rattle.session_crews.specs.Crews.{EachFrom}
use Rattle.session_machine.specs.declared.event.Order.TheVariants.{Stop}
use Rattle.session_threads.specs.Crews.{CameBy, Waits}
use Rattle.session_threads.specs.declared.opening.Run.{Run as ThreadRun}
use Rattle.row_versions.specs.Log.{Content, empty_content}
use Rattle.session_machine.specs.declared.reply.HistItem.{HistItem}
use Rattle.std.specs.List.{All}
use Rattle.spec_parser.specs.declared.tree.Entry.{Entry}
use Rattle.spec_parser.specs.Trees.{EntryTree, SpecTree, perm_view}
use Rattle.report_lines.specs.Due.{Launches}
use Rattle.permutation_plans.specs.Launches.{launches, due_after, due_in}
use Rattle.permutation_plans.specs.Regular.{IsRegular}
use Rattle.spec_files.specs.Inner.Resting.{IsAtRest}
use Rattle.spec_files.specs.Plans.{Planning, order_after}
use Rattle.spec_files.proofs.Driven.{plan_fits}
use Rattle.spec_files.proofs.Rested.{regular}
use Rattle.permutations.specs.Inner.Runs.{ArePlans, AreReports, IsPlanOf, RanAs, RanSo}

rests_in : (e : Engine) (machine : Option Machine) → is_quiet_in machine ≡ true → IfSome machine (λ m. Run e.blocks e.mode (opening e.count) e.history m) → IsAtRest e
rests_in e None quiet leads = absurd cc
rests_in e (Some m) quiet leads = record { state = m; run = leads; quiet = quiet }

pub rests : (e : Engine) → is_quiet_in e.machine ≡ true → IfSome e.machine (λ m. Run e.blocks e.mode (opening e.count) e.history m) → IsAtRest e
rests e quiet leads = rests_in e e.machine quiet leads

-- what a plan of the permutation has driven, and came to rest, has a regular history
pub regular_as : (spec : SpecTree) (blocks : Blocks) (entries : List EntryTree) (c : ClosedOf) → RanAs spec blocks entries c → IsAtRest c.state → IsRegular spec blocks entries c.state.history
regular_as spec blocks entries c r rest =
    regular spec blocks entries c.state.count (opened blocks c.state.count Directed) c.state refl (r.ran.of.0, refl, r.ran.of.2) r.ran.of.1 rest
    (plan_fits spec entries r.plan c.state.history r.planned.launches r.planned.own r.ran.driven)

-- a plan of the permutation orders what the permutation does
own_orders : (P : Orders → Type 0) (spec : SpecTree) (entries : List EntryTree) (plan : Planning) → IsPlanOf spec entries plan → P (order_after plan) → P (due_in spec entries)
own_orders P spec entries plan is by =
    subst (λ (es : List EntryTree). P (due_after (launches spec entries) es)) is.own (subst (λ (l : Launches). P (due_after l plan.entries)) is.launches by)

if_stopped : (run : Result ClosedOf ThreadFault) (P Q : ThreadFault → Type 0) → ((f : ThreadFault) → P f → Q f) → IfErr run P → IfErr run Q
if_stopped (Ok closed) P Q so is = tt
if_stopped (Err f) P Q so is = so f is

-- what came to its end by the orders of a plan is a run of the permutation
ran_so : (spec : SpecTree) (blocks : Blocks) (entries : List EntryTree) (plan : Planning) (run : Result ClosedOf ThreadFault)
    → IsPlanOf spec entries plan → CameBy blocks (length spec.sessions) (order_after plan) run → RanSo spec blocks entries run
ran_so spec blocks entries plan run is by = record {
  ran = IfOk-weaker run _ _ (λ c ran. record { plan = plan; planned = is; ran = ran }) by.ran;
  stopped = if_stopped run _ _ (λ f may. own_orders (λ (orders : Orders). MayStop orders blocks (length spec.sessions) f) spec entries plan is may) by.stopped;
}

-- of a run that was closed, and of one that was stopped
pub closed_so : (spec : SpecTree) (blocks : Blocks) (entries : List EntryTree) (run : Result ClosedOf ThreadFault) (c : ClosedOf) → RanSo spec blocks entries run → run ≡ Ok c → RanAs spec blocks entries c
closed_so spec blocks entries run c so is = subst (λ (r : Result ClosedOf ThreadFault). IfOk r (RanAs spec blocks entries)) is so.ran

pub stopped_so : (spec : SpecTree) (blocks : Blocks) (entries : List EntryTree) (run : Result ClosedOf ThreadFault) (f : ThreadFault) → RanSo spec blocks entries run → run ≡ Err f
    → MayStop (due_in spec entries) blocks (length spec.sessions) f
stopped_so spec blocks entries run f so is = subst (λ (r : Result ClosedOf ThreadFault). IfErr r (MayStop (due_in spec entries) blocks (length spec.sessions))) is so.stopped

-- the orders at a place of the list; behind it nothing is ordered
abbrev pub orders_at : List Orders → ℕ → Orders
orders_at [] place = λ items. Stop
orders_at (orders ∷ behind) zero = orders
orders_at (orders ∷ behind) (suc place) = orders_at behind place

-- each of these runs waits at its place, where they stand from this one on, and is to be driven as its driver orders
pub wait_each : {V D : Type 0} (content : V → Content) (order : D → Orders) (follows : D → List HistItem → Type 0) (at : ℕ → Orders) (place : ℕ) (runs : List (ThreadRun V D))
    → ((k : ℕ) → at (place + k) ≡ orders_at (map (λ run. order run.driver) runs) k) → All (λ run. content run.store ≡ empty_content) runs → All (λ run. follows run.driver []) runs
    → EachFrom (Waits content order follows at) place runs
wait_each content order follows at place [] same empty from = tt
wait_each content order follows at place (run ∷ runs) same empty from =
    let here : at place ≡ order run.driver = subst (λ n. at n ≡ order run.driver) (omega arith) (same 0) in (
      record { empty = empty 0 run (omega arith); from_start = from 0 run (omega arith); own = sym here },
      wait_each content order follows at (place + 1) runs
          (λ k. let n : place + suc k ≡ (place + 1) + k = omega arith in subst (λ m. at m ≡ orders_at (map (λ r. order r.driver) runs) k) n (same (suc k)))
          (λ k or lt. empty (suc k) or (omega (arith, lt))) (λ k or lt. from (suc k) or (omega (arith, lt))),
    )

-- plans of these permutations are plans of so many of them, the first
pub plans_in_front : {R : Type 0} (driver : R → Planning) (spec : SpecTree) (taken : List (Vec Entry)) (plans : List R)
    → ArePlans spec taken (map driver plans) → ArePlans spec (take (length plans) taken) (map driver plans)
plans_in_front driver spec taken [] are = tt
plans_in_front driver spec [] (p ∷ ps) are = absurd are
plans_in_front driver spec (e ∷ es) (p ∷ ps) are = (are.0, plans_in_front driver spec es ps are.1)

-- what came to its end by the orders of the plan at its place is a run of the permutation there
comes_in : {R : Type 0} (driver : R → Planning) (spec : SpecTree) (blocks : Blocks) (taken : List (Vec Entry)) (plans : List R) (place : ℕ) (run : Result ClosedOf ThreadFault)
    → ArePlans spec (take (length plans) taken) (map driver plans) → CameBy blocks (length spec.sessions) (orders_at (map (λ (plan : R). order_after (driver plan)) plans) place) run
    → IfSome (slice_get (take (length plans) taken) place) (λ entries. RanSo spec blocks (perm_view entries) run)
comes_in driver spec blocks taken [] place run are came = tt
comes_in driver spec blocks [] (p ∷ ps) place run are came = absurd are
comes_in driver spec blocks (e ∷ es) (p ∷ ps) zero run are came = ran_so spec blocks (perm_view e) (driver p) run are.0 came
comes_in driver spec blocks (e ∷ es) (p ∷ ps) (suc place) run are came = comes_in driver spec blocks es ps place run are.1 came

pub comes_at : {R : Type 0} (driver : R → Planning) (spec : SpecTree) (blocks : Blocks) (count : ℕ) (taken : List (Vec Entry)) (plans : List R) (place : ℕ) (run : Result ClosedOf ThreadFault)
    → count ≡ length spec.sessions → ArePlans spec taken (map driver plans) → CameBy blocks count (orders_at (map (λ (plan : R). order_after (driver plan)) plans) place) run
    → IfSome (slice_get (take (length plans) taken) place) (λ entries. RanSo spec blocks (perm_view entries) run)
comes_at {R = R} driver spec blocks count taken plans place run same are came =
    comes_in driver spec blocks taken plans place run (plans_in_front driver spec taken plans are)
    (subst (λ (n : ℕ). CameBy blocks n (orders_at (map (λ (plan : R). order_after (driver plan)) plans) place) run) same came)

-- ---- reports

module _ {R : Type 0} (reports : Vec Entry → R → Type 0) where
  -- what is kept of each, by its place, are reports of the permutations there
  each_reported : (get : ℕ → Option (Vec Entry)) (place : ℕ) (taken : List (Vec Entry)) (kept : List R) → ((k : ℕ) → get (place + k) ≡ slice_get taken k) → length kept ≤ length taken
      → EachFrom (λ n report. IfSome (get n) (λ entries. reports entries report)) place kept → AreReports reports taken kept
  each_reported get place taken [] same few each = tt
  each_reported get place [] (r ∷ rs) same few each = absurd (omega (arith, few))
  each_reported get place (e ∷ es) (r ∷ rs) same few each =
      let here : get place ≡ Some e = subst (λ n. get n ≡ Some e) (omega arith) (same 0) in (
        subst (λ (o : Option (Vec Entry)). IfSome o (λ entries. reports entries r)) here each.0,
        each_reported get (place + 1) es rs (λ k. let n : place + suc k ≡ (place + 1) + k = omega arith in subst (λ m. get m ≡ slice_get es k) n (same (suc k))) (omega (arith, few)) each.1,
      )

  pub reported : (taken : List (Vec Entry)) (kept : List R) → length kept ≤ length taken → EachFrom (λ m report. IfSome (slice_get taken m) (λ entries. reports entries report)) 0 kept → AreReports reports taken kept
  reported taken kept few each = each_reported (slice_get taken) 0 taken kept (λ k. let m : 0 + k ≡ k = omega arith in ap (slice_get taken) m) few each

  -- reports of the first of them are reports of all
  pub in_front : (n : ℕ) (taken : List (Vec Entry)) (kept : List R) → AreReports reports (take n taken) kept → AreReports reports taken kept
  in_front n taken [] are = tt
  in_front zero taken (r ∷ rs) are = absurd are
  in_front (suc n) [] (r ∷ rs) are = absurd are
  in_front (suc n) (e ∷ es) (r ∷ rs) are = (are.0, in_front n es rs are.1)

  -- the next of them, where one is left, is of the next permutation, and the others are of those behind it
  pub next_report : (left rest : List (Vec Entry)) (entries : Vec Entry) (next : Option R) (before after : List R) (nothing fewer : Type 0)
      → AreReports reports left before → left ≡ entries ∷ rest → MatchOption next nothing (λ report. (before ≡ report ∷ after) × fewer) → (nothing → length after ≡ 0)
      → IfSome next (reports entries) × AreReports reports rest after
  next_report left rest entries None before [] nothing fewer are first steps none = (tt, tt)
  next_report left rest entries None before (r ∷ rs) nothing fewer are first steps none = absurd (omega (arith, none steps))
  next_report left rest entries (Some report) before after nothing fewer are first steps none =
      subst (λ (rs : List R). AreReports reports (entries ∷ rest) rs) steps.0 (subst (λ (es : List (Vec Entry)). AreReports reports es before) first are)

  -- as a loop goes over both
  pub reports_of : (taken left : List (Vec Entry)) (kept now : List R) → left ≡ taken → now ≡ kept → AreReports reports taken kept → AreReports reports left now
  reports_of taken left kept now same own are = subst (λ (es : List (Vec Entry)). AreReports reports es now) (sym same) (subst (AreReports reports taken) (sym own) are)

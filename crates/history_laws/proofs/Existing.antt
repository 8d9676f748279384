-- A permutation has a regular history, by the orders that the machine does, each with the steps that lead to rest.
use Rattle.std.proofs.Common.{◌≡◌, ◌≢◌, refl, sym, ◌∙◌, ap, subst, Bool, true, false, ℕ, zero, suc, ◌+◌, ◌<◌, ◌≤◌, List, [], ◌∷◌, ◌++◌, length, length-append, map, append_assoc, append-nil, arith, if◌then◌else◌}
use Rattle.std.specs.Prelude.{is_none, IfSome, IsTrue}
use Rattle.std.proofs.lemmas.Option.{slice_get_within}
use Rattle.session_machine.specs.declared.event.Event.{Event}
use Rattle.session_machine.specs.declared.event.Event.TheVariants as events
use Rattle.session_machine.specs.declared.event.Order.{Order}
use Rattle.session_machine.specs.declared.event.Order.TheVariants.{Launch, Leave, Stop}
use Rattle.session_machine.specs.declared.event.Mode.TheVariants.{Directed}
use Rattle.session_machine.specs.declared.reply.HistItem.{HistItem}
use Rattle.session_machine.specs.Machine.{Machine, Blocks, opening, is_quiet, Run}
use Rattle.session_machine.specs.Engine.{Goes}
use Rattle.wait_laws.specs.Laws.{AreSteps, RestIsReached}
use Rattle.spec_parser.specs.Trees.{EntryTree, SpecTree}
use Rattle.report_lines.specs.Starts.{order_of, is_order}
use Rattle.report_lines.specs.Due.{is_over, orders}
use Rattle.report_lines.specs.Orders.{setups_of, launch_of_entry, closing_of, with_leaves, orders_of}
use Rattle.permutation_plans.specs.Regular.{next_order, IsRegular}
use Rattle.history_laws.specs.UnderWay.{IsUnderWay, DoesOrder}
use Rattle.history_laws.proofs.Segments.{orders_append, orders_one, orders_no}
use Rattle.history_laws.proofs.Ready.{next_at}
use Rattle.history_laws.proofs.Resting.{rests, run_append}

-- ---- items in order

-- each Launch and Leave is due after what comes before it
abbrev pub Fits : (List HistItem → Order) → List HistItem → List HistItem → Type 0
Fits due front [] = Unit {0}
Fits due front (item ∷ items) = IfSome (order_of item.event) (λ order. due front ≡ order) × Fits due (front ++ item ∷ []) items

fits_append : (due : List HistItem → Order) (front xs ys : List HistItem) → Fits due front xs → Fits due (front ++ xs) ys → Fits due front (xs ++ ys)
fits_append due front [] ys h k = subst (λ (w : List HistItem). Fits due w ys) (append-nil front) k
fits_append due front (x ∷ xs) ys h k = (h.0, fits_append due (front ++ x ∷ []) xs ys h.1 (subst (λ (w : List HistItem). Fits due w ys) (sym (append_assoc front (x ∷ []) xs)) k))

fits_steps : (due : List HistItem → Order) (front items : List HistItem) → AreSteps items → Fits due front items
fits_steps due front [] steps = tt
fits_steps due front (item ∷ items) steps =
    (subst (λ (e : Event). IfSome (order_of e) (λ order. due front ≡ order)) (sym steps.0.1) tt, fits_steps due (front ++ item ∷ []) items steps.1)

head_is : {A : Type 0} (x y : A) (xs ys : List A) → x ∷ xs ≡ y ∷ ys → x ≡ y
head_is x y xs ys h = cc

tail_is : {A : Type 0} (x y : A) (xs ys : List A) → x ∷ xs ≡ y ∷ ys → xs ≡ ys
tail_is x y xs ys h = cc

nothing_there : {A : Type 0} (y : A) (ys : List A) → (let none : List A = [] in none ≡ y ∷ ys) → ⊥
nothing_there y ys h = cc

pub in_order : (due : List HistItem → Order) (front items before behind : List HistItem) (item : HistItem) → Fits due front items → items ≡ before ++ item ∷ behind
    → IfSome (order_of item.event) (λ order. due (front ++ before) ≡ order)
in_order due front [] [] behind item fits is = absurd (nothing_there item behind is)
in_order due front [] (b ∷ before) behind item fits is = absurd (nothing_there b (before ++ item ∷ behind) is)
in_order due front (i ∷ items) [] behind item fits is =
    subst (λ (w : List HistItem). IfSome (order_of item.event) (λ order. due w ≡ order)) (sym (append-nil front))
    (subst (λ (x : HistItem). IfSome (order_of x.event) (λ order. due front ≡ order)) (head_is i item items behind is) fits.0)
in_order due front (i ∷ items) (b ∷ before) behind item fits is =
    subst (λ (w : List HistItem). IfSome (order_of item.event) (λ order. due w ≡ order))
    (append_assoc front (i ∷ []) before ∙ ap (λ (x : HistItem). front ++ x ∷ before) (head_is i b items (before ++ item ∷ behind) is))
    (in_order due (front ++ i ∷ []) items before behind item fits.1 (tail_is i b items (before ++ item ∷ behind) is))

-- ---- how many orders there are

no_orders : (items : List HistItem) → AreSteps items → orders items ≡ 0
no_orders [] steps = refl
no_orders (item ∷ items) steps = orders_no item items (ap is_order steps.0.1) ∙ no_orders items steps.1

with_few : (items : List HistItem) (k : ℕ) (os : List Order) → length (with_leaves items k os) ≤ length os + length os
with_few items k [] = omega arith
with_few items k (Launch s b ∷ os) = by (is_over items k s) (with_few items (k + 1) os) (with_few items (k + 2) os) where
  by : (over : Bool) → length (with_leaves items (k + 1) os) ≤ length os + length os → length (with_leaves items (k + 2) os) ≤ length os + length os
      → suc (length (if over then with_leaves items (k + 1) os else Leave s ∷ with_leaves items (k + 2) os)) ≤ suc (length os) + suc (length os)
  by true one two = omega (arith, one)
  by false one two = omega (arith, two)
with_few items k (Leave s ∷ os) = let rest = with_few items (k + 1) os in omega (arith, rest)
with_few items k (Stop ∷ os) = let rest = with_few items (k + 1) os in omega (arith, rest)

-- no history of the permutation has more
most_orders : SpecTree → List EntryTree → ℕ
most_orders spec entries = length (setups_of spec ++ map (launch_of_entry spec) entries) + (length (closing_of spec) + length (closing_of spec))

few_orders : (spec : SpecTree) (entries : List EntryTree) (items : List HistItem) → length (orders_of spec entries items) ≤ most_orders spec entries
unfolding most_orders
few_orders spec entries items =
    let first = setups_of spec ++ map (launch_of_entry spec) entries in
    let long = length-append first (with_leaves items (length first) (closing_of spec)) in
    let few = with_few items (length first) (closing_of spec) in
    omega (arith, long, few)

-- ---- the history

-- the history so far, with its items in order
record IsGoing (spec : SpecTree) (blocks : Blocks) (entries : List EntryTree) (items : List HistItem) (m : Machine) : Type 0 where
  pub run : Run blocks Directed (opening (length spec.sessions)) items m
  pub quiet : IsTrue (is_quiet m)
  pub fits : Fits (next_order spec entries) [] items

record Further (spec : SpecTree) (blocks : Blocks) (entries : List EntryTree) (items : List HistItem) : Type 0 where
  pub more : List HistItem
  pub after : Machine
  pub going : IsGoing spec blocks entries more after
  pub counted : orders more ≡ orders items + 1

abbrev HasHistory : SpecTree → Blocks → List EntryTree → Type 0
HasHistory spec blocks entries = (items : List HistItem) × IsRegular spec blocks entries items

module _ (rest_law : RestIsReached) (spec : SpecTree) (blocks : Blocks) (entries : List EntryTree)
    (accepts : (items : List HistItem) (m : Machine) → IsUnderWay spec blocks entries items m → DoesOrder blocks m (next_order spec entries items)) where
  under_way : (items : List HistItem) (m : Machine) → IsGoing spec blocks entries items m → IsUnderWay spec blocks entries items m
  under_way items m g = record {
    run = g.run;
    quiet = g.quiet;
    ordered = λ before behind item is. in_order (next_order spec entries) [] items before behind item g.fits is;
  }

  -- an order is done, and the steps that follow it
  further : (items : List HistItem) (m : Machine) (event : Event) → IsGoing spec blocks entries items m → is_order event ≡ true
      → IfSome (order_of event) (λ order. next_order spec entries items ≡ order) → Goes blocks Directed m event → Further spec blocks entries items
  further items m event g one due done =
      let after = done.0 in
      let item : HistItem = record { event = event; reply = after.reply } in
      let ran : Run blocks Directed m (item ∷ []) after.machine = (after.machine, done.1, refl) in
      let reached = run_append blocks Directed items (item ∷ []) (opening (length spec.sessions)) m after.machine g.run ran in
      let r = rests rest_law blocks (length spec.sessions) after.machine (items ++ item ∷ [], reached) in
      let none = no_orders r.items r.steps in
      record {
        more = items ++ item ∷ r.items;
        after = r.after;
        going = record {
          run = run_append blocks Directed items (item ∷ r.items) (opening (length spec.sessions)) m r.after g.run (after.machine, done.1, r.run);
          quiet = ap is_none r.quiet;
          fits = fits_append (next_order spec entries) [] items (item ∷ r.items) g.fits (due, fits_steps (next_order spec entries) (items ++ item ∷ []) r.items r.steps);
        };
        counted = omega (arith, orders_append items (item ∷ r.items), orders_one item r.items one, none);
      }

  over : (items : List HistItem) (m : Machine) → IsGoing spec blocks entries items m → next_order spec entries items ≡ Stop → HasHistory spec blocks entries
  over items m g stop =
      (items, record { state = m; run = g.run; quiet = g.quiet; launched = record { ordered = (under_way items m g).ordered; over = stop } })

  launch_stop : (s b : ℕ) → Launch s b ≢ Stop
  launch_stop s b h = cc

  leave_stop : (s : ℕ) → Leave s ≢ Stop
  leave_stop s h = cc

  ends : (items : List HistItem) (o : Order) → next_order spec entries items ≡ o → o ≢ Stop → orders items < most_orders spec entries
  ends items o h go =
      let few = few_orders spec entries items in
      let within = slice_get_within (orders_of spec entries items) (orders items) o (next_at spec entries items o h go) in
      omega (arith, few, within)

  next_case : (items : List HistItem) (m : Machine) → IsGoing spec blocks entries items m → (o : Order) → next_order spec entries items ≡ o → DoesOrder blocks m o
      → ((f : Further spec blocks entries items) → orders items < most_orders spec entries → HasHistory spec blocks entries) → HasHistory spec blocks entries
  next_case items m g (Launch s b) h done more = more (further items m (events.Launch s b) g refl h done) (ends items (Launch s b) h (launch_stop s b))
  next_case items m g (Leave s) h done more = more (further items m (events.Leave s) g refl h done) (ends items (Leave s) h (leave_stop s))
  next_case items m g Stop h done more = over items m g h

  goes_on : (left : ℕ) (items : List HistItem) (m : Machine) → IsGoing spec blocks entries items m → most_orders spec entries ≤ orders items + left → HasHistory spec blocks entries
  goes_on zero items m g most =
      next_case items m g (next_order spec entries items) refl (accepts items m (under_way items m g)) (λ f less. absurd (omega (arith, most, less)))
  goes_on (suc left) items m g most =
      next_case items m g (next_order spec entries items) refl (accepts items m (under_way items m g)) (λ f less. goes_on left f.more f.after f.going (omega (arith, most, f.counted)))

  pub has_history : HasHistory spec blocks entries
  has_history =
      let r = rests rest_law blocks (length spec.sessions) (opening (length spec.sessions)) ([], refl) in
      goes_on (most_orders spec entries) r.items r.after
      (record { run = r.run; quiet = ap is_none r.quiet; fits = fits_steps (next_order spec entries) [] r.items r.steps }) (omega arith)

-- With each event of a run fewer are left.
use Rattle.std.proofs.Common.{◌≡◌, ◌≢◌, refl, sym, ◌∙◌, ap, subst, Bool, true, false, ℕ, zero, suc, ◌+◌, ◌-◌, ◌*◌, ◌<◌, ◌≤◌, inl, inr, List, [], ◌∷◌, ◌++◌, length, sum_by, arith, if◌then◌else◌}
use Rattle.std.specs.Prelude.{Option, Some, None, nat_le, nat_lt, slice_get, unwrap_or, IfSome, Ok}
use Rattle.std.specs.Option.{option_map_or}
use Rattle.std.proofs.lemmas.Bool.{ltb-true}
use Rattle.std.proofs.lemmas.Option.{slice_get_within}
use Rattle.std.proofs.lemmas.List.Sums.{sum_by-cons}
use Rattle.std.proofs.lemmas.Nat.{mul-add-lt}
use Rattle.std.proofs.Math.Nat.{mul_comm}
use Rattle.session_machine.specs.declared.session.Place.{Place}
use Rattle.session_machine.specs.declared.session.Session.{Session}
use Rattle.session_machine.specs.declared.event.Event.{Event}
use Rattle.session_machine.specs.declared.event.Event.TheVariants as events
use Rattle.session_machine.specs.declared.event.Order.{Order}
use Rattle.session_machine.specs.declared.event.Order.TheVariants.{Launch, Leave, Stop}
use Rattle.session_machine.specs.declared.event.Mode.{Mode}
use Rattle.session_machine.specs.declared.reply.HistItem.{HistItem}
use Rattle.session_machine.specs.Machine.{Machine, Blocks, Next, next, opening, stmts_of, Run}
use Rattle.wait_laws.specs.Laws.{left_from, left_of, statements_left, can_step, able, IsNearerRest, RestIsReached}
use Rattle.wait_laws.proofs.Counting.{sum_less, count_most}
use Rattle.spec_parser.specs.Trees.{EntryTree}
use Rattle.report_lines.specs.declared.history.PlannedLaunch.{PlannedLaunch}
use Rattle.report_lines.specs.declared.history.TeardownsSoFar.{TeardownsSoFar}
use Rattle.report_lines.specs.declared.history.RunState.{RunState}
use Rattle.report_lines.specs.declared.history.RunState.TheVariants.{Due, Whole, Invalid}
use Rattle.report_lines.specs.Starts.{order_of}
use Rattle.report_lines.specs.Code.Walk.{walked}
use Rattle.report_lines.specs.Due.{Launches, launch, orders, is_over, went_well, due_setup, teardowns_so_far, due_entry}
use Rattle.permutation_plans.specs.Launches.{run_of, due_after}
use Rattle.permutation_plans.proofs.Whole.{IsStateAt, state_at}
use Rattle.history_laws.specs.Left.{most_orders, most_steps, steps_left, events_left}
use Rattle.history_laws.specs.Laws.{EventsAreFewer}
use Rattle.history_laws.proofs.Accepted.{all_there}
use Rattle.history_laws.proofs.Resting.{run_append}
use Rattle.history_laws.proofs.Segments.{orders_append, orders_one, orders_no}

-- ---- how many orders there are

no_order : (o : Order) → None ≡ Some o → ⊥
no_order o h = cc

-- a setup is due only where so many are there
setup_few : (items : List HistItem) (n k : ℕ) (ts : List PlannedLaunch) (o : Order) → o ≢ Stop → due_setup items n k ts ≡ Some o → n < k + length ts
setup_few items n k [] o go h = absurd (no_order o h)
setup_few items n k (t ∷ ts) o go h = by (nat_le n k) (went_well items k t.session) refl h (setup_few items n (k + 1) ts o go) where
  stopped : ◌≡◌ {A = Option Order} (Some Stop) (Some o) → Stop ≡ o
  stopped e = cc

  by : (gone well : Bool) → nat_le n k ≡ gone → (let p : Option Order = if gone then Some (launch t) else if well then due_setup items n (k + 1) ts else Some Stop in p ≡ Some o)
      → (due_setup items n (k + 1) ts ≡ Some o → n < k + 1 + length ts) → n < k + suc (length ts)
  by true well e f later = let le : n ≤ k = grind arith in omega (arith, le)
  by false true e f later = omega (arith, later f)
  by false false e f later = absurd (go (sym (stopped f)))

setup_none : (items : List HistItem) (n k : ℕ) (ts : List PlannedLaunch) → k ≤ n → due_setup items n k ts ≡ None → k + length ts ≤ n
setup_none items n k [] le h = omega (arith, le)
setup_none items n k (t ∷ ts) le h = by (nat_le n k) (went_well items k t.session) refl h (setup_none items n (k + 1) ts) where
  some_none : (o : Order) → Some o ≡ None → ⊥
  some_none o e = cc

  by : (gone well : Bool) → nat_le n k ≡ gone → (let p : Option Order = if gone then Some (launch t) else if well then due_setup items n (k + 1) ts else Some Stop in p ≡ None)
      → (k + 1 ≤ n → due_setup items n (k + 1) ts ≡ None → k + 1 + length ts ≤ n) → k + suc (length ts) ≤ n
  by true well e f later = absurd (some_none (launch t) f)
  by false true e f later = let more : k + 1 ≤ n = grind arith in omega (arith, later more f)
  by false false e f later = absurd (some_none Stop f)

-- teardowns take two orders each at most
record IsFew (n k many : ℕ) (w : TeardownsSoFar) : Type 0 where
  pub due : (o : Order) → w.due ≡ Some o → n < k + (many + many)
  pub orders : w.orders ≤ k + (many + many)

few_teardowns : (items : List HistItem) (n k : ℕ) (ts : List PlannedLaunch) → IsFew n k (length ts) (teardowns_so_far items n k ts)
few_teardowns items n k [] = record { due = λ o h. absurd (no_order o h); orders = omega arith }
few_teardowns items n k (t ∷ ts) = by (nat_le n k) (is_over items k t.session) (nat_le n (k + 1)) refl refl (few_teardowns items n (k + 1) ts) (few_teardowns items n (k + 2) ts) where
  by : (gone over next : Bool) → nat_le n k ≡ gone → nat_le n (k + 1) ≡ next → IsFew n (k + 1) (length ts) (teardowns_so_far items n (k + 1) ts) → IsFew n (k + 2) (length ts) (teardowns_so_far items n (k + 2) ts)
      → (let w : TeardownsSoFar = if gone then record { orders = k; due = Some (launch t) }
      else if over then teardowns_so_far items n (k + 1) ts
      else if next then record { orders = k; due = Some (Leave t.session) } else teardowns_so_far items n (k + 2) ts in IsFew n k (suc (length ts)) w)
  by true over next e f one two = record { due = λ o h. let le : n ≤ k = grind arith in omega (arith, le); orders = omega arith }
  by false true next e f one two = record { due = λ o h. omega (arith, one.due o h); orders = omega (arith, one.orders) }
  by false false true e f one two = record { due = λ o h. let le : n ≤ k + 1 = grind arith in omega (arith, le); orders = omega arith }
  by false false false e f one two = record { due = λ o h. omega (arith, two.due o h); orders = omega (arith, two.orders) }

due_is : (e d : ℕ) → Due e ≡ Due d → e ≡ d
due_is e d h = cc

whole_is : (e : ℕ) → Due e ≡ Whole → ⊥
whole_is e h = cc

due_valid : (e : ℕ) (s : RunState) → s ≡ Due e → s ≢ Invalid
due_valid e s h k = never (sym h ∙ k) where
  never : Due e ≡ Invalid → ⊥
  never f = cc

module _ (l : Launches) (entries : List EntryTree) (items : List HistItem) where
  few_steps : (e : ℕ) (o : Order) → o ≢ Stop → option_map_or launch (slice_get l.steps e) Stop ≡ o → e < length l.steps
  few_steps e o go h = by (slice_get l.steps e) refl h where
    by : (p : Option PlannedLaunch) → slice_get l.steps e ≡ p → option_map_or launch p Stop ≡ o → e < length l.steps
    by None is f = absurd (go (sym f))
    by (Some t) is f = slice_get_within l.steps e t is

  few_last : (left : ℕ) (o : Order) → o ≢ Stop → unwrap_or (teardowns_so_far items (orders items) left l.last).due Stop ≡ o → orders items < left + (length l.last + length l.last)
  few_last left o go h = by (teardowns_so_far items (orders items) left l.last).due refl h where
    by : (p : Option Order) → (teardowns_so_far items (orders items) left l.last).due ≡ p → unwrap_or p Stop ≡ o → orders items < left + (length l.last + length l.last)
    by None is f = absurd (go (sym f))
    by (Some x) is f = (few_teardowns items (orders items) left l.last).due x is

  few_behind : (o : Order) → o ≢ Stop → due_entry l items (orders items) Whole ≡ o → orders items < most_orders l
  few_behind o go h = by (teardowns_so_far items (orders items) (length l.setups + length l.steps) l.teardowns).due refl h where
    few : IsFew (orders items) (length l.setups + length l.steps) (length l.teardowns) (teardowns_so_far items (orders items) (length l.setups + length l.steps) l.teardowns)
    few = few_teardowns items (orders items) (length l.setups + length l.steps) l.teardowns

    leaves : (b : Bool) → nat_lt (orders items) ((teardowns_so_far items (orders items) (length l.setups + length l.steps) l.teardowns).orders + l.sessions) ≡ b
        → (let left = (teardowns_so_far items (orders items) (length l.setups + length l.steps) l.teardowns).orders + l.sessions in
        let p : Order = if b then Leave (orders items - (teardowns_so_far items (orders items) (length l.setups + length l.steps) l.teardowns).orders + 1) else unwrap_or (teardowns_so_far items (orders items) left l.last).due Stop in p ≡ o)
        → orders items < most_orders l
    leaves true e f = omega (arith, ltb-true _ _ e, few.orders)
    leaves false e f = omega (arith, few.orders, few_last ((teardowns_so_far items (orders items) (length l.setups + length l.steps) l.teardowns).orders + l.sessions) o go f)

    by : (p : Option Order) → (teardowns_so_far items (orders items) (length l.setups + length l.steps) l.teardowns).due ≡ p
        → (let v = teardowns_so_far items (orders items) (length l.setups + length l.steps) l.teardowns in
        unwrap_or p (if nat_lt (orders items) (v.orders + l.sessions) then Leave (orders items - v.orders + 1) else unwrap_or (teardowns_so_far items (orders items) (v.orders + l.sessions) l.last).due Stop) ≡ o)
        → orders items < most_orders l
    by None is f = leaves (nat_lt (orders items) ((teardowns_so_far items (orders items) (length l.setups + length l.steps) l.teardowns).orders + l.sessions)) refl f
    by (Some x) is f = omega (arith, few.due x is)

  few_entries : (s : RunState) (o : Order) → o ≢ Stop → length l.setups ≤ orders items → (walked (run_of l entries items) (orders items - length l.setups)).state ≡ s → due_entry l items (orders items) s ≡ o
      → orders items < most_orders l
  few_entries Invalid o go le is h = absurd (go (sym h))
  few_entries Whole o go le is h = few_behind o go h
  few_entries (Due e) o go le is h = by (state_at (run_of l entries items) (orders items - length l.setups) (due_valid e _ is)) where
    few : e < length l.steps
    few = few_steps e o go h

    by : IsStateAt (walked (run_of l entries items) (orders items - length l.setups)).state (orders items - length l.setups) (length entries) → orders items < most_orders l
    by (inl at) = let same = due_is e (orders items - length l.setups) (sym is ∙ at.1) in omega (arith, same, few, le)
    by (inr at) = absurd (whole_is e (sym is ∙ at.1))

  -- where something is due there are fewer than so many
  pub due_few : (o : Order) → o ≢ Stop → due_after l entries items ≡ o → orders items < most_orders l
  due_few o go h = by (due_setup items (orders items) 0 l.setups) refl h where
    by : (p : Option Order) → due_setup items (orders items) 0 l.setups ≡ p
        → unwrap_or p (due_entry l items (orders items) (walked (run_of l entries items) (orders items - length l.setups)).state) ≡ o → orders items < most_orders l
    by None is f =
        let many = setup_none items (orders items) 0 l.setups (omega arith) is in
        few_entries (walked (run_of l entries items) (orders items - length l.setups)).state o go (omega (arith, many)) refl f
    by (Some x) is f = let few = setup_few items (orders items) 0 l.setups o go (is ∙ ap Some f) in omega (arith, few)

-- ---- how many steps there are

of_block : (blocks : Blocks) (k : ℕ) → length (stmts_of blocks k) ≤ sum_by length blocks
of_block [] k = omega arith
of_block (b ∷ bs) zero = let all = sum_by-cons length b bs in omega (arith, all)
of_block (b ∷ bs) (suc k) = let all = sum_by-cons length b bs in let rest = of_block bs k in omega (arith, all, rest)

of_session : (blocks : Blocks) (s : Session) → left_of blocks s ≤ sum_by length blocks
of_session blocks s = by s.place where
  by : (o : Option Place) → left_from blocks o ≤ sum_by length blocks
  by None = omega arith
  by (Some place) = let most = of_block blocks place.block in omega (arith, most)

each_same : (ss : List Session) (c : ℕ) → sum_by (λ (s : Session). c) ss ≡ length ss * c
each_same [] c = omega arith
each_same (s ∷ ss) c = let all = sum_by-cons (λ (t : Session). c) s ss in let rest = each_same ss c in all ∙ omega (arith, rest)

steps_few : (blocks : Blocks) (sessions : ℕ) (m : Machine) → length m.sessions ≡ sessions → steps_left blocks sessions m < most_steps blocks sessions
steps_few blocks sessions m long =
    let some : statements_left blocks m ≤ sum_by (λ (s : Session). sum_by length blocks) m.sessions = sum_less (left_of blocks) (λ (s : Session). sum_by length blocks) m.sessions (of_session blocks) in
    let all : sum_by (λ (s : Session). sum_by length blocks) m.sessions ≡ sessions * sum_by length blocks = each_same m.sessions (sum_by length blocks) ∙ ap (λ n. n * sum_by length blocks) long in
    let can : able m ≤ length m.sessions = count_most (can_step m.db) m.sessions in
    mul-add-lt (statements_left blocks m) (sessions + 1) (able m) (sessions * sum_by length blocks + 1) (omega (arith, some, all)) (omega (arith, can, long))

-- a step comes nearer to rest
step_fewer : (blocks : Blocks) (sessions : ℕ) (m after : Machine) → length after.sessions ≡ sessions → IsNearerRest blocks m after → steps_left blocks sessions after < steps_left blocks sessions m
step_fewer blocks sessions m after long (inl less) =
    let can : able after ≤ length after.sessions = count_most (can_step after.db) after.sessions in
    let a = mul-add-lt (statements_left blocks after) (sessions + 1) (able after) (statements_left blocks m) less (omega (arith, can, long)) in
    let b = mul_comm (sessions + 1) (statements_left blocks m) in
    omega (arith, a, b)
step_fewer blocks sessions m after long (inr same) =
    let a : statements_left blocks after * (sessions + 1) ≡ statements_left blocks m * (sessions + 1) = ap (λ n. n * (sessions + 1)) same.0 in
    omega (arith, a, same.1)

-- an order takes one of the orders that are left, and fewer steps follow than it has room for
order_fewer : (most o room before after : ℕ) → o < most → after < room → (most - (o + 1)) * room + after < (most - o) * room + before
order_fewer most o room before after less few =
    let k = most - (o + 1) in
    let next : most - o ≡ k + 1 = omega (arith, less) in
    let a = mul-add-lt k room after (k + 1) (omega arith) few in
    let b = mul_comm room (k + 1) in
    let c : (most - o) * room ≡ (k + 1) * room = ap (λ n. n * room) next in
    omega (arith, a, b, c)

launch_stop : (s b : ℕ) → Launch s b ≢ Stop
launch_stop s b h = cc

leave_stop : (s : ℕ) → Leave s ≢ Stop
leave_stop s h = cc

by_event : RestIsReached → (l : Launches) (entries : List EntryTree) (blocks : Blocks) (mode : Mode) (count : ℕ) (items : List HistItem) (m : Machine) (event : Event) (n : Next)
    → Run blocks mode (opening count) items m → next blocks mode m event ≡ Ok n → length n.machine.sessions ≡ count + 1 → IfSome (order_of event) (λ order. due_after l entries items ≡ order)
    → events_left l blocks count (items ++ record { event = event; reply = n.reply } ∷ []) n.machine < events_left l blocks count items m
by_event law l entries blocks mode count items m (events.Step k) n run taken long due =
    let item : HistItem = record { event = events.Step k; reply = n.reply } in
    let nearer = step_fewer blocks (count + 1) m n.machine long (law.nearer blocks mode count m (items, run) k n taken) in
    let same : orders (items ++ item ∷ []) ≡ orders items = omega (arith, orders_append items (item ∷ []), orders_no item [] refl) in
    let all : (most_orders l - orders (items ++ item ∷ [])) * most_steps blocks (count + 1) ≡ (most_orders l - orders items) * most_steps blocks (count + 1) =
    ap (λ o. (most_orders l - o) * most_steps blocks (count + 1)) same in
    omega (arith, nearer, all)
by_event law l entries blocks mode count items m (events.Launch s b) n run taken long due =
    let item : HistItem = record { event = events.Launch s b; reply = n.reply } in
    let one : orders (items ++ item ∷ []) ≡ orders items + 1 = omega (arith, orders_append items (item ∷ []), orders_one item [] refl) in
    subst (λ o. (most_orders l - o) * most_steps blocks (count + 1) + steps_left blocks (count + 1) n.machine < events_left l blocks count items m) (sym one)
    (order_fewer (most_orders l) (orders items) (most_steps blocks (count + 1)) (steps_left blocks (count + 1) m) (steps_left blocks (count + 1) n.machine)
    (due_few l entries items (Launch s b) (launch_stop s b) due) (steps_few blocks (count + 1) n.machine long))
by_event law l entries blocks mode count items m (events.Leave s) n run taken long due =
    let item : HistItem = record { event = events.Leave s; reply = n.reply } in
    let one : orders (items ++ item ∷ []) ≡ orders items + 1 = omega (arith, orders_append items (item ∷ []), orders_one item [] refl) in
    subst (λ o. (most_orders l - o) * most_steps blocks (count + 1) + steps_left blocks (count + 1) n.machine < events_left l blocks count items m) (sym one)
    (order_fewer (most_orders l) (orders items) (most_steps blocks (count + 1)) (steps_left blocks (count + 1) m) (steps_left blocks (count + 1) n.machine)
    (due_few l entries items (Leave s) (leave_stop s) due) (steps_few blocks (count + 1) n.machine long))

pub events_are_fewer : RestIsReached → EventsAreFewer
events_are_fewer law l entries blocks mode count items m event n run taken due =
    let item : HistItem = record { event = event; reply = n.reply } in
    let ran = run_append blocks mode items (item ∷ []) (opening count) m n.machine run (n.machine, taken, refl) in
    by_event law l entries blocks mode count items m event n run taken (all_there blocks mode count (items ++ item ∷ []) n.machine ran) due

-- As long as all goes well the next of the orders is due.
use Rattle.std.proofs.Common.{◌≡◌, ◌≢◌, ℕ, zero, suc, ◌==◌, ◌+◌, ◌-◌, ◌<◌, ◌≤◌, ◌⊎◌, Bool, true, false, nat_lt, List, [], ◌∷◌, ◌++◌, length, map, refl, sym, ap, subst, ◌∙◌, arith, inl, inr}
use Rattle.std.specs.Prelude.{nat_le, Option, Some, None, unwrap_or, slice_get, if◌then◌else◌}
use Rattle.std.specs.Option.{option_map_or}
use Rattle.std.proofs.lemmas.Bool.{cases_lt, ltb-true, ltb-false, lt-ltb, le-ltb}
use Rattle.session_machine.specs.declared.event.Order.{Order}
use Rattle.session_machine.specs.declared.event.Order.TheVariants.{Leave, Stop}
use Rattle.session_machine.specs.declared.reply.HistItem.{HistItem}
use Rattle.spec_parser.specs.Trees.{EntryTree, SpecTree}
use Rattle.report_lines.specs.declared.history.Line.{Line}
use Rattle.report_lines.specs.declared.history.PlannedLaunch.{PlannedLaunch}
use Rattle.report_lines.specs.declared.history.TeardownsSoFar.{TeardownsSoFar}
use Rattle.report_lines.specs.declared.history.RunState.{RunState}
use Rattle.report_lines.specs.declared.history.RunState.TheVariants.{Due, Whole, Invalid}
use Rattle.report_lines.specs.History.{PermutationRun}
use Rattle.report_lines.specs.Report.{Report, moment_of, active}
use Rattle.report_lines.specs.Code.Walk.{all_polls, has_unreported, before_launch, after_launch, walked_from, walked}
use Rattle.report_lines.specs.Due.{Launches, Planned, orders, went_well, is_over, launch, due_setup, teardowns_so_far, due_entry, due}
use Rattle.report_lines.specs.Inner.Due.{due_last}
use Rattle.permutation_plans.specs.Launches.{launches, launch_of_entry, due_in}
use Rattle.report_lines.proofs.Same.{report_is}
use Rattle.permutation_plans.specs.Whole.{planned, leaves, order_at, AreWell, AreOver, GoesWell, whole_orders}

first : {A : Type 0} (b w : Bool) (a x c : A) → b ≡ true → (if b then a else (if w then x else c)) ≡ a
first true w a x c h = refl
first false w a x c h = cc

second : {A : Type 0} (b w : Bool) (a x c : A) → b ≡ false → w ≡ true → (if b then a else (if w then x else c)) ≡ x
second true w a x c h k = cc
second false true a x c h k = refl
second false false a x c h k = cc

-- ---- one list of orders behind another

pub else_same : (o : Option Order) (x y : Order) → (o ≡ None → x ≡ y) → unwrap_or o x ≡ unwrap_or o y
else_same None x y h = h refl
else_same (Some o) x y h = refl

pub at_append : (xs ys : List Order) (j : ℕ) → order_at (xs ++ ys) j ≡ unwrap_or (slice_get xs j) (order_at ys (j - length xs))
at_append [] ys j = let e : j ≡ j - 0 = omega arith in ap (order_at ys) e
at_append (x ∷ xs) ys zero = refl
at_append (x ∷ xs) ys (suc j) =
    let e : j - length xs ≡ suc j - suc (length xs) = omega arith in
    at_append xs ys j ∙ ap (λ n. unwrap_or (slice_get xs j) (order_at ys n)) e

pub length_launches : (ts : List PlannedLaunch) → length (map launch ts) ≡ length ts
length_launches [] = refl
length_launches (t ∷ ts) = ap suc (length_launches ts)

pub beyond : (ts : List PlannedLaunch) (j : ℕ) → slice_get (map launch ts) j ≡ None → length ts ≤ j
beyond [] j h = omega arith
beyond (t ∷ ts) zero h = cc
beyond (t ∷ ts) (suc j) h = let less = beyond ts j h in omega arith

pub past : (ts : List PlannedLaunch) (j : ℕ) → length ts ≤ j → slice_get (map launch ts) j ≡ None
past [] j h = refl
past (t ∷ ts) zero h = absurd (omega arith)
past (t ∷ ts) (suc j) h = past ts j (omega arith)

pub launch_at : (ts : List PlannedLaunch) (j : ℕ) (more : Order) → j < length ts → option_map_or launch (slice_get ts j) Stop ≡ unwrap_or (slice_get (map launch ts) j) more
launch_at [] j more h = absurd (omega arith)
launch_at (t ∷ ts) zero more h = refl
launch_at (t ∷ ts) (suc j) more h = launch_at ts j more (omega arith)

-- ---- setups

setup_case : (items : List HistItem) (count k : ℕ) (t : PlannedLaunch) (ts : List PlannedLaunch) → k ≤ count → (k < count → went_well items k t.session ≡ true)
    → (k < count → due_setup items count (k + 1) ts ≡ slice_get (map launch ts) (count - (k + 1))) → (k < count) ⊎ (count ≤ k)
    → due_setup items count k (t ∷ ts) ≡ slice_get (map launch (t ∷ ts)) (count - k)
setup_case items count k t ts le well rest (inl lt) =
    let behind_it : nat_le count k ≡ false = grind arith in
    let next : count - k ≡ suc (count - (k + 1)) = omega arith in
    second (nat_le count k) (went_well items k t.session) (Some (launch t)) (due_setup items count (k + 1) ts) (Some Stop) behind_it (well lt)
    ∙ rest lt ∙ sym (ap (slice_get (map launch (t ∷ ts))) next)
setup_case items count k t ts le well rest (inr ge) =
    let reaches : nat_le count k ≡ true = grind arith in
    let none : count - k ≡ 0 = omega arith in
    first (nat_le count k) (went_well items k t.session) (Some (launch t)) (due_setup items count (k + 1) ts) (Some Stop) reaches
    ∙ sym (ap (slice_get (map launch (t ∷ ts))) none)

setups_due : (items : List HistItem) (count k : ℕ) (ts : List PlannedLaunch) → k ≤ count → AreWell items count k ts → due_setup items count k ts ≡ slice_get (map launch ts) (count - k)
setups_due items count k [] le well = refl
setups_due items count k (t ∷ ts) le well =
    setup_case items count k t ts le well.0 (λ lt. setups_due items count (k + 1) ts (omega arith) well.1) (cases_lt k count)

-- ---- teardowns

teardown_case : (items : List HistItem) (count k : ℕ) (t : PlannedLaunch) (ts : List PlannedLaunch) → k ≤ count → (k < count → is_over items k t.session ≡ true)
    → (k < count → (teardowns_so_far items count (k + 1) ts).due ≡ slice_get (map launch ts) (count - (k + 1))) → (k < count) ⊎ (count ≤ k)
    → (teardowns_so_far items count k (t ∷ ts)).due ≡ slice_get (map launch (t ∷ ts)) (count - k)
teardown_case items count k t ts le over rest (inl lt) =
    let behind_it : nat_le count k ≡ false = grind arith in
    let next : count - k ≡ suc (count - (k + 1)) = omega arith in
    ap (λ (w : TeardownsSoFar). w.due) (second (nat_le count k) (is_over items k t.session) (record { orders = k; due = Some (launch t) }) (teardowns_so_far items count (k + 1) ts) (if nat_le count (k + 1) then record { orders = k; due = Some (Leave t.session) } else teardowns_so_far items count (k + 2) ts) behind_it (over lt))
    ∙ rest lt ∙ sym (ap (slice_get (map launch (t ∷ ts))) next)
teardown_case items count k t ts le over rest (inr ge) =
    let reaches : nat_le count k ≡ true = grind arith in
    let none : count - k ≡ 0 = omega arith in
    ap (λ (w : TeardownsSoFar). w.due) (first (nat_le count k) (is_over items k t.session) (record { orders = k; due = Some (launch t) }) (teardowns_so_far items count (k + 1) ts) (if nat_le count (k + 1) then record { orders = k; due = Some (Leave t.session) } else teardowns_so_far items count (k + 2) ts) reaches)
    ∙ sym (ap (slice_get (map launch (t ∷ ts))) none)

teardowns_due : (items : List HistItem) (count k : ℕ) (ts : List PlannedLaunch) → k ≤ count → AreOver items count k ts → (teardowns_so_far items count k ts).due ≡ slice_get (map launch ts) (count - k)
teardowns_due items count k [] le over = refl
teardowns_due items count k (t ∷ ts) le over =
    teardown_case items count k t ts le over.0 (λ lt. teardowns_due items count (k + 1) ts (omega arith) over.1) (cases_lt k count)

teardown_orders : (items : List HistItem) (count k : ℕ) (ts : List PlannedLaunch) → k + length ts ≤ count → AreOver items count k ts → (teardowns_so_far items count k ts).orders ≡ k + length ts
teardown_orders items count k [] le over = omega arith
teardown_orders items count k (t ∷ ts) le over =
    let lt : k < count = omega arith in
    let behind_it : nat_le count k ≡ false = grind arith in
    let sum : (k + 1) + length ts ≡ k + suc (length ts) = omega arith in
    ap (λ (w : TeardownsSoFar). w.orders) (second (nat_le count k) (is_over items k t.session) (record { orders = k; due = Some (launch t) }) (teardowns_so_far items count (k + 1) ts) (if nat_le count (k + 1) then record { orders = k; due = Some (Leave t.session) } else teardowns_so_far items count (k + 2) ts) behind_it (over.0 lt))
    ∙ teardown_orders items count (k + 1) ts (omega arith) over.1 ∙ sum

-- ---- leaves

leaves_in : (a n j : ℕ) → j < n → slice_get (leaves a n) j ≡ Some (Leave (a + j))
leaves_in a zero j h = absurd (omega arith)
leaves_in a (suc n) zero h = let e : a ≡ a + 0 = omega arith in ap (λ k. Some (Leave k)) e
leaves_in a (suc n) (suc j) h = let e : (a + 1) + j ≡ a + suc j = omega arith in leaves_in (a + 1) n j (omega arith) ∙ ap (λ k. Some (Leave k)) e

leaves_past : (a n j : ℕ) → n ≤ j → slice_get (leaves a n) j ≡ None
leaves_past a zero j h = refl
leaves_past a (suc n) zero h = absurd (omega arith)
leaves_past a (suc n) (suc j) h = leaves_past (a + 1) n j (omega arith)

length_leaves : (a n : ℕ) → length (leaves a n) ≡ n
length_leaves a zero = refl
length_leaves a (suc n) = ap suc (length_leaves (a + 1) n)

-- ---- the leaves and the last teardown

last_case : (items : List HistItem) (count k sessions : ℕ) (last : List PlannedLaunch) → k ≤ count → AreOver items count (k + sessions) last → (count < k + sessions) ⊎ (k + sessions ≤ count)
    → (if nat_lt count (k + sessions) then Leave (count - k + 1) else unwrap_or (teardowns_so_far items count (k + sessions) last).due Stop) ≡ order_at (leaves 1 sessions ++ map launch last) (count - k)
last_case items count k sessions last le over (inl lt) =
    let reaches : nat_lt count (k + sessions) ≡ true = lt-ltb count (k + sessions) lt in
    let found : slice_get (leaves 1 sessions) (count - k) ≡ Some (Leave (1 + (count - k))) = leaves_in 1 sessions (count - k) (omega arith) in
    let same : count - k + 1 ≡ 1 + (count - k) = omega arith in
    ap (λ b. if b then Leave (count - k + 1) else unwrap_or (teardowns_so_far items count (k + sessions) last).due Stop) reaches
    ∙ ap (λ n. Leave n) same
    ∙ sym (at_append (leaves 1 sessions) (map launch last) (count - k) ∙ ap (λ o. unwrap_or o (order_at (map launch last) (count - k - length (leaves 1 sessions)))) found)
last_case items count k sessions last le over (inr ge) =
    let behind_it : nat_lt count (k + sessions) ≡ false = le-ltb count (k + sessions) ge in
    let gone : slice_get (leaves 1 sessions) (count - k) ≡ None = leaves_past 1 sessions (count - k) (omega arith) in
    let place : count - (k + sessions) ≡ count - k - length (leaves 1 sessions) = omega (arith, length_leaves 1 sessions) in
    ap (λ b. if b then Leave (count - k + 1) else unwrap_or (teardowns_so_far items count (k + sessions) last).due Stop) behind_it
    ∙ ap (λ o. unwrap_or o Stop) (teardowns_due items count (k + sessions) last ge over)
    ∙ ap (order_at (map launch last)) place
    ∙ sym (at_append (leaves 1 sessions) (map launch last) (count - k) ∙ ap (λ o. unwrap_or o (order_at (map launch last) (count - k - length (leaves 1 sessions)))) gone)

-- ---- the teardowns, the leaves and the last teardown

behind_case : (l : Launches) (items : List HistItem) (count k : ℕ) → k ≤ count → AreOver items count k l.teardowns → AreOver items count (k + length l.teardowns + l.sessions) l.last
    → due_last l items count (teardowns_so_far items count k l.teardowns) ≡ order_at (map launch l.teardowns ++ (leaves 1 l.sessions ++ map launch l.last)) (count - k)
behind_case l items count k le over last =
    let after = teardowns_so_far items count k l.teardowns in
    let rest = leaves 1 l.sessions ++ map launch l.last in
    let last_order : ℕ → Order = λ n. if nat_lt count (n + l.sessions) then Leave (count - n + 1) else unwrap_or (teardowns_so_far items count (n + l.sessions) l.last).due Stop in
    let place : count - (k + length l.teardowns) ≡ count - k - length (map launch l.teardowns) = omega (arith, length_launches l.teardowns) in
    ap (λ o. unwrap_or o (last_order after.orders)) (teardowns_due items count k l.teardowns le over)
    ∙ else_same (slice_get (map launch l.teardowns) (count - k)) (last_order after.orders) (order_at rest (count - k - length (map launch l.teardowns)))
    (λ none.
    let many = beyond l.teardowns (count - k) none in
    let there_all : k + length l.teardowns ≤ count = omega arith in
    ap last_order (teardown_orders items count k l.teardowns there_all over)
    ∙ last_case items count (k + length l.teardowns) l.sessions l.last there_all last (cases_lt count (k + length l.teardowns + l.sessions))
    ∙ ap (order_at rest) place)
    ∙ sym (at_append (map launch l.teardowns) rest (count - k))

-- ---- where the report stands

abbrev pub IsStateAt : RunState → ℕ → ℕ → Type 0
IsStateAt state count n = ((count < n) × (state ≡ Due count)) ⊎ ((n ≤ count) × (state ≡ Whole))

end_state : (b : Bool) → (if b then Whole else Invalid) ≢ Invalid → (if b then Whole else Invalid) ≡ Whole
end_state true h = refl
end_state false h = absurd (h refl)

entry_state : (e count n : ℕ) (busy present : Bool) (way : List Line) (next : Report) → e ≤ count → e < n → (present ≡ true → e < count) → (present ≡ false → count ≤ e)
    → (e < count → next.state ≢ Invalid → IsStateAt next.state count n)
    → (if busy then record { lines = way; state = Invalid } else (if present then next else record { lines = way; state = Due e })).state ≢ Invalid
    → IsStateAt (if busy then record { lines = way; state = Invalid } else (if present then next else record { lines = way; state = Due e })).state count n
entry_state e count n true present way next le lt before_it behind_it rest h = absurd (h refl)
entry_state e count n false true way next le lt before_it behind_it rest h = rest (before_it refl) h
entry_state e count n false false way next le lt before_it behind_it rest h =
    let few = behind_it refl in
    let same : e ≡ count = omega arith in
    let less : count < n = omega arith in
    inl (less, ap Due same)

state_from : (c : PermutationRun) (count n rest e : ℕ) (lines : List Line) → e ≤ count → e + rest ≡ n → (walked_from c e rest count lines).state ≢ Invalid → IsStateAt (walked_from c e rest count lines).state count n
state_from c count n zero e lines le all h =
    let many : n ≤ count = omega arith in
    inr (many, end_state (length (active (all_polls c (moment_of c e e) lines) e) == 0) h)
state_from c count n (suc rest) e lines le all h =
    let way = before_launch c lines e in
    let less : e < n = omega arith in
    entry_state e count n (has_unreported c way e) (nat_lt e count) way (walked_from c (e + 1) rest count (after_launch c way e)) le less (ltb-true e count) (ltb-false e count)
    (λ lt valid. state_from c count n rest (e + 1) (after_launch c way e) (omega arith) (omega arith) valid) h

pub state_at : (c : PermutationRun) (count : ℕ) → (walked c count).state ≢ Invalid → IsStateAt (walked c count).state count (length c.entries)
state_at c count h = state_from c count (length c.entries) (length c.entries) 0 [] (omega arith) (omega arith) h

-- ---- the entries, and what comes behind them

entry_due : (l : Launches) (items : List HistItem) (count k : ℕ) (state : RunState) → k ≡ length l.setups → k ≤ count → IsStateAt state (count - k) (length l.steps)
    → AreOver items count (length l.setups + length l.steps) l.teardowns → AreOver items count (length l.setups + length l.steps + length l.teardowns + l.sessions) l.last
    → due_entry l items count state ≡ order_at (map launch l.steps ++ (map launch l.teardowns ++ (leaves 1 l.sessions ++ map launch l.last))) (count - k)
entry_due l items count k state counted le (inl at) over last =
    let rest = map launch l.teardowns ++ (leaves 1 l.sessions ++ map launch l.last) in
    ap (due_entry l items count) at.1
    ∙ launch_at l.steps (count - k) (order_at rest (count - k - length (map launch l.steps))) at.0
    ∙ sym (at_append (map launch l.steps) rest (count - k))
entry_due l items count k state counted le (inr at) over last =
    let rest = map launch l.teardowns ++ (leaves 1 l.sessions ++ map launch l.last) in
    let many = at.0 in
    let all : length l.setups + length l.steps ≤ count = omega arith in
    let place : count - (length l.setups + length l.steps) ≡ count - k - length (map launch l.steps) = omega (arith, length_launches l.steps) in
    ap (due_entry l items count) at.1
    ∙ behind_case l items count (length l.setups + length l.steps) all over last
    ∙ ap (order_at rest) place
    ∙ ap (λ o. unwrap_or o (order_at rest (count - k - length (map launch l.steps)))) (sym (past l.steps (count - k) many))
    ∙ sym (at_append (map launch l.steps) rest (count - k))

whole_due : (p : Planned) → length p.launches.steps ≡ length p.run.entries → GoesWell p
    → due p.launches p.run (orders p.run.items) ≡ order_at (map launch p.launches.setups ++ (map launch p.launches.steps ++ (map launch p.launches.teardowns ++ (leaves 1 p.launches.sessions ++ map launch p.launches.last)))) (orders p.run.items)
whole_due p same well =
    let l = p.launches in
    let items = p.run.items in
    let count = orders items in
    let state = (walked p.run (count - length l.setups)).state in
    let rest = map launch l.steps ++ (map launch l.teardowns ++ (leaves 1 l.sessions ++ map launch l.last)) in
    let zero_place : count - 0 ≡ count = omega arith in
    let place : count - length l.setups ≡ count - length (map launch l.setups) = omega (arith, length_launches l.setups) in
    ap (λ o. unwrap_or o (due_entry l items count state)) (setups_due items count 0 l.setups (omega arith) well.setups ∙ ap (slice_get (map launch l.setups)) zero_place)
    ∙ else_same (slice_get (map launch l.setups) count) (due_entry l items count state) (order_at rest (count - length (map launch l.setups)))
    (λ none.
    let many = beyond l.setups count none in
    entry_due l items count (length l.setups) state refl many (subst (IsStateAt state (count - length l.setups)) (sym same) (state_at p.run (count - length l.setups) (λ e. well.entries (ap (λ (r : Report). r.state) (report_is p.run (count - length l.setups)) ∙ e)))) well.teardowns well.last
    ∙ ap (order_at rest) place)
    ∙ sym (at_append (map launch l.setups) rest count)

pub length_tasks : (spec : SpecTree) (entries : List EntryTree) → length (map (launch_of_entry spec) entries) ≡ length entries
length_tasks spec [] = refl
length_tasks spec (e ∷ es) = ap suc (length_tasks spec es)

pub next_is_due : (spec : SpecTree) (entries : List EntryTree) (items : List HistItem) → GoesWell (planned spec entries items)
    → due_in spec entries items ≡ order_at (whole_orders (launches spec entries)) (orders items)
next_is_due spec entries items well = whole_due (planned spec entries items) (length_tasks spec entries) well

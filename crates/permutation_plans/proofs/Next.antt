-- The next order is the one that is due.
use Rattle.std.proofs.Common.{◌≡◌, ◌≢◌, ◌↔◌, ℕ, zero, suc, ◌+◌, ◌-◌, ◌<◌, ◌≤◌, ◌⊎◌, inl, inr, Bool, true, false, nat_lt, List, [], ◌∷◌, ◌++◌, length, map, refl, sym, ap, ap₂, subst, ◌∙◌, arith, append_assoc, append-nil, length-append}
use Rattle.std.specs.Prelude.{nat_le, Option, Some, None, unwrap_or, slice_get, option_to_list, flat_map, IfSome, IsTrue, if◌then◌else◌}
use Rattle.std.proofs.Math.Path.{fun_ext}
use Rattle.std.specs.List.{range_with_len}
use Rattle.std.proofs.lemmas.Bool.{cases_lt}
use Rattle.std.proofs.lemmas.List.{length-map}
use Rattle.session_machine.specs.declared.event.Event.{Event}
use Rattle.session_machine.specs.declared.event.Event.TheVariants as events
use Rattle.session_machine.specs.declared.event.Mode.TheVariants.{Directed}
use Rattle.session_machine.specs.declared.event.Order.{Order}
use Rattle.session_machine.specs.declared.event.Order.TheVariants.{Leave, Stop}
use Rattle.session_machine.specs.Machine.{Machine, Blocks, opening, is_quiet, Run}
use Rattle.session_machine.specs.declared.reply.HistItem.{HistItem}
use Rattle.session_machine.specs.declared.reply.Outcome.{Outcome}
use Rattle.session_machine.specs.declared.reply.Outcome.TheVariants.{Failed}
use Rattle.spec_parser.specs.Trees.{EntryTree, SessionTree, SpecTree}
use Rattle.report_lines.specs.declared.history.PlannedLaunch.{PlannedLaunch}
use Rattle.report_lines.specs.declared.history.TeardownsSoFar.{TeardownsSoFar}
use Rattle.report_lines.specs.declared.history.RunState.{RunState}
use Rattle.report_lines.specs.declared.history.RunState.TheVariants.{Due, Whole, Invalid}
use Rattle.report_lines.specs.History.{PermutationRun}
use Rattle.report_lines.specs.Report.{Report, report as told}
use Rattle.report_lines.specs.Code.Walk.{walked}
use Rattle.report_lines.specs.Starts.{order_of}
use Rattle.report_lines.specs.Due.{Launches, segment, went_well, is_over, orders, launch, due_setup, teardowns_so_far, due_entry, due}
use Rattle.report_lines.specs.Inner.Due.{due_last}
use Rattle.report_lines.specs.Orders.{launch_in, own_launches, launch_of_entry, closing_of, with_leaves, orders_of}
use Rattle.report_lines.proofs.Reports.{report_none, report_some}
use Rattle.report_lines.proofs.Same.{report_is}
use Rattle.report_text.specs.Replies.{last_outcome}
use Rattle.report_text.specs.LineText.{line_text}
use Rattle.report_text.specs.Said.{Ending, whole, invalid, setup_failed, setup_waits, too_many, Said, says, only_ends, ◌>>◌}
use Rattle.report_text.specs.Code.Turns.{is_whole, in_turn, setup_numbers, teardown_numbers, setup_ending, setup_turn, teardown_turn, state_says, permutation_in_turn}
use Rattle.report_text.proofs.Saying.{after_whole, at_end, permutation_run}
use Rattle.report_text.proofs.Ordered.{session_in, setups_launch, setups_number, own_launch, parts_launch, permutation_turn}
use Rattle.permutation_plans.specs.Launches.{launches, run_of, due_in}
use Rattle.permutation_plans.specs.Launches as old
use Rattle.permutation_plans.specs.Code.Fits.{IsOrdered, FitsAfter, DueIsNextOrder}
use Rattle.permutation_plans.specs.Regular.{next_order, LaunchesFit, IsRegular}
use Rattle.permutation_plans.specs.Whole.{order_at, NextIsDue}
use Rattle.permutation_plans.proofs.Whole.{else_same, at_append, length_launches, beyond, past, launch_at, IsStateAt, state_at, length_tasks, next_is_due}

-- ---- setups

abbrev setups_say : List HistItem → ℕ → ℕ → List PlannedLaunch → Said
setups_say items n k ts = in_turn n k (map (setup_turn items) (map session_in ts))

-- one that is there did not go well, or all that are there did
abbrev Stand : List HistItem → ℕ → ℕ → List PlannedLaunch → Type 0
Stand items n k ts =
    ((due_setup items n k ts ≡ Some Stop) × (is_whole (setups_say items n k ts).ending ≡ false))
    ⊎ ((due_setup items n k ts ≡ slice_get (map launch ts) (n - k)) × ((setups_say items n k ts).ending ≡ whole))

stops_there : (o : Outcome) (rest : Said) → is_whole (only_ends (setup_ending o) >> rest).ending ≡ false
stops_there (Failed fault) rest = refl
stops_there o rest = refl

stand_case : (items : List HistItem) (n k : ℕ) (t : PlannedLaunch) (ts : List PlannedLaunch) (well : Bool) → went_well items k t.session ≡ well → nat_le n k ≡ false → n - k ≡ suc (n - (k + 1))
    → Stand items n (k + 1) ts → Stand items n k (t ∷ ts)
stand_case items n k t ts true well some more (inl p) = inl (rw (some, well) p.0, rw (some, well) p.1)
stand_case items n k t ts true well some more (inr p) = inr (rw (some, well, more) p.0, rw (some, well) p.1)
stand_case items n k t ts false well some more rest = inl (rw (some, well) refl, rw (some, well) (stops_there (last_outcome (segment items k)) (setups_say items n (k + 1) ts)))

stand_at : (items : List HistItem) (n k : ℕ) (t : PlannedLaunch) (ts : List PlannedLaunch) → Stand items n (k + 1) ts → (k < n) ⊎ (n ≤ k) → Stand items n k (t ∷ ts)
stand_at items n k t ts rest (inl lt) =
    let some : nat_le n k ≡ false = grind arith in
    let more : n - k ≡ suc (n - (k + 1)) = omega arith in
    stand_case items n k t ts (went_well items k t.session) refl some more rest
stand_at items n k t ts rest (inr le) =
    let gone : nat_le n k ≡ true = grind arith in
    let none : n - k ≡ 0 = omega arith in
    inr (rw (gone, none) refl, rw gone refl)

stand : (items : List HistItem) (n k : ℕ) (ts : List PlannedLaunch) → Stand items n k ts
stand items n k [] = inr (refl, refl)
stand items n k (t ∷ ts) = stand_at items n k t ts (stand items n (k + 1) ts) (cases_lt k n)

-- ---- teardowns end no report

whole_turn : (gone : Bool) (a rest : Said) → a.ending ≡ whole → rest.ending ≡ whole → (if gone then says [] else (a >> rest)).ending ≡ whole
whole_turn true a rest h k = refl
whole_turn false a rest h k = ap (λ (s : Said). s.ending) (after_whole a rest h) ∙ k

teardown_whole : (gone over : Bool) (a b : Said) (rest : ℕ → Said) (k : ℕ) → a.ending ≡ whole → b.ending ≡ whole → ((j : ℕ) → (rest j).ending ≡ whole)
    → (let p : Said × ℕ = if over then (a, 1) else (b, 2) in if gone then says [] else (p.0 >> rest (k + p.1))).ending ≡ whole
teardown_whole gone true a b rest k h i r = whole_turn gone a (rest (k + 1)) h (r (k + 1))
teardown_whole gone false a b rest k h i r = whole_turn gone b (rest (k + 2)) i (r (k + 2))

teardowns_whole : (sessions : List SessionTree) (items : List HistItem) (n k : ℕ) (ks : List (Option ℕ)) → (in_turn n k (map (teardown_turn sessions items) ks)).ending ≡ whole
teardowns_whole sessions items n k [] = refl
teardowns_whole sessions items n k (None ∷ ks) = whole_turn (nat_le n k) (says []) (in_turn n (k + 1) (map (teardown_turn sessions items) ks)) refl (teardowns_whole sessions items n (k + 1) ks)
teardowns_whole sessions items n k (Some s ∷ ks) =
    teardown_whole (nat_le n k) (is_over items k s) _ _ (λ j. in_turn n j (map (teardown_turn sessions items) ks)) k refl refl (λ j. teardowns_whole sessions items n j ks)

-- ---- how the report ends

abbrev order_by : Ending → Order → Order
order_by ending x = elim ending [ whole ↦ x | _ ↦ Stop ]

by_whole : (e : Ending) (x : Order) → e ≡ whole → order_by e x ≡ x
by_whole e x h = rw h refl

by_early : (e : Ending) (x : Order) → is_whole e ≡ false → order_by e x ≡ Stop
by_early whole x h = cc
by_early invalid x h = refl
by_early (setup_failed why) x h = refl
by_early setup_waits x h = refl
by_early too_many x h = refl

abbrev said_so : Said → RunState → List ℕ → Said → Said
said_so setups state lines teardowns = setups >> (says lines >> state_says state) >> teardowns

early_by : (setups teardowns : Said) (state : RunState) (lines : List ℕ) (x : Order) → is_whole setups.ending ≡ false → order_by (said_so setups state lines teardowns).ending x ≡ Stop
early_by setups teardowns state lines x h = ap (λ (s : Said). order_by s.ending x) (at_end setups ((says lines >> state_says state) >> teardowns) h) ∙ by_early setups.ending x h

behind_setups : (setups teardowns : Said) (state : RunState) (lines : List ℕ) → setups.ending ≡ whole → (said_so setups state lines teardowns).ending ≡ ((says lines >> state_says state) >> teardowns).ending
behind_setups setups teardowns state lines h = ap (λ (s : Said). s.ending) (after_whole setups ((says lines >> state_says state) >> teardowns) h)

-- ---- setups that are due come first

invalid_first : (c : PermutationRun) (n : ℕ) → length c.entries ≡ n → (walked c 0).state ≡ Invalid → ⊥
invalid_first c zero none h = whole_not (sym (ap (λ (r : Report). r.state) (report_none c none)) ∙ h)
  where
    whole_not : ◌≡◌ {A = RunState} Whole Invalid → ⊥
    whole_not e = cc
invalid_first c (suc n) some h = due_not (sym (ap (λ (r : Report). r.state) (report_some c n some)) ∙ h)
  where
    due_not : ◌≡◌ {A = RunState} (Due 0) Invalid → ⊥
    due_not e = cc

-- ---- teardowns, with a Leave behind each that waits

abbrev Waits : List HistItem → ℕ → ℕ → List PlannedLaunch → List Order → Type 0
Waits items n k ts rest =
    order_at (with_leaves items k (map launch ts ++ rest)) (n - k)
    ≡ unwrap_or (teardowns_so_far items n k ts).due (order_at (with_leaves items (teardowns_so_far items n k ts).orders rest) (n - (teardowns_so_far items n k ts).orders))

waits_case : (items : List HistItem) (n k : ℕ) (t : PlannedLaunch) (ts : List PlannedLaunch) (rest : List Order) (over : Bool) → is_over items k t.session ≡ over → nat_le n k ≡ false
    → n - k ≡ suc (n - (k + 1)) → Waits items n (k + 1) ts rest → Waits items n (k + 2) ts rest → (k + 1 < n) ⊎ (n ≤ k + 1) → Waits items n k (t ∷ ts) rest
waits_case items n k t ts rest true over some more one two at = rw (some, over, more) one
waits_case items n k t ts rest false over some more one two (inl lt) =
    let short : nat_le n (k + 1) ≡ false = grind arith in
    let next : n - (k + 1) ≡ suc (n - (k + 2)) = omega arith in
    rw (some, over, short, more, next) two
waits_case items n k t ts rest false over some more one two (inr le) =
    let gone : nat_le n (k + 1) ≡ true = grind arith in
    let none : n - (k + 1) ≡ 0 = omega arith in
    rw (some, over, gone, more, none) refl

waits_at : (items : List HistItem) (n k : ℕ) (t : PlannedLaunch) (ts : List PlannedLaunch) (rest : List Order) → ((j : ℕ) → Waits items n j ts rest) → (k < n) ⊎ (n ≤ k) → Waits items n k (t ∷ ts) rest
waits_at items n k t ts rest h (inl lt) =
    let some : nat_le n k ≡ false = grind arith in
    let more : n - k ≡ suc (n - (k + 1)) = omega arith in
    waits_case items n k t ts rest (is_over items k t.session) refl some more (h (k + 1)) (h (k + 2)) (cases_lt (k + 1) n)
waits_at items n k t ts rest h (inr le) =
    let gone : nat_le n k ≡ true = grind arith in
    let none : n - k ≡ 0 = omega arith in
    rw (gone, none) refl

waits : (items : List HistItem) (n k : ℕ) (ts : List PlannedLaunch) (rest : List Order) → Waits items n k ts rest
waits items n k [] rest = refl
waits items n k (t ∷ ts) rest = waits_at items n k t ts rest (λ j. waits items n j ts rest) (cases_lt k n)

some_none : {A : Type 0} (x : A) → (let o : Option A = Some x in let p : Option A = None in o ≡ p) → ⊥
some_none x h = cc

within_case : (n k : ℕ) (over gone : Bool) (b : Order) (one two : TeardownsSoFar) → nat_le n (k + 1) ≡ gone → (one.due ≡ None → one.orders ≤ n) → (k + 2 ≤ n → two.due ≡ None → two.orders ≤ n)
    → (let w : TeardownsSoFar = if over then one else if gone then record { orders = k; due = Some b } else two in w.due ≡ None → w.orders ≤ n)
within_case n k true gone b one two is h i e = h e
within_case n k false true b one two is h i e = absurd (some_none b e)
within_case n k false false b one two is h i e = let room : k + 2 ≤ n = grind arith in i room e

within_one : (n k : ℕ) (gone : Bool) (a : Order) (next : TeardownsSoFar) → (gone ≡ false → next.due ≡ None → next.orders ≤ n)
    → (let w : TeardownsSoFar = if gone then record { orders = k; due = Some a } else next in w.due ≡ None → w.orders ≤ n)
within_one n k true a next h e = absurd (some_none a e)
within_one n k false a next h e = h refl e

within : (items : List HistItem) (n k : ℕ) (ts : List PlannedLaunch) → k ≤ n → (teardowns_so_far items n k ts).due ≡ None → (teardowns_so_far items n k ts).orders ≤ n
within items n k [] le e = le
within items n k (t ∷ ts) le e =
    within_one n k (nat_le n k) (launch t) _
    (λ some. let less : k + 1 ≤ n = grind arith in
    within_case n k (is_over items k t.session) (nat_le n (k + 1)) (Leave t.session) (teardowns_so_far items n (k + 1) ts) (teardowns_so_far items n (k + 2) ts) refl
    (within items n (k + 1) ts less) (λ room. within items n (k + 2) ts room)) e

-- ---- leaves

leaves_case : (items : List HistItem) (n k a m : ℕ) (rest : List Order) → k ≤ n
    → (k + 1 ≤ n → order_at (with_leaves items (k + 1) (map (λ s. Leave s) (range_with_len (a + 1) m) ++ rest)) (n - (k + 1))
    ≡ (if nat_lt n (k + 1 + m) then Leave (a + 1 + (n - (k + 1))) else order_at (with_leaves items (k + 1 + m) rest) (n - (k + 1 + m)))) → (k < n) ⊎ (n ≤ k)
    → order_at (with_leaves items k (map (λ s. Leave s) (range_with_len a (suc m)) ++ rest)) (n - k)
    ≡ (if nat_lt n (k + suc m) then Leave (a + (n - k)) else order_at (with_leaves items (k + suc m) rest) (n - (k + suc m)))
leaves_case items n k a m rest le h (inl lt) =
    let more : n - k ≡ suc (n - (k + 1)) = omega arith in
    let place : k + 1 + m ≡ k + suc m = omega arith in
    let number : a + 1 + (n - (k + 1)) ≡ a + (n - k) = omega (arith, lt) in
    ap (order_at (with_leaves items k (map (λ s. Leave s) (range_with_len a (suc m)) ++ rest))) more
    ∙ h (omega (arith, lt))
    ∙ ap₂ (λ p q. if nat_lt n p then Leave q else order_at (with_leaves items p rest) (n - p)) place number
leaves_case items n k a m rest le h (inr ge) =
    let none : n - k ≡ 0 = omega arith in
    let some : nat_lt n (k + suc m) ≡ true = grind arith in
    let number : a ≡ a + (n - k) = omega arith in
    ap (order_at (with_leaves items k (map (λ s. Leave s) (range_with_len a (suc m)) ++ rest))) none ∙ rw some (ap (λ q. Leave q) number)

leaves_at : (items : List HistItem) (n k a m : ℕ) (rest : List Order) → k ≤ n → order_at (with_leaves items k (map (λ s. Leave s) (range_with_len a m) ++ rest)) (n - k)
    ≡ (if nat_lt n (k + m) then Leave (a + (n - k)) else order_at (with_leaves items (k + m) rest) (n - (k + m)))
leaves_at items n k a zero rest le =
    let past : nat_lt n (k + 0) ≡ false = grind arith in
    let same : k ≡ k + 0 = omega arith in
    rw past (ap (λ j. order_at (with_leaves items j rest) (n - j)) same)
leaves_at items n k a (suc m) rest le = leaves_case items n k a m rest le (λ more. leaves_at items n (k + 1) (a + 1) m rest more) (cases_lt k n)

-- ---- what comes behind the entries

last_next : (items : List HistItem) (n j : ℕ) (last : List PlannedLaunch) → unwrap_or (teardowns_so_far items n j last).due Stop ≡ order_at (with_leaves items j (map launch last)) (n - j)
last_next items n j last = sym (waits items n j last []) ∙ ap (λ (os : List Order). order_at (with_leaves items j os) (n - j)) (append-nil (map launch last))

leave_next : (items : List HistItem) (n j m : ℕ) (last : List PlannedLaunch) (b : Bool) → (if b then Leave (n - j + 1) else unwrap_or (teardowns_so_far items n (j + m) last).due Stop)
    ≡ (if b then Leave (1 + (n - j)) else order_at (with_leaves items (j + m) (map launch last)) (n - (j + m)))
leave_next items n j m last true = let e : n - j + 1 ≡ 1 + (n - j) = omega arith in ap (λ q. Leave q) e
leave_next items n j m last false = last_next items n (j + m) last

behind_next : (l : Launches) (items : List HistItem) (n f : ℕ) → f ≤ n
    → due_last l items n (teardowns_so_far items n f l.teardowns) ≡ order_at (with_leaves items f (map launch l.teardowns ++ (map (λ s. Leave s) (range_with_len 1 l.sessions) ++ map launch l.last))) (n - f)
behind_next l items n f le =
    let w = teardowns_so_far items n f l.teardowns in
    let rest = map (λ s. Leave s) (range_with_len 1 l.sessions) ++ map launch l.last in
    else_same w.due _ (order_at (with_leaves items w.orders rest) (n - w.orders))
    (λ none. leave_next items n w.orders l.sessions l.last (nat_lt n (w.orders + l.sessions)) ∙ sym (leaves_at items n w.orders 1 l.sessions (map launch l.last) (within items n f l.teardowns le none)))
    ∙ sym (waits items n f l.teardowns rest)

abbrev closing : Launches → List Order
closing l = map launch l.teardowns ++ (map (λ s. Leave s) (range_with_len 1 l.sessions) ++ map launch l.last)

entry_next : (l : Launches) (items : List HistItem) (n k : ℕ) (state : RunState) → k ≡ length l.setups → k ≤ n → IsStateAt state (n - k) (length l.steps)
    → due_entry l items n state ≡ order_at (map launch l.steps ++ with_leaves items (length l.setups + length l.steps) (closing l)) (n - k)
entry_next l items n k state counted le (inl at) =
    let rest = with_leaves items (length l.setups + length l.steps) (closing l) in
    ap (due_entry l items n) at.1
    ∙ launch_at l.steps (n - k) (order_at rest (n - k - length (map launch l.steps))) at.0
    ∙ sym (at_append (map launch l.steps) rest (n - k))
entry_next l items n k state counted le (inr at) =
    let f = length l.setups + length l.steps in
    let rest = with_leaves items f (closing l) in
    let many = at.0 in
    let all : f ≤ n = omega arith in
    let place : n - f ≡ n - k - length (map launch l.steps) = omega (arith, length_launches l.steps) in
    ap (due_entry l items n) at.1
    ∙ behind_next l items n f all
    ∙ ap (order_at rest) place
    ∙ ap (λ o. unwrap_or o (order_at rest (n - k - length (map launch l.steps)))) (sym (past l.steps (n - k) many))
    ∙ sym (at_append (map launch l.steps) rest (n - k))

-- ---- the orders

steps_launch : (spec : SpecTree) (entries : List EntryTree) → map (launch_of_entry spec) entries ≡ map launch (map (old.launch_of_entry spec) entries)
steps_launch spec [] = refl
steps_launch spec (e ∷ es) = ap (λ os. launch_of_entry spec e ∷ os) (steps_launch spec es)

closing_is : (spec : SpecTree) (entries : List EntryTree) → closing_of spec ≡ closing (launches spec entries)
closing_is spec entries =
    let own = own_launches (λ s. s.teardown) spec in
    let leaves = map (λ s. Leave s) (range_with_len 1 (length spec.sessions)) in
    append_assoc own leaves (map (launch_in 0) (option_to_list spec.teardown))
    ∙ ap₂ (λ (xs ys : List Order). xs ++ (leaves ++ ys)) (own_launch (λ s. s.teardown) 1 spec.sessions) (parts_launch (option_to_list spec.teardown))

orders_are : (spec : SpecTree) (entries : List EntryTree) (items : List HistItem) → (let l = launches spec entries in
    orders_of spec entries items ≡ map launch l.setups ++ (map launch l.steps ++ with_leaves items (length l.setups + length l.steps) (closing l)))
orders_are spec entries items =
    let l = launches spec entries in
    let front = ap₂ (λ (xs ys : List Order). xs ++ ys) (setups_launch spec) (steps_launch spec entries) in
    let many : length (map launch l.setups ++ map launch l.steps) ≡ length l.setups + length l.steps =
    length-append (map launch l.setups) (map launch l.steps) ∙ ap₂ (λ a b. a + b) (length_launches l.setups) (length_launches l.steps) in
    ap₂ (λ (first behind : List Order). first ++ with_leaves items (length first) behind) front (closing_is spec entries)
    ∙ ap (λ j. (map launch l.setups ++ map launch l.steps) ++ with_leaves items j (closing l)) many
    ∙ append_assoc (map launch l.setups) (map launch l.steps) (with_leaves items (length l.setups + length l.steps) (closing l))

-- ---- the whole

valid_case : (l : Launches) (entries : List EntryTree) (items : List HistItem) → length l.steps ≡ length entries → (let c = run_of l entries items in let n = orders items in
    (walked c (n - length l.setups)).state ≢ Invalid → due_setup items n 0 l.setups ≡ slice_get (map launch l.setups) n
    → order_at (map launch l.setups ++ (map launch l.steps ++ with_leaves items (length l.setups + length l.steps) (closing l))) n ≡ due l c n)
valid_case l entries items same valid first =
    let c = run_of l entries items in
    let n = orders items in
    let state = (walked c (n - length l.setups)).state in
    let rest = map launch l.steps ++ with_leaves items (length l.setups + length l.steps) (closing l) in
    let place : n - length l.setups ≡ n - length (map launch l.setups) = omega (arith, length_launches l.setups) in
    at_append (map launch l.setups) rest n
    ∙ sym
    (ap (λ o. unwrap_or o (due_entry l items n state)) first
    ∙ else_same (slice_get (map launch l.setups) n) (due_entry l items n state) (order_at rest (n - length (map launch l.setups)))
    (λ none.
    let many = beyond l.setups n none in
    entry_next l items n (length l.setups) state refl many (subst (IsStateAt state (n - length l.setups)) (sym same) (state_at c (n - length l.setups) valid))
    ∙ ap (order_at rest) place))

invalid_at : (l : Launches) (entries : List EntryTree) (items : List HistItem) → (let c = run_of l entries items in let n = orders items in
    (walked c (n - length l.setups)).state ≡ Invalid → (n < length l.setups) ⊎ (length l.setups ≤ n) → slice_get (map launch l.setups) n ≡ None)
invalid_at l entries items is (inl lt) =
    let c = run_of l entries items in
    let none : orders items - length l.setups ≡ 0 = omega (arith, lt) in
    absurd (invalid_first c (length entries) refl (ap (λ k. (walked c k).state) (sym none) ∙ is))
invalid_at l entries items is (inr le) = past l.setups (orders items) le

invalid_case : (l : Launches) (entries : List EntryTree) (items : List HistItem) → (let c = run_of l entries items in let n = orders items in
    (walked c (n - length l.setups)).state ≡ Invalid → due_setup items n 0 l.setups ≡ slice_get (map launch l.setups) n → Stop ≡ due l c n)
invalid_case l entries items is first =
    let n = orders items in
    sym (ap₂ (λ (o : Option Order) (s : RunState). unwrap_or o (due_entry l items n s)) (first ∙ invalid_at l entries items is (cases_lt n (length l.setups))) is)

not_invalid : (s : RunState) (e : ℕ) → s ≡ Due e → s ≢ Invalid
not_invalid s e h k = due_not (sym h ∙ k)
  where
    due_not : ◌≡◌ {A = RunState} (Due e) Invalid → ⊥
    due_not same = cc

whole_valid : (s : RunState) → s ≡ Whole → s ≢ Invalid
whole_valid s h k = whole_not (sym h ∙ k)
  where
    whole_not : ◌≡◌ {A = RunState} Whole Invalid → ⊥
    whole_not same = cc

well_case : (l : Launches) (entries : List EntryTree) (items : List HistItem) (state : RunState) (lines : List ℕ) (teardowns : Said) → length l.steps ≡ length entries → teardowns.ending ≡ whole
    → (let c = run_of l entries items in let n = orders items in
    (walked c (n - length l.setups)).state ≡ state → due_setup items n 0 l.setups ≡ slice_get (map launch l.setups) n
    → order_by ((says lines >> state_says state) >> teardowns).ending
    (order_at (map launch l.setups ++ (map launch l.steps ++ with_leaves items (length l.setups + length l.steps) (closing l))) n) ≡ due l c n)
well_case l entries items (Due e) lines teardowns same ends is first =
    by_whole teardowns.ending _ ends ∙ valid_case l entries items same (not_invalid _ e is) first
well_case l entries items Whole lines teardowns same ends is first =
    by_whole teardowns.ending _ ends ∙ valid_case l entries items same (whole_valid _ is) first
well_case l entries items Invalid lines teardowns same ends is first = invalid_case l entries items is first

stand_next : (l : Launches) (entries : List EntryTree) (items : List HistItem) (lines : List ℕ) (teardowns : Said) → length l.steps ≡ length entries → teardowns.ending ≡ whole
    → Stand items (orders items) 0 l.setups → (let c = run_of l entries items in let n = orders items in
    order_by (said_so (setups_say items n 0 l.setups) (walked c (n - length l.setups)).state lines teardowns).ending
    (order_at (map launch l.setups ++ (map launch l.steps ++ with_leaves items (length l.setups + length l.steps) (closing l))) n) ≡ due l c n)
stand_next l entries items lines teardowns same ends (inl p) =
    let n = orders items in
    early_by (setups_say items n 0 l.setups) teardowns _ lines _ p.1
    ∙ sym (ap (λ (o : Option Order). unwrap_or o (due_entry l items n (walked (run_of l entries items) (n - length l.setups)).state)) p.0)
stand_next l entries items lines teardowns same ends (inr p) =
    let n = orders items in
    let all : n - 0 ≡ n = omega arith in
    ap (λ (e : Ending). order_by e (order_at (map launch l.setups ++ (map launch l.steps ++ with_leaves items (length l.setups + length l.steps) (closing l))) n))
    (behind_setups (setups_say items n 0 l.setups) teardowns (walked (run_of l entries items) (n - length l.setups)).state lines p.1)
    ∙ well_case l entries items (walked (run_of l entries items) (n - length l.setups)).state lines teardowns same ends refl (p.0 ∙ ap (slice_get (map launch l.setups)) all)

said_ending : (spec : SpecTree) (entries : List EntryTree) (items : List HistItem) (x : Order) → (let l = launches spec entries in let n = orders items in
    (lines : List ℕ) × (teardowns : Said) × (teardowns.ending ≡ whole)
    × (order_by (permutation_in_turn spec entries items).ending x ≡ order_by (said_so (setups_say items n 0 l.setups) (walked (run_of l entries items) (n - length l.setups)).state lines teardowns).ending x))
unfolding permutation_in_turn
said_ending spec entries items x =
    let l = launches spec entries in
    let n = orders items in
    let k = length (setup_numbers spec) in
    let many : k ≡ length l.setups = ap length (setups_number spec) ∙ length-map l.setups session_in in
    let state = (told (permutation_run entries items k) (n - k)).state in
    let same : state ≡ (walked (run_of l entries items) (n - length l.setups)).state =
    ap (λ j. (told (permutation_run entries items j) (n - j)).state) many ∙ ap (λ (r : Report). r.state) (report_is (run_of l entries items) (n - length l.setups)) in
    let teardowns = in_turn n (k + length entries) (map (teardown_turn spec.sessions items) (teardown_numbers spec)) in
    let lines = flat_map (line_text spec (permutation_run entries items k)) (told (permutation_run entries items k) (n - k)).lines in (
      lines,
      teardowns,
      teardowns_whole spec.sessions items n (k + length entries) (teardown_numbers spec),
      ap₂ (λ (ns : List ℕ) (s : RunState). order_by (said_so (in_turn n 0 (map (setup_turn items) ns)) s lines teardowns).ending x) (setups_number spec) same,
    )

pub next_is : (spec : SpecTree) (entries : List EntryTree) (items : List HistItem) → next_order spec entries items ≡ due_in spec entries items
next_is spec entries items =
    let l = launches spec entries in
    let n = orders items in
    let x = unwrap_or (slice_get (orders_of spec entries items) n) Stop in
    let ends = said_ending spec entries items x in
    ap (λ (s : Said). order_by s.ending x) (permutation_turn spec entries items)
    ∙ ends.3
    ∙ ap (λ (os : List Order). order_by (said_so (setups_say items n 0 l.setups) (walked (run_of l entries items) (n - length l.setups)).state ends.0 ends.1).ending (order_at os n)) (orders_are spec entries items)
    ∙ stand_next l entries items ends.0 ends.1 (length_tasks spec entries) ends.2 (stand items n 0 l.setups)

-- ---- a history that fits

ordered_so : (e : Event) (order : Order) → IsOrdered e order → IfSome (order_of e) (λ o. order ≡ o)
ordered_so (events.Launch session block) order h = h
ordered_so (events.Step session) order h = tt
ordered_so (events.Leave session) order h = h

so_ordered : (e : Event) (order : Order) → IfSome (order_of e) (λ o. order ≡ o) → IsOrdered e order
so_ordered (events.Launch session block) order h = h
so_ordered (events.Step session) order h = tt
so_ordered (events.Leave session) order h = h

-- each Launch and Leave behind what came before is the order that is due
abbrev Ordered : (List HistItem → Order) → List HistItem → Type 0
Ordered due items = (before behind : List HistItem) (item : HistItem) → items ≡ before ++ item ∷ behind → IfSome (order_of item.event) (λ order. due before ≡ order)

head_is : {A : Type 0} (x y : A) (xs ys : List A) → x ∷ xs ≡ y ∷ ys → x ≡ y
head_is x y xs ys h = cc

tail_is : {A : Type 0} (x y : A) (xs ys : List A) → x ∷ xs ≡ y ∷ ys → xs ≡ ys
tail_is x y xs ys h = cc

nothing_there : {A : Type 0} (y : A) (ys : List A) → (let none : List A = [] in none ≡ y ∷ ys) → ⊥
nothing_there y ys h = cc

ordered_from : (due : List HistItem → Order) (front items before behind : List HistItem) (item : HistItem) → FitsAfter due front items → items ≡ before ++ item ∷ behind
    → IfSome (order_of item.event) (λ order. due (front ++ before) ≡ order)
ordered_from due front [] [] behind item fits is = absurd (nothing_there item behind is)
ordered_from due front [] (b ∷ before) behind item fits is = absurd (nothing_there b (before ++ item ∷ behind) is)
ordered_from due front (i ∷ items) [] behind item fits is =
    subst (λ (w : List HistItem). IfSome (order_of item.event) (λ order. due w ≡ order)) (sym (append-nil front))
    (subst (λ (x : HistItem). IfSome (order_of x.event) (λ order. due front ≡ order)) (head_is i item items behind is) (ordered_so i.event (due front) fits.0))
ordered_from due front (i ∷ items) (b ∷ before) behind item fits is =
    subst (λ (w : List HistItem). IfSome (order_of item.event) (λ order. due w ≡ order))
    (append_assoc front (i ∷ []) before ∙ ap (λ (x : HistItem). front ++ x ∷ before) (head_is i b items (before ++ item ∷ behind) is))
    (ordered_from due (front ++ i ∷ []) items before behind item fits.1 (tail_is i b items (before ++ item ∷ behind) is))

over_from : (due : List HistItem → Order) (front items : List HistItem) → FitsAfter due front items → due (front ++ items) ≡ Stop
over_from due front [] fits = ap due (append-nil front) ∙ fits
over_from due front (i ∷ items) fits = ap due (sym (append_assoc front (i ∷ []) items)) ∙ over_from due (front ++ i ∷ []) items fits.1

fits_from : (due : List HistItem → Order) (all front items : List HistItem) → Ordered due all → due all ≡ Stop → all ≡ front ++ items → FitsAfter due front items
fits_from due all front [] ordered over is = ap due (sym (is ∙ append-nil front)) ∙ over
fits_from due all front (i ∷ items) ordered over is =
    (so_ordered i.event (due front) (ordered front items i is), fits_from due all (front ++ i ∷ []) items ordered over (is ∙ sym (append_assoc front (i ∷ []) items)))

due_same : (spec : SpecTree) (entries : List EntryTree) → next_order spec entries ≡ due_in spec entries
due_same spec entries = fun_ext (λ items. next_is spec entries items)

pub due_is_next : DueIsNextOrder
due_is_next spec entries items = sym (next_is spec entries items)

-- a history fits, as the code goes through it, exactly where it launches what the permutation launches
pub fits_so : (spec : SpecTree) (entries : List EntryTree) (items : List HistItem) → FitsAfter (due_in spec entries) [] items ↔ LaunchesFit spec entries items
fits_so spec entries items = (
  λ fits.
      let so = subst (λ (due : List HistItem → Order). FitsAfter due [] items) (sym (due_same spec entries)) fits in
      record {
        ordered = λ before behind item is. ordered_from (next_order spec entries) [] items before behind item so is;
        over = over_from (next_order spec entries) [] items so;
      },
  λ launched. subst (λ (due : List HistItem → Order). FitsAfter due [] items) (due_same spec entries) (fits_from (next_order spec entries) items [] items launched.ordered launched.over refl),
)

-- what a run of the permutation comes to is a regular history, if it launches what is due
pub regular_of : (spec : SpecTree) (blocks : Blocks) (entries : List EntryTree) (items : List HistItem) (state : Machine)
    → Run blocks Directed (opening (length spec.sessions)) items state → IsTrue (is_quiet state) → FitsAfter (due_in spec entries) [] items → IsRegular spec blocks entries items
regular_of spec blocks entries items state run quiet fits = record { state = state; run = run; quiet = quiet; launched = (fits_so spec entries items).0 fits }

pub regular_fits : (spec : SpecTree) (blocks : Blocks) (entries : List EntryTree) (items : List HistItem) → IsRegular spec blocks entries items → FitsAfter (next_order spec entries) [] items
regular_fits spec blocks entries items regular = fits_from (next_order spec entries) items [] items regular.launched.ordered regular.launched.over refl

pub next_goes_well : NextIsDue
next_goes_well spec entries items well = next_is spec entries items ∙ next_is_due spec entries items well

-- A session that is ordered to be given a block is in none.
use Rattle.std.proofs.Common.{◌≡◌, ◌≢◌, refl, sym, ◌∙◌, ap, subst, Bool, true, false, ◌&&◌, ◌||◌, ◌==◌, ℕ, zero, suc, ◌+◌, ◌-◌, ◌<◌, ◌≤◌, ◌⊎◌, inl, inr, List, [], ◌∷◌, ◌++◌, length, length-append, map, drop, arith, append_assoc}
use Rattle.std.specs.Prelude.{Option, Some, None, nat_le, slice_get, unwrap_or, IfSome}
use Rattle.std.specs.List.{list_any}
use Rattle.std.specs.Option.{option_map_or}
use Rattle.std.proofs.lemmas.Bool.{cases_lt, eq-eqb}
use Rattle.std.proofs.lemmas.List.{length-map}
use Rattle.session_machine.specs.declared.event.Event.{Event}
use Rattle.session_machine.specs.declared.event.Event.TheVariants as events
use Rattle.session_machine.specs.declared.event.Order.{Order}
use Rattle.session_machine.specs.declared.event.Order.TheVariants.{Launch, Leave, Stop}
use Rattle.session_machine.specs.declared.reply.HistItem.{HistItem}
use Rattle.session_machine.specs.Machine.{session_of}
use Rattle.spec_parser.specs.Trees.{EntryTree, SpecTree}
use Rattle.report_lines.specs.declared.history.PlannedLaunch.{PlannedLaunch}
use Rattle.report_lines.specs.declared.history.RunState.{RunState}
use Rattle.report_lines.specs.declared.history.RunState.TheVariants.{Invalid}
use Rattle.report_lines.specs.Starts.{order_of, is_order, segment_start, ends_in}
use Rattle.report_lines.specs.History.{PermutationRun}
use Rattle.report_lines.specs.Code.Walk.{session_of_entry, walked}
use Rattle.report_lines.specs.Due.{Launches, launch, orders, went_well, is_over, due_setup, due_entry, due}
use Rattle.report_lines.specs.Orders.{setups_of, launch_of_entry, closing_of, with_leaves, orders_of}
use Rattle.report_text.specs.Said.{Ending, whole, invalid, setup_failed, setup_waits, too_many}
use Rattle.report_text.specs.Permutation.{permutation_says}
use Rattle.report_text.proofs.Ordered.{setups_launch}
use Rattle.permutation_plans.specs.Launches.{launches, run_of, due_in}
use Rattle.permutation_plans.specs.Launches as planned
use Rattle.permutation_plans.specs.Regular.{next_order}
use Rattle.permutation_plans.proofs.Next.{next_is}
use Rattle.permutation_plans.proofs.Whole.{IsStateAt, state_at}
use Rattle.permutation_plans.proofs.Replied.{EndsSo, AllEndSo}
use Rattle.history_laws.specs.Unfinished.{IsUnfinished}
use Rattle.history_laws.specs.UnderWay.{AreInOrder}
use Rattle.history_laws.proofs.Lists.{any_left, any_right}
use Rattle.history_laws.proofs.Reported.{Ended, ended_before, ended_all}
use Rattle.history_laws.proofs.Segments.{behind_start, end_behind, not_over, orders_append, orders_one, FirstOrder, first_order}
use Rattle.history_laws.proofs.Closing.{leave_next}

-- ---- the next order, where it is no Stop

launch_stop : (s b : ℕ) → Launch s b ≢ Stop
launch_stop s b h = cc

leave_stop : (s : ℕ) → Leave s ≢ Stop
leave_stop s h = cc

by_ending : (e : Ending) (x o : Order) → (elim e [ whole ↦ x | _ ↦ Stop ]) ≡ o → o ≢ Stop → x ≡ o
by_ending whole x o h n = h
by_ending invalid x o h n = absurd (n (sym h))
by_ending (setup_failed text) x o h n = absurd (n (sym h))
by_ending setup_waits x o h n = absurd (n (sym h))
by_ending too_many x o h n = absurd (n (sym h))

in_option : (p : Option Order) (o : Order) → unwrap_or p Stop ≡ o → o ≢ Stop → p ≡ Some o
in_option None o h n = absurd (n (sym h))
in_option (Some x) o h n = ap Some h

-- it stands in the permutation's orders, behind so many
pub next_at : (spec : SpecTree) (entries : List EntryTree) (items : List HistItem) (o : Order) → next_order spec entries items ≡ o → o ≢ Stop
    → slice_get (orders_of spec entries items) (orders items) ≡ Some o
next_at spec entries items o h n =
    in_option (slice_get (orders_of spec entries items) (orders items)) o
    (by_ending (permutation_says spec entries items).ending (unwrap_or (slice_get (orders_of spec entries items) (orders items)) Stop) o h n) n

-- ---- setups

-- each setup that is there went well, where the setups let something follow
abbrev Well : List HistItem → ℕ → ℕ → List PlannedLaunch → PlannedLaunch → ℕ → Type 0
Well items n k ts t j = due_setup items n k ts ≢ Some Stop → slice_get ts j ≡ Some t → k + j < n → went_well items (k + j) t.session ≡ true

nothing : (t : PlannedLaunch) → None ≡ Some t → ⊥
nothing t h = cc

same_launch : (a b : PlannedLaunch) → Some a ≡ Some b → a.session ≡ b.session
same_launch a b h = cc

not_reached : (n k : ℕ) → nat_le n k ≡ true → k < n → ⊥
not_reached n k h l = let some : nat_le n k ≡ false = grind arith in neither (sym h ∙ some) where
  neither : true ≡ false → ⊥
  neither x = cc

well_here : (items : List HistItem) (n k j : ℕ) (u : PlannedLaunch) (ts : List PlannedLaunch) (t : PlannedLaunch) → went_well items k u.session ≡ true → ((i : ℕ) → slice_get ts i ≡ Some t → k + 1 + i < n → went_well items (k + 1 + i) t.session ≡ true)
    → slice_get (u ∷ ts) j ≡ Some t → k + j < n → went_well items (k + j) t.session ≡ true
well_here items n k zero u ts t one later at less =
    let same : k ≡ k + 0 = omega arith in
    subst (λ m. went_well items m t.session ≡ true) same (subst (λ s. went_well items k s ≡ true) (same_launch u t at) one)
well_here items n k (suc i) u ts t one later at less =
    let same : k + 1 + i ≡ k + suc i = omega arith in
    subst (λ m. went_well items m t.session ≡ true) same (later i at (omega (arith, less)))

well_case : (items : List HistItem) (n k j : ℕ) (u : PlannedLaunch) (ts : List PlannedLaunch) (t : PlannedLaunch) (gone well : Bool) → nat_le n k ≡ gone → went_well items k u.session ≡ well
    → ((i : ℕ) → Well items n (k + 1) ts t i) → Well items n k (u ∷ ts) t j
well_case items n k j u ts t true well e f later go at less = absurd (not_reached n k e (omega (arith, less)))
well_case items n k j u ts t false false e f later go at less = absurd (go (rw (e, f) refl))
well_case items n k j u ts t false true e f later go at less = well_here items n k j u ts t f (λ i h l. later i (λ stop. go (rw (e, f) stop)) h l) at less

setups_well : (items : List HistItem) (n k j : ℕ) (ts : List PlannedLaunch) (t : PlannedLaunch) → Well items n k ts t j
setups_well items n k j [] t = λ go at less. absurd (nothing t at)
setups_well items n k j (u ∷ ts) t = well_case items n k j u ts t (nat_le n k) (went_well items k u.session) refl refl (λ i. setups_well items n (k + 1) i ts t)

-- behind the setups there is nothing but a Stop that they order
setups_past : (items : List HistItem) (n k : ℕ) (ts : List PlannedLaunch) → k + length ts ≤ n → (due_setup items n k ts ≡ None) ⊎ (due_setup items n k ts ≡ Some Stop)
setups_past items n k [] le = inl refl
setups_past items n k (t ∷ ts) le = by (went_well items k t.session) (setups_past items n (k + 1) ts (omega (arith, le))) refl where
  some : nat_le n k ≡ false
  some = let l : k < n = omega (arith, le) in grind arith

  by : (well : Bool) → (due_setup items n (k + 1) ts ≡ None) ⊎ (due_setup items n (k + 1) ts ≡ Some Stop) → went_well items k t.session ≡ well
      → (due_setup items n k (t ∷ ts) ≡ None) ⊎ (due_setup items n k (t ∷ ts) ≡ Some Stop)
  by true (inl h) e = inl (rw (some, e) h)
  by true (inr h) e = inr (rw (some, e) h)
  by false rest e = inr (rw (some, e) refl)

and_first : (b c : Bool) → (b && c) ≡ true → b ≡ true
and_first true c h = refl
and_first false c h = cc

stopped : (l : Launches) (c : PermutationRun) (n : ℕ) → due_setup c.items n 0 l.setups ≡ Some Stop → due l c n ≡ Stop
stopped l c n h = ap (λ o. unwrap_or o (due_entry l c.items n (walked c (n - length l.setups)).state)) h

-- ---- what is launched at a place

launched_by : (ts : List PlannedLaunch) (k s b : ℕ) → slice_get (map launch ts) k ≡ Some (Launch s b) → (t : PlannedLaunch) × (slice_get ts k ≡ Some t) × (t.session ≡ s)
launched_by [] k s b h = absurd (none h) where
  none : None ≡ Some (Launch s b) → ⊥
  none e = cc
launched_by (t ∷ ts) zero s b h = (t, refl, same h) where
  same : Some (Launch t.session t.block) ≡ Some (Launch s b) → t.session ≡ s
  same e = cc
launched_by (t ∷ ts) (suc k) s b h = launched_by ts k s b h

entry_by : (spec : SpecTree) (es : List EntryTree) (k s b : ℕ) → slice_get (map (launch_of_entry spec) es) k ≡ Some (Launch s b) → option_map_or (λ (e : EntryTree). e.session) (slice_get es k) 0 ≡ s
entry_by spec [] k s b h = absurd (none h) where
  none : None ≡ Some (Launch s b) → ⊥
  none e = cc
entry_by spec (e ∷ es) zero s b h = same h where
  same : ◌≡◌ {A = Option Order} (Some (launch_of_entry spec e)) (Some (Launch s b)) → e.session ≡ s
  same f = cc
entry_by spec (e ∷ es) (suc k) s b h = entry_by spec es k s b h

task_by : (spec : SpecTree) (es : List EntryTree) (k s b : ℕ) → option_map_or launch (slice_get (map (planned.launch_of_entry spec) es) k) Stop ≡ Launch s b
    → option_map_or (λ (e : EntryTree). e.session) (slice_get es k) 0 ≡ s
task_by spec [] k s b h = absurd (launch_stop s b (sym h))
task_by spec (e ∷ es) zero s b h = same h where
  same : ◌≡◌ {A = Order} (Launch e.session (planned.launch_of_entry spec e).block) (Launch s b) → e.session ≡ s
  same f = cc
task_by spec (e ∷ es) (suc k) s b h = task_by spec es k s b h

in_first : {A : Type 0} (xs ys : List A) (k : ℕ) → k < length xs → slice_get (xs ++ ys) k ≡ slice_get xs k
in_first [] ys k h = absurd (omega arith)
in_first (x ∷ xs) ys zero h = refl
in_first (x ∷ xs) ys (suc k) h = in_first xs ys k (omega arith)

in_second : {A : Type 0} (xs ys : List A) (k : ℕ) → length xs ≤ k → slice_get (xs ++ ys) k ≡ slice_get ys (k - length xs)
in_second [] ys k h = let e : k ≡ k - 0 = omega arith in ap (slice_get ys) e
in_second (x ∷ xs) ys zero h = absurd (omega arith)
in_second (x ∷ xs) ys (suc k) h = let e : k - length xs ≡ suc k - suc (length xs) = omega arith in in_second xs ys k (omega arith) ∙ ap (slice_get ys) e

-- ---- the case that a block is given to a session whose block isn't over

not_both : (b : Bool) → b ≡ true → b ≡ false → ⊥
not_both true h k = cc
not_both false h k = cc

-- the session's block isn't over, and it is ordered to be given another
pub record IsGivenTwo (spec : SpecTree) (entries : List EntryTree) (items : List HistItem) (s : ℕ) : Type 0 where
  pub u : IsUnfinished items s
  pub ends : AllEndSo items
  pub ordered : AreInOrder spec entries items
  pub block : ℕ
  pub next : next_order spec entries items ≡ Launch s block

ends_at : (xs ys : List HistItem) (item : HistItem) → AllEndSo (xs ++ item ∷ ys) → EndsSo item.event item.reply
ends_at [] ys item h = h.0
ends_at (x ∷ xs) ys item h = ends_at xs ys item h.1

left_ends : (s : ℕ) (item : HistItem) (ys : List HistItem) → item.event ≡ events.Leave s → EndsSo item.event item.reply → list_any (ends_in s) (item ∷ ys) ≡ true
left_ends s item ys is h = by (session_of item.event == s) item.reply.ended (ap (λ e. session_of e == s) is ∙ eq-eqb s s refl) (h.left s is) where
  by : (b c : Bool) → b ≡ true → c ≡ true → ((b && c) || list_any (ends_in s) ys) ≡ true
  by true true e f = refl
  by true false e f = cc
  by false c e f = cc

module _ (spec : SpecTree) (entries : List EntryTree) (items : List HistItem) (s : ℕ) (g : IsGivenTwo spec entries items s) where
  -- its Launch is an order, and was the next one
  is_one : is_order g.u.launched.event ≡ true
  is_one = ap is_order g.u.given

  was_next : next_order spec entries g.u.before ≡ Launch s g.u.block
  was_next = subst (λ (e : Event). IfSome (order_of e) (λ order. next_order spec entries g.u.before ≡ order)) g.u.given (g.ordered g.u.before g.u.behind g.u.launched g.u.parts)

  was_at : slice_get (orders_of spec entries g.u.before) (orders g.u.before) ≡ Some (Launch s g.u.block)
  was_at = next_at spec entries g.u.before (Launch s g.u.block) was_next (launch_stop s g.u.block)

  fewer : orders g.u.before < orders items
  fewer = omega (arith, ap orders g.u.parts, orders_append g.u.before (g.u.launched ∷ g.u.behind), orders_one g.u.launched g.u.behind is_one)

  not_ended : list_any (ends_in s) (g.u.launched ∷ g.u.behind) ≡ true → ⊥
  not_ended h = not_both (list_any (ends_in s) (g.u.launched ∷ g.u.behind)) h g.u.since

  is_due : due_in spec entries items ≡ Launch s g.block
  is_due = sym (next_is spec entries items) ∙ g.next

  setups_go : due_setup items (orders items) 0 (launches spec entries).setups ≢ Some Stop
  setups_go h = launch_stop s g.block (sym is_due ∙ stopped (launches spec entries) (run_of (launches spec entries) entries items) (orders items) h)

  many_setups : length (setups_of spec) ≡ length (launches spec entries).setups
  many_setups = ap length (setups_launch spec) ∙ length-map (launches spec entries).setups launch

  in_front : orders g.u.before < length (setups_of spec ++ map (launch_of_entry spec) entries)
      → slice_get (setups_of spec ++ map (launch_of_entry spec) entries) (orders g.u.before) ≡ Some (Launch s g.u.block)
  in_front less =
      let first = setups_of spec ++ map (launch_of_entry spec) entries in
      sym (in_first first (with_leaves g.u.before (length first) (closing_of spec)) (orders g.u.before) less) ∙ was_at

  -- a setup
  at_setup : orders g.u.before < length (setups_of spec) → ⊥
  at_setup less =
      let long = length-append (setups_of spec) (map (launch_of_entry spec) entries) in
      let inside : slice_get (setups_of spec) (orders g.u.before) ≡ Some (Launch s g.u.block) =
      sym (in_first (setups_of spec) (map (launch_of_entry spec) entries) (orders g.u.before) less) ∙ in_front (omega (arith, less, long)) in
      let t = launched_by (launches spec entries).setups (orders g.u.before) s g.u.block (sym (ap (λ os. slice_get os (orders g.u.before)) (setups_launch spec)) ∙ inside) in
      let place : 0 + orders g.u.before ≡ orders g.u.before = omega arith in
      let well = setups_well items (orders items) 0 (orders g.u.before) (launches spec entries).setups t.0 setups_go t.1 (omega (arith, fewer)) in
      let over : is_over items (orders g.u.before) s ≡ true =
      subst (λ j. is_over items j s ≡ true) place (subst (λ j. is_over items (0 + orders g.u.before) j ≡ true) t.2 (and_first (is_over items (0 + orders g.u.before) t.0.session) _ well)) in
      not_ended (end_behind g.u.before g.u.behind g.u.launched s is_one (subst (λ (w : List HistItem). is_over w (orders g.u.before) s ≡ true) g.u.parts over))

  -- an entry's block
  behind_it : drop (segment_start items (orders g.u.before)) items ≡ g.u.launched ∷ g.u.behind
  behind_it = ap (λ (w : List HistItem). drop (segment_start w (orders g.u.before)) w) g.u.parts ∙ behind_start g.u.before g.u.behind g.u.launched is_one

  run : PermutationRun
  run = run_of (launches spec entries) entries items

  state : RunState
  state = (walked run (orders items - length (launches spec entries).setups)).state

  ended_not : (i : ℕ) → length (launches spec entries).setups + i ≡ orders g.u.before → session_of_entry run i ≡ s → Ended run i → ⊥
  unfolding run
  ended_not i place own h =
      not_ended (subst (λ (w : List HistItem). list_any (ends_in s) w ≡ true) behind_it
      (subst (λ j. list_any (ends_in s) (drop (segment_start items j) items) ≡ true) place
      (subst (λ j. list_any (ends_in j) (drop (segment_start items (length (launches spec entries).setups + i)) items) ≡ true) own h)))

  by_entry : length (setups_of spec) ≤ orders g.u.before → due_entry (launches spec entries) items (orders items) state ≡ Launch s g.block
  unfolding state run
  by_entry le = at (setups_past items (orders items) 0 (launches spec entries).setups (omega (arith, le, fewer, many_setups))) where
    at : (due_setup items (orders items) 0 (launches spec entries).setups ≡ None) ⊎ (due_setup items (orders items) 0 (launches spec entries).setups ≡ Some Stop)
        → due_entry (launches spec entries) items (orders items) state ≡ Launch s g.block
    at (inl none) = sym (ap (λ o. unwrap_or o (due_entry (launches spec entries) items (orders items) state)) none) ∙ is_due
    at (inr stop) = absurd (setups_go stop)

  valid : length (setups_of spec) ≤ orders g.u.before → state ≢ Invalid
  valid le h = launch_stop s g.block (sym (by_entry le) ∙ ap (due_entry (launches spec entries) items (orders items)) h)

  at_entry : length (setups_of spec) ≤ orders g.u.before → orders g.u.before < length (setups_of spec ++ map (launch_of_entry spec) entries) → ⊥
  unfolding state run
  at_entry le less =
      let i = orders g.u.before - length (setups_of spec) in
      let long = length-append (setups_of spec) (map (launch_of_entry spec) entries) in
      let many = length-map entries (launch_of_entry spec) in
      let inside : slice_get (map (launch_of_entry spec) entries) i ≡ Some (Launch s g.u.block) =
      sym (in_second (setups_of spec) (map (launch_of_entry spec) entries) (orders g.u.before) le) ∙ in_front less in
      let own : session_of_entry run i ≡ s = entry_by spec entries i s g.u.block inside in
      let place : length (launches spec entries).setups + i ≡ orders g.u.before = omega (arith, le, many_setups) in
      let there : i < length entries = omega (arith, le, less, long, many) in
      by (state_at run (orders items - length (launches spec entries).setups) (valid le)) i own place there where
        by : IsStateAt state (orders items - length (launches spec entries).setups) (length entries) → (i : ℕ) → session_of_entry run i ≡ s
            → length (launches spec entries).setups + i ≡ orders g.u.before → i < length entries → ⊥
        by (inl at) i own place there =
            let d = orders items - length (launches spec entries).setups in
            let its : session_of_entry run d ≡ s = task_by spec entries d s g.block (sym (ap (due_entry (launches spec entries) items (orders items)) at.1) ∙ by_entry le) in
            ended_not i place own (ended_before run d d i at.1 (omega (arith, place, fewer)) (own ∙ sym its))
        by (inr at) i own place there = ended_not i place own (ended_all run (orders items - length (launches spec entries).setups) i at.1 there)

  -- a block behind the entries: where it isn't over a Leave comes next
  leave_comes : (steps : List HistItem) → length (setups_of spec ++ map (launch_of_entry spec) entries) ≤ orders g.u.before → list_any (ends_in s) (g.u.launched ∷ steps) ≡ false → orders steps ≡ 0
      → next_order spec entries (g.u.before ++ g.u.launched ∷ steps) ≢ Stop → next_order spec entries (g.u.before ++ g.u.launched ∷ steps) ≡ Leave s
  leave_comes steps le no_end none go =
      let first = setups_of spec ++ map (launch_of_entry spec) entries in
      let front = g.u.before ++ g.u.launched ∷ steps in
      let many : orders front ≡ orders g.u.before + 1 = omega (arith, orders_append g.u.before (g.u.launched ∷ steps), orders_one g.u.launched steps is_one, none) in
      let was : slice_get (with_leaves g.u.before (length first) (closing_of spec)) (orders g.u.before - length first) ≡ Some (Launch s g.u.block) =
      sym (in_second first (with_leaves g.u.before (length first) (closing_of spec)) (orders g.u.before) le) ∙ was_at in
      let comes = leave_next g.u.before steps g.u.launched s g.u.block is_one (not_over g.u.before steps g.u.launched s is_one no_end) (length first) (closing_of spec) le was in
      let is = next_at spec entries front (next_order spec entries front) refl go in
      same (next_order spec entries front) (Leave s)
      (sym is ∙ ap (slice_get (orders_of spec entries front)) many ∙ in_second first (with_leaves front (length first) (closing_of spec)) (orders g.u.before + 1) (omega (arith, le)) ∙ comes) where
        same : (a b : Order) → ◌≡◌ {A = Option Order} (Some a) (Some b) → a ≡ b
        same a b h = cc

  other : (b : ℕ) → Launch s b ≡ Leave s → ⊥
  other b h = cc

  open_front : (steps rest : List HistItem) → g.u.behind ≡ steps ++ rest → list_any (ends_in s) (g.u.launched ∷ steps) ≡ false
  open_front steps rest parts = by (list_any (ends_in s) (g.u.launched ∷ steps)) refl where
    by : (b : Bool) → list_any (ends_in s) (g.u.launched ∷ steps) ≡ b → b ≡ false
    by true h = absurd (not_ended (subst (λ (w : List HistItem). list_any (ends_in s) (g.u.launched ∷ w) ≡ true) (sym parts) (any_left (ends_in s) (g.u.launched ∷ steps) rest h)))
    by false h = refl

  at_closing : length (setups_of spec ++ map (launch_of_entry spec) entries) ≤ orders g.u.before → ⊥
  at_closing le = by (first_order g.u.behind) where
    at_order : (f : FirstOrder g.u.behind) (e : Event) → f.item.event ≡ e → IfSome (order_of e) (λ order. next_order spec entries (g.u.before ++ g.u.launched ∷ f.steps) ≡ order) → is_order e ≡ true → ⊥
    at_order f (events.Launch a c) is next one = never (sym next ∙ leave_comes f.steps le (open_front f.steps (f.item ∷ f.rest) f.parts) f.none (λ h. launch_stop a c (sym next ∙ h))) where
      never : Launch a c ≡ Leave s → ⊥
      never h = cc
    at_order f (events.Leave a) is next one =
        let its : a ≡ s = same (sym next ∙ leave_comes f.steps le (open_front f.steps (f.item ∷ f.rest) f.parts) f.none (λ h. leave_stop a (sym next ∙ h))) in
        let all : AllEndSo (g.u.before ++ g.u.launched ∷ (f.steps ++ f.item ∷ f.rest)) =
        subst AllEndSo (g.u.parts ∙ ap (λ (w : List HistItem). g.u.before ++ g.u.launched ∷ w) f.parts) g.ends in
        let ends : EndsSo f.item.event f.item.reply =
        ends_at (g.u.before ++ g.u.launched ∷ f.steps) f.rest f.item (subst AllEndSo (sym (append_assoc g.u.before (g.u.launched ∷ f.steps) (f.item ∷ f.rest))) all) in
        not_ended (subst (λ (w : List HistItem). list_any (ends_in s) (g.u.launched ∷ w) ≡ true) (sym f.parts)
        (any_right (ends_in s) (g.u.launched ∷ f.steps) (f.item ∷ f.rest) (left_ends s f.item f.rest (is ∙ ap events.Leave its) ends))) where
          same : Leave a ≡ Leave s → a ≡ s
          same h = cc
    at_order f (events.Step a) is next one = no one where
      no : false ≡ true → ⊥
      no h = cc

    by : (orders g.u.behind ≡ 0) ⊎ FirstOrder g.u.behind → ⊥
    by (inl none) =
        let next : next_order spec entries (g.u.before ++ g.u.launched ∷ g.u.behind) ≡ Launch s g.block = subst (λ (w : List HistItem). next_order spec entries w ≡ Launch s g.block) g.u.parts g.next in
        other g.block (sym next ∙ leave_comes g.u.behind le g.u.since none (λ h. launch_stop s g.block (sym next ∙ h)))
    by (inr f) =
        at_order f f.item.event refl
        (g.ordered (g.u.before ++ g.u.launched ∷ f.steps) f.rest f.item
        (g.u.parts ∙ ap (λ (w : List HistItem). g.u.before ++ g.u.launched ∷ w) f.parts ∙ sym (append_assoc g.u.before (g.u.launched ∷ f.steps) (f.item ∷ f.rest)))) f.one

  pub not_given_two : ⊥
  not_given_two = by (cases_lt (orders g.u.before) (length (setups_of spec))) (cases_lt (orders g.u.before) (length (setups_of spec ++ map (launch_of_entry spec) entries))) where
    by : (orders g.u.before < length (setups_of spec)) ⊎ (length (setups_of spec) ≤ orders g.u.before)
        → (orders g.u.before < length (setups_of spec ++ map (launch_of_entry spec) entries)) ⊎ (length (setups_of spec ++ map (launch_of_entry spec) entries) ≤ orders g.u.before) → ⊥
    by (inl less) at = at_setup less
    by (inr le) (inl less) = at_entry le less
    by (inr le) (inr past) = at_closing past

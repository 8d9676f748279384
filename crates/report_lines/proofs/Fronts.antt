-- What is said of a front of a history stays so where the history goes on with an order.
use Rattle.std.proofs.Common.{◌≡◌, ◌==◌, ℕ, zero, suc, ◌+◌, ◌-◌, ◌<◌, ◌≤◌, ◌⊎◌, inl, inr, List, [], ◌∷◌, ◌++◌, length, take, drop, length-drop, refl, ap, sym, ◌∙◌, arith, true, false, Bool, not, cond, ◌&&◌, nat_lt, if◌then◌else◌, slice_range}
use Rattle.std.specs.List.{list_any, filter, fold}
use Rattle.std.proofs.lemmas.List.{take-append-le, drop-append-le}
use Rattle.std.proofs.lemmas.List.Sums.{fold-append}
use Rattle.std.proofs.lemmas.Bool.{cases_lt}
use Rattle.session_machine.specs.declared.reply.HistItem.{HistItem}
use Rattle.report_lines.specs.declared.history.Line.{Line}
use Rattle.report_lines.specs.declared.history.Line.TheVariants.{AtOnce, Waiting, Completed}
use Rattle.report_lines.specs.declared.history.Moment.{Moment}
use Rattle.report_lines.specs.declared.history.RunState.TheVariants.{Whole, Invalid, Due}
use Rattle.report_lines.specs.Starts.{segment_start, is_order, ends_in}
use Rattle.session_machine.specs.Machine.{is_failed}
use Rattle.report_lines.specs.Due.{Launches, orders, segment, is_over, went_well, launch, due_setup, teardowns_so_far, due_entry, due}
use Rattle.report_lines.specs.Inner.Due.{due_last}
use Rattle.report_lines.specs.History.{PermutationRun, seen_before}
use Rattle.report_lines.specs.Code.Walk.{session_of_entry, block_ended, is_awaited, is_star, markers_of}
use Rattle.report_lines.specs.Report.{Report, active, moment_of}
use Rattle.report_lines.specs.Code.Walk.{can_report, try_again, polls_again, polled, all_polls, is_of, has_unreported, before_launch, after_launch, walked_from, walked}
use Rattle.report_lines.specs.Inner.Waiting.{is_reported}
use Rattle.report_lines.specs.Fronts.{with_more}
use Rattle.report_lines.specs.declared.history.PlannedLaunch.{PlannedLaunch}
use Rattle.report_lines.specs.declared.history.TeardownsSoFar.{TeardownsSoFar}
use Rattle.report_lines.specs.declared.history.RunState.{RunState}
use Rattle.session_machine.specs.declared.event.Order.{Order}
use Rattle.session_machine.specs.declared.event.Order.TheVariants.{Leave, Stop}
use Rattle.std.specs.Prelude.{nat_le, Option, Some, unwrap_or}
use Rattle.report_lines.specs.Inner.Trying.{instances, first_try, pass, own_retry}
use Rattle.report_lines.proofs.Polls.{own_filter}
use Rattle.report_lines.proofs.Found.{start_within}
use Rattle.report_lines.proofs.Rising.{instances_more}

-- ---- where the orders stand

first_stays : (b : Bool) (s t : ℕ) → s ≡ t → cond b 0 (s + 1) ≡ cond b 0 (t + 1)
first_stays b s t same = ap (λ k. cond b 0 (k + 1)) same

next_stays : (b : Bool) (n k s t u v : ℕ) → suc k ≤ (if b then suc n else n) → (k ≤ n → s ≡ t) → (suc k ≤ n → u ≡ v) → cond b (s + 1) (u + 1) ≡ cond b (t + 1) (v + 1)
next_stays true n k s t u v few one other = ap (λ j. j + 1) (one (omega (arith, few)))
next_stays false n k s t u v few one other = ap (λ j. j + 1) (other few)

orders_more : (b : Bool) (item : HistItem) (items : List HistItem) → length (cond b (item ∷ items) items) ≡ (if b then suc (length items) else length items)
orders_more true item items = refl
orders_more false item items = refl

-- so many orders begin where they began
start_stays : (front : List HistItem) (item : HistItem) (more : List HistItem) (j : ℕ) → is_order item.event ≡ true → j ≤ orders front → segment_start (front ++ item ∷ more) j ≡ segment_start front j
start_stays [] item more zero ordered few = rw ordered refl
start_stays [] item more (suc j) ordered few = absurd (omega (arith, few))
start_stays (x ∷ xs) item more zero ordered few = first_stays (is_order x.event) (segment_start (xs ++ item ∷ more) zero) (segment_start xs zero) (start_stays xs item more zero ordered (omega arith))
start_stays (x ∷ xs) item more (suc j) ordered few =
    let less : suc j ≤ (if is_order x.event then suc (orders xs) else orders xs) = let all = orders_more (is_order x.event) x (filter (λ i. is_order i.event) xs) in omega (arith, few, all) in
    next_stays (is_order x.event) (orders xs) j (segment_start (xs ++ item ∷ more) j) (segment_start xs j) (segment_start (xs ++ item ∷ more) (suc j)) (segment_start xs (suc j)) less
    (start_stays xs item more j ordered) (start_stays xs item more (suc j) ordered)

kept_first : (b : Bool) (n s t : ℕ) → zero < (if b then suc n else n) → (zero < n → s ≡ t) → cond b 0 (s + 1) ≡ cond b 0 (t + 1)
kept_first true n s t few same = refl
kept_first false n s t few same = ap (λ k. k + 1) (same few)

kept_next : (b : Bool) (n k s t u v : ℕ) → suc k < (if b then suc n else n) → (k < n → s ≡ t) → (suc k < n → u ≡ v) → cond b (s + 1) (u + 1) ≡ cond b (t + 1) (v + 1)
kept_next true n k s t u v few one other = ap (λ j. j + 1) (one (omega (arith, few)))
kept_next false n k s t u v few one other = ap (λ j. j + 1) (other few)

-- an order that is there begins where it began, whatever follows
pub start_kept : (front more : List HistItem) (j : ℕ) → j < orders front → segment_start (front ++ more) j ≡ segment_start front j
start_kept [] more j few = absurd (omega (arith, few))
start_kept (x ∷ xs) more zero few =
    let less : zero < (if is_order x.event then suc (orders xs) else orders xs) = let all = orders_more (is_order x.event) x (filter (λ i. is_order i.event) xs) in omega (arith, few, all) in
    kept_first (is_order x.event) (orders xs) (segment_start (xs ++ more) zero) (segment_start xs zero) less (start_kept xs more zero)
start_kept (x ∷ xs) more (suc j) few =
    let less : suc j < (if is_order x.event then suc (orders xs) else orders xs) = let all = orders_more (is_order x.event) x (filter (λ i. is_order i.event) xs) in omega (arith, few, all) in
    kept_next (is_order x.event) (orders xs) j (segment_start (xs ++ more) j) (segment_start xs j) (segment_start (xs ++ more) (suc j)) (segment_start xs (suc j)) less
    (start_kept xs more j) (start_kept xs more (suc j))

-- ---- what has ended

range_stays : (front rest : List HistItem) (from to : ℕ) → from ≤ length front → to ≤ length front → slice_range (front ++ rest) from to ≡ slice_range front from to
range_stays front rest from to low high =
    let long = length-drop from front in
    ap (take (to - from)) (drop-append-le from front rest low) ∙ take-append-le (to - from) (drop from front) rest (omega arith)

-- the moments of these entries, and what has ended at them, are the same in the longer history
record Stays (c : PermutationRun) (more : List HistItem) (count : ℕ) : Type 0 where
  seen : (e : ℕ) → e ≤ count → seen_before (with_more c more) e ≡ seen_before c e
  ended : (e i : ℕ) → e ≤ count → i ≤ count → block_ended (with_more c more) (seen_before c e) i ≡ block_ended c (seen_before c e) i

-- at this moment the blocks of these entries have ended in both histories or in neither
abbrev EndAlike : PermutationRun → List HistItem → ℕ → Moment → Type 0
EndAlike c more count m = (i : ℕ) → i ≤ count → block_ended (with_more c more) m.seen i ≡ block_ended c m.seen i

-- ---- the tries

may_same : (c : PermutationRun) (more : List HistItem) (count : ℕ) (m : Moment) (lines : List Line) (i : ℕ) → EndAlike c more count m → i ≤ count → can_report (with_more c more) m lines i ≡ can_report c m lines i
may_same c more count m lines i same le = ap (λ b. b && not (list_any (is_awaited c i) (active lines m.launched))) (same i le)

retry_same : (c : PermutationRun) (more : List HistItem) (count : ℕ) (m : Moment) (lines : List Line) (i : ℕ) → EndAlike c more count m → i ≤ count → try_again (with_more c more) m lines i ≡ try_again c m lines i
retry_same c more count m lines i same le = ap (λ b. if not (is_reported lines i) && b then lines ++ Completed i m.seen ∷ [] else lines) (may_same c more count m lines i same le)

own_same : (c : PermutationRun) (more : List HistItem) (count : ℕ) (m : Moment) (session : ℕ) (lines : List Line) (i : ℕ) → EndAlike c more count m → i ≤ count → own_retry (with_more c more) m session lines i ≡ own_retry c m session lines i
own_same c more count m session lines i same le = ap (λ w. if is_of c session i then w else lines) (retry_same c more count m lines i same le)

fold_same : (f g : List Line → ℕ → List Line) (n : ℕ) (lines : List Line) → ((w : List Line) (i : ℕ) → i < n → f w i ≡ g w i) → fold f lines (instances n) ≡ fold g lines (instances n)
fold_same f g zero lines same = refl
fold_same f g (suc n) lines same =
    ap (fold f lines) (instances_more n)
    ∙ fold-append f lines (instances n) (n ∷ [])
    ∙ same (fold f lines (instances n)) n (omega arith)
    ∙ ap (λ w. g w n) (fold_same f g n lines (λ w i less. same w i (omega (arith, less))))
    ∙ sym (ap (fold g lines) (instances_more n) ∙ fold-append g lines (instances n) (n ∷ []))

own_steps_same : (c : PermutationRun) (more : List HistItem) (count : ℕ) (m : Moment) (session n : ℕ) (lines : List Line) → EndAlike c more count m → n ≤ count
    → fold (try_again (with_more c more) m) lines (filter (is_of c session) (instances n)) ≡ fold (try_again c m) lines (filter (is_of c session) (instances n))
own_steps_same c more count m session n lines same le =
    sym (own_filter (with_more c more) m session (instances n) lines)
    ∙ fold_same (own_retry (with_more c more) m session) (own_retry c m session) n lines (λ w i less. own_same c more count m session w i same (omega (arith, less, le)))
    ∙ own_filter c m session (instances n) lines

pass_same : (c : PermutationRun) (more : List HistItem) (count : ℕ) (m : Moment) (lines : List Line) → EndAlike c more count m → m.joined ≤ count → pass (with_more c more) m lines ≡ pass c m lines
pass_same c more count m lines same le = fold_same (try_again (with_more c more) m) (try_again c m) m.joined lines (λ w i less. retry_same c more count m w i same (omega (arith, less)))

polled_same : (c : PermutationRun) (more : List HistItem) (count : ℕ) (m : Moment) (counted : ℕ) (lines : List Line) → EndAlike c more count m → m.joined ≤ count → polled (with_more c more) m counted lines ≡ polled c m counted lines
polled_same c more count m zero lines same le = refl
polled_same c more count m (suc counted) lines same le =
    ap (λ (new : List Line). if polls_again c m lines new then polled (with_more c more) m counted new else new) (pass_same c more count m lines same le)
    ∙ ap (λ (w : List Line). if polls_again c m lines (pass c m lines) then w else pass c m lines) (polled_same c more count m counted (pass c m lines) same le)

poll_same : (c : PermutationRun) (more : List HistItem) (count : ℕ) (m : Moment) (lines : List Line) → EndAlike c more count m → m.joined ≤ count → all_polls (with_more c more) m lines ≡ all_polls c m lines
poll_same c more count m lines same le = polled_same c more count m (m.joined + 1) lines same le

first_same : (c : PermutationRun) (more : List HistItem) (count : ℕ) (m : Moment) (lines : List Line) (i : ℕ) → EndAlike c more count m → i ≤ count → first_try (with_more c more) m lines i ≡ first_try c m lines i
first_same c more count m lines i same le = ap (λ b. lines ++ (if b && not (list_any is_star (markers_of c i)) then AtOnce i m.seen else Waiting i) ∷ []) (may_same c more count m lines i same le)

-- ---- the entries

before_same : (c : PermutationRun) (more : List HistItem) (count e : ℕ) → Stays c more count → e ≤ count → moment_of (with_more c more) e e ≡ moment_of c e e
before_same c more count e stays le = ap (λ (s : ℕ). record { seen = s; launched = e; joined = e }) (stays.seen e le)

after_same : (c : PermutationRun) (more : List HistItem) (count e : ℕ) → Stays c more count → e + 1 ≤ count → moment_of (with_more c more) (e + 1) e ≡ moment_of c (e + 1) e
after_same c more count e stays le = ap (λ (s : ℕ). record { seen = s; launched = e + 1; joined = e }) (stays.seen (e + 1) le)

before_poll : (c : PermutationRun) (more : List HistItem) (count e : ℕ) (lines : List Line) → Stays c more count → e ≤ count → all_polls (with_more c more) (moment_of (with_more c more) e e) lines ≡ all_polls c (moment_of c e e) lines
before_poll c more count e lines stays le =
    ap (λ (m : Moment). all_polls (with_more c more) m lines) (before_same c more count e stays le)
    ∙ poll_same c more count (moment_of c e e) lines (λ i low. stays.ended e i le low) le

way_same : (c : PermutationRun) (more : List HistItem) (count e : ℕ) (lines : List Line) → Stays c more count → e ≤ count → before_launch (with_more c more) lines e ≡ before_launch c lines e
way_same c more count e lines stays le =
    let same : EndAlike c more count (moment_of c e e) = λ i low. stays.ended e i le low in
    ap (λ (m : Moment). if has_unreported c lines e then all_polls (with_more c more) m (fold (try_again (with_more c more) m) lines (filter (is_of c (session_of_entry c e)) (instances e))) else lines) (before_same c more count e stays le)
    ∙ ap (λ (w : List Line). if has_unreported c lines e then w else lines)
    (poll_same c more count (moment_of c e e) (fold (try_again (with_more c more) (moment_of c e e)) lines (filter (is_of c (session_of_entry c e)) (instances e))) same le
    ∙ ap (all_polls c (moment_of c e e)) (own_steps_same c more count (moment_of c e e) (session_of_entry c e) e lines same le))

launched_same : (c : PermutationRun) (more : List HistItem) (count e : ℕ) (lines : List Line) → Stays c more count → e + 1 ≤ count → after_launch (with_more c more) lines e ≡ after_launch c lines e
launched_same c more count e lines stays le =
    let same : EndAlike c more count (moment_of c (e + 1) e) = λ i low. stays.ended (e + 1) i le low in
    ap (λ (m : Moment). all_polls (with_more c more) m (first_try (with_more c more) m lines e)) (after_same c more count e stays le)
    ∙ poll_same c more count (moment_of c (e + 1) e) (first_try (with_more c more) (moment_of c (e + 1) e) lines e) same (omega (arith, le))
    ∙ ap (all_polls c (moment_of c (e + 1) e)) (first_same c more count (moment_of c (e + 1) e) lines e same (omega (arith, le)))

if_same : {A : Type 0} (b : Bool) (x y z : A) → (true ≡ b → x ≡ y) → (if b then x else z) ≡ (if b then y else z)
if_same true x y z same = same refl
if_same false x y z same = refl

from_same : (c : PermutationRun) (more : List HistItem) (count e rest : ℕ) (lines : List Line) → Stays c more count → e ≤ count → walked_from (with_more c more) e rest count lines ≡ walked_from c e rest count lines
from_same c more count e zero lines stays le =
    ap (λ (all : List Line). record { lines = all; state = if length (active all e) == 0 then Whole else Invalid }) (before_poll c more count e lines stays le)
from_same c more count e (suc rest) lines stays le =
    let way = before_launch c lines e in
    ap (λ (w : List Line). if has_unreported c w e then record { lines = w; state = Invalid } else (if nat_lt e count then walked_from (with_more c more) (e + 1) rest count (after_launch (with_more c more) w e) else record { lines = w; state = Due e })) (way_same c more count e lines stays le)
    ∙ ap (λ (r : Report). if has_unreported c way e then record { lines = way; state = Invalid } else r)
    (if_same (nat_lt e count) (walked_from (with_more c more) (e + 1) rest count (after_launch (with_more c more) way e)) (walked_from c (e + 1) rest count (after_launch c way e)) (record { lines = way; state = Due e })
    (λ less. let next : e + 1 ≤ count = grind arith in ap (walked_from (with_more c more) (e + 1) rest count) (launched_same c more count e way stays next) ∙ from_same c more count (e + 1) rest (after_launch c way e) stays next))

stays_so : (c : PermutationRun) (item : HistItem) (more : List HistItem) (count : ℕ) → is_order item.event ≡ true → orders c.items ≡ c.setups + count → Stays c (item ∷ more) count
stays_so c item more count ordered all =
    let seen : (e : ℕ) → e ≤ count → seen_before (with_more c (item ∷ more)) e ≡ seen_before c e = λ e le. start_stays c.items item more (c.setups + e) ordered (omega (arith, le, all)) in
    record {
      seen = seen;
      ended = λ e i le low.
          ap (λ s. list_any (ends_in (session_of_entry c i)) (slice_range (c.items ++ item ∷ more) s (seen_before c e))) (seen i low)
          ∙ ap (list_any (ends_in (session_of_entry c i))) (range_stays c.items (item ∷ more) (seen_before c i) (seen_before c e) (start_within c.items (c.setups + i)) (start_within c.items (c.setups + e)));
    }

pub front_stays : (c : PermutationRun) (item : HistItem) (more : List HistItem) (count : ℕ) → is_order item.event ≡ true → orders c.items ≡ c.setups + count → walked (with_more c (item ∷ more)) count ≡ walked c count
front_stays c item more count ordered all = from_same c (item ∷ more) count 0 (length c.entries) [] (stays_so c item more count ordered all) (omega arith)

stays_kept : (c : PermutationRun) (more : List HistItem) (count : ℕ) → c.setups + count < orders c.items → Stays c more count
stays_kept c more count past =
    let seen : (e : ℕ) → e ≤ count → seen_before (with_more c more) e ≡ seen_before c e = λ e le. start_kept c.items more (c.setups + e) (omega (arith, le, past)) in
    record {
      seen = seen;
      ended = λ e i le low.
          ap (λ s. list_any (ends_in (session_of_entry c i)) (slice_range (c.items ++ more) s (seen_before c e))) (seen i low)
          ∙ ap (list_any (ends_in (session_of_entry c i))) (range_stays c.items more (seen_before c i) (seen_before c e) (start_within c.items (c.setups + i)) (start_within c.items (c.setups + e)));
    }

-- what was told before an order that is there stays so, whatever follows
pub past_stays : (c : PermutationRun) (more : List HistItem) (count : ℕ) → c.setups + count < orders c.items → walked (with_more c more) count ≡ walked c count
past_stays c more count past = from_same c more count 0 (length c.entries) [] (stays_kept c more count past) (omega arith)

-- ---- the next order

segment_stays : (front : List HistItem) (item : HistItem) (more : List HistItem) (k : ℕ) → is_order item.event ≡ true → k < orders front → segment (front ++ item ∷ more) k ≡ segment front k
segment_stays front item more k ordered less =
    ap (λ a. slice_range (front ++ item ∷ more) a (segment_start (front ++ item ∷ more) (k + 1))) (start_stays front item more k ordered (omega (arith, less)))
    ∙ ap (λ b. slice_range (front ++ item ∷ more) (segment_start front k) b) (start_stays front item more (k + 1) ordered (omega (arith, less)))
    ∙ range_stays front (item ∷ more) (segment_start front k) (segment_start front (k + 1)) (start_within front k) (start_within front (k + 1))

unless_same : {A : Type 0} (b : Bool) (x y z : A) → (false ≡ b → x ≡ y) → (if b then z else x) ≡ (if b then z else y)
unless_same true x y z same = refl
unless_same false x y z same = same refl

setup_stays : (front : List HistItem) (item : HistItem) (more : List HistItem) (k : ℕ) (ts : List PlannedLaunch) → is_order item.event ≡ true → due_setup (front ++ item ∷ more) (orders front) k ts ≡ due_setup front (orders front) k ts
setup_stays front item more k [] ordered = refl
setup_stays front item more k (t ∷ ts) ordered =
    unless_same (nat_le (orders front) k)
    (if went_well (front ++ item ∷ more) k t.session then due_setup (front ++ item ∷ more) (orders front) (k + 1) ts else Some Stop)
    (if went_well front k t.session then due_setup front (orders front) (k + 1) ts else Some Stop)
    (Some (launch t))
    (λ some. let less : k < orders front = grind arith in
    ap (λ (w : List HistItem). if list_any (ends_in t.session) w && not (list_any (λ (i : HistItem). is_failed i.reply.outcome) w) then due_setup (front ++ item ∷ more) (orders front) (k + 1) ts else Some Stop) (segment_stays front item more k ordered less)
    ∙ ap (λ (o : Option Order). if went_well front k t.session then o else Some Stop) (setup_stays front item more (k + 1) ts ordered))

teardowns_stay : (front : List HistItem) (item : HistItem) (more : List HistItem) (k : ℕ) (ts : List PlannedLaunch) → is_order item.event ≡ true → teardowns_so_far (front ++ item ∷ more) (orders front) k ts ≡ teardowns_so_far front (orders front) k ts
teardowns_stay front item more k [] ordered = refl
teardowns_stay front item more k (t ∷ ts) ordered =
    let d = front ++ item ∷ more in
    let count = orders front in
    unless_same (nat_le count k)
    (if is_over d k t.session then teardowns_so_far d count (k + 1) ts else (if nat_le count (k + 1) then record { orders = k; due = Some (Leave t.session) } else teardowns_so_far d count (k + 2) ts))
    (if is_over front k t.session then teardowns_so_far front count (k + 1) ts else (if nat_le count (k + 1) then record { orders = k; due = Some (Leave t.session) } else teardowns_so_far front count (k + 2) ts))
    (record { orders = k; due = Some (launch t) })
    (λ some. let less : k < orders front = grind arith in
    ap (λ (w : List HistItem). if list_any (ends_in t.session) w then teardowns_so_far d count (k + 1) ts else (if nat_le count (k + 1) then record { orders = k; due = Some (Leave t.session) } else teardowns_so_far d count (k + 2) ts)) (segment_stays front item more k ordered less)
    ∙ ap (λ (x : TeardownsSoFar). if is_over front k t.session then x else (if nat_le count (k + 1) then record { orders = k; due = Some (Leave t.session) } else teardowns_so_far d count (k + 2) ts)) (teardowns_stay front item more (k + 1) ts ordered)
    ∙ ap (λ (x : TeardownsSoFar). if is_over front k t.session then teardowns_so_far front count (k + 1) ts else (if nat_le count (k + 1) then record { orders = k; due = Some (Leave t.session) } else x)) (teardowns_stay front item more (k + 2) ts ordered))

last_stays : (l : Launches) (front : List HistItem) (item : HistItem) (more : List HistItem) (w : TeardownsSoFar) → is_order item.event ≡ true → due_last l (front ++ item ∷ more) (orders front) w ≡ due_last l front (orders front) w
last_stays l front item more w ordered =
    let count = orders front in
    ap (λ (x : TeardownsSoFar). unwrap_or w.due (if nat_lt count (w.orders + l.sessions) then Leave (count - w.orders + 1) else unwrap_or x.due Stop))
    (teardowns_stay front item more (w.orders + l.sessions) l.last ordered)

entry_stays : (l : Launches) (front : List HistItem) (item : HistItem) (more : List HistItem) (state : RunState) → is_order item.event ≡ true → due_entry l (front ++ item ∷ more) (orders front) state ≡ due_entry l front (orders front) state
entry_stays l front item more (Due e) ordered = refl
entry_stays l front item more Invalid ordered = refl
entry_stays l front item more Whole ordered =
    ap (due_last l (front ++ item ∷ more) (orders front)) (teardowns_stay front item more (length l.setups + length l.steps) l.teardowns ordered)
    ∙ last_stays l front item more (teardowns_so_far front (orders front) (length l.setups + length l.steps) l.teardowns) ordered

-- where setups are still due, nothing else is
case_first : (b g : Bool) (x y : Order) (some stop : Order) (rest : Option Order) → (false ≡ b → unwrap_or rest x ≡ unwrap_or rest y) → unwrap_or (if b then Some some else (if g then rest else Some stop)) x ≡ unwrap_or (if b then Some some else (if g then rest else Some stop)) y
case_first true g x y some stop rest same = refl
case_first false true x y some stop rest same = same refl
case_first false false x y some stop rest same = refl

setups_first : (items : List HistItem) (count k : ℕ) (ts : List PlannedLaunch) (x y : Order) → count < k + length ts → k ≤ count → unwrap_or (due_setup items count k ts) x ≡ unwrap_or (due_setup items count k ts) y
setups_first items count k [] x y less le = absurd (omega (arith, less, le))
setups_first items count k (t ∷ ts) x y less le =
    case_first (nat_le count k) (went_well items k t.session) x y (launch t) Stop (due_setup items count (k + 1) ts)
    (λ past. let next : k + 1 ≤ count = grind arith in setups_first items count (k + 1) ts x y (omega (arith, less)) next)

due_case : (l : Launches) (c : PermutationRun) (item : HistItem) (more : List HistItem) → is_order item.event ≡ true → c.setups ≡ length l.setups → (orders c.items < length l.setups) ⊎ (length l.setups ≤ orders c.items) → due l (with_more c (item ∷ more)) (orders c.items) ≡ due l c (orders c.items)
due_case l c item more ordered setups (inr le) =
    let count = orders c.items in
    let split : count ≡ c.setups + (count - length l.setups) = omega (arith, le, setups) in
    ap (λ (o : Option Order). unwrap_or o (due_entry l (c.items ++ item ∷ more) count (walked (with_more c (item ∷ more)) (count - length l.setups)).state)) (setup_stays c.items item more 0 l.setups ordered)
    ∙ ap (λ (r : Report). unwrap_or (due_setup c.items count 0 l.setups) (due_entry l (c.items ++ item ∷ more) count r.state)) (front_stays c item more (count - length l.setups) ordered split)
    ∙ ap (unwrap_or (due_setup c.items count 0 l.setups)) (entry_stays l c.items item more (walked c (count - length l.setups)).state ordered)
due_case l c item more ordered setups (inl less) =
    let count = orders c.items in
    let other = due_entry l (c.items ++ item ∷ more) count (walked (with_more c (item ∷ more)) (count - length l.setups)).state in
    ap (λ (o : Option Order). unwrap_or o other) (setup_stays c.items item more 0 l.setups ordered)
    ∙ setups_first c.items count 0 l.setups other (due_entry l c.items count (walked c (count - length l.setups)).state) (omega (arith, less)) (omega arith)

pub due_stays : (l : Launches) (c : PermutationRun) (item : HistItem) (more : List HistItem) → is_order item.event ≡ true → c.setups ≡ length l.setups → due l (with_more c (item ∷ more)) (orders c.items) ≡ due l c (orders c.items)
due_stays l c item more ordered setups = due_case l c item more ordered setups (cases_lt (orders c.items) (length l.setups))

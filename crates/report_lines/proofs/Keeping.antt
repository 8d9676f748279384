-- What is kept of a permutation, as its history goes on.
use Rattle.std.proofs.Common.{◌≡◌, ◌≢◌, ◌==◌, ◌&&◌, append-nil, ℕ, zero, suc, ◌+◌, ◌-◌, ◌<◌, ◌≤◌, ◌⊎◌, inl, inr, List, [], ◌∷◌, ◌++◌, length, length-append, length-take, take, take-take, get_or, refl, ap, sym, ◌∙◌, subst, arith, true, false, Bool, cond, if◌then◌else◌, nat_lt, Some, slice_get, slice_set}
use Rattle.std.specs.Prelude.{IfOk, OnErr, Result, Ok, Err}
use Rattle.std.specs.List.{filter}
use Rattle.std.proofs.lemmas.List.Elements.{filter-append}
use Rattle.std.proofs.lemmas.List.{get_or-set_same, get_or-set_other, length-set, take_more}
use Rattle.std.proofs.lemmas.Option.{slice_get-get_or}
use Rattle.std.proofs.lemmas.Bool.{cases_lt}
use Rattle.session_machine.specs.declared.reply.HistItem.{HistItem}
use Rattle.report_lines.specs.declared.history.RunState.{RunState}
use Rattle.report_lines.specs.declared.history.RunState.TheVariants.{Due, Whole, Invalid}
use Rattle.report_lines.specs.declared.progress.PlanProgress.{PlanProgress}
use Rattle.session_machine.specs.Machine.{session_of}
use Rattle.report_lines.specs.Starts.{is_order, ends_in}
use Rattle.report_lines.specs.Due.{orders}
use Rattle.report_lines.specs.History.{PermutationRun}
use Rattle.report_lines.specs.Code.Walk.{walked, walked_from, after_launch}
use Rattle.report_lines.specs.Code.SoFar.{LinesSoFar, IsAt, IsReportSoFar}
use Rattle.report_lines.specs.Code.Places.{starts_from, last_end, IsTimed, IsSeen}
use Rattle.report_lines.specs.Inner.Places.{ended_behind, ends_after, starts_after}
use Rattle.report_lines.specs.Code.Progress.{Keeps, KeepsFront, IsSettled, first_items}
use Rattle.report_lines.specs.Inner.Progress.{Lags, IsNoted}
use Rattle.report_lines.specs.Fronts.{with_more}
use Rattle.report_lines.proofs.Reports.{first_same, report_next, report_over, whole_due, invalid_due}
use Rattle.report_lines.proofs.Fronts.{front_stays, past_stays}
use Rattle.report_lines.proofs.Found.{count_found}

-- ---- one item more

one_more : (b : Bool) (p : ℕ) (rest : List ℕ) (new : List ℕ) → cond b (p ∷ rest ++ new) (rest ++ new) ≡ cond b (p ∷ rest) rest ++ new
one_more true p rest new = refl
one_more false p rest new = refl

last_place : (b : Bool) (p q : ℕ) → p ≡ q → cond b (p ∷ []) [] ≡ (if b then q ∷ [] else [])
last_place true p q same = ap (λ k. k ∷ []) same
last_place false p q same = refl

-- the places of the orders
abbrev added : HistItem → ℕ → List ℕ
added item place = if is_order item.event then place ∷ [] else []

pub starts_more : (items : List HistItem) (p : ℕ) (item : HistItem) → starts_from p (items ++ item ∷ []) ≡ starts_from p items ++ (if is_order item.event then (p + length items) ∷ [] else [])
starts_more [] p item = last_place (is_order item.event) p (p + 0) (omega arith)
starts_more (x ∷ xs) p item =
    let same : p + 1 + length xs ≡ p + length (x ∷ xs) = omega arith in
    ap (λ (w : List ℕ). cond (is_order x.event) (p ∷ w) w) (starts_more xs (p + 1) item ∙ ap (λ k. starts_from (p + 1) xs ++ added item k) same)
    ∙ one_more (is_order x.event) p (starts_from (p + 1) xs) (added item (p + length (x ∷ xs)))

last_more : (session p found : ℕ) (items : List HistItem) (item : HistItem) → last_end session p found (items ++ item ∷ []) ≡ (if ends_in session item then (p + length items + 1) else last_end session p found items)
last_more session p found [] item = let same : p + 0 + 1 ≡ p + 1 = omega arith in ap (λ k. if ends_in session item then k else found) (sym same)
last_more session p found (x ∷ xs) item =
    let now = if ends_in session x then (p + 1) else found in
    let same : p + 1 + length xs + 1 ≡ p + length (x ∷ xs) + 1 = omega arith in
    last_more session (p + 1) now xs item ∙ ap (λ k. if ends_in session item then k else last_end session (p + 1) now xs) same

one_order : (b : Bool) (item : HistItem) → b ≡ true → length (cond b (item ∷ []) []) ≡ 1
one_order true item h = refl
one_order false item h = cc

no_order : (b : Bool) (item : HistItem) → b ≡ false → length (cond b (item ∷ []) []) ≡ 0
no_order true item h = cc
no_order false item h = refl

orders_snoc : (items : List HistItem) (item : HistItem) → orders (items ++ item ∷ []) ≡ orders items + length (cond (is_order item.event) (item ∷ []) [])
orders_snoc items item =
    ap length (filter-append (λ (i : HistItem). is_order i.event) items (item ∷ []))
    ∙ length-append (filter (λ (i : HistItem). is_order i.event) items) (filter (λ (i : HistItem). is_order i.event) (item ∷ []))

-- ---- the lines so far stay

is_at_longer : (c : PermutationRun) (more : List HistItem) (count launched : ℕ) (s : RunState) → IsAt c count launched s → IsAt (with_more c more) count launched s
is_at_longer c more count launched (Due e) h = h
is_at_longer c more count launched Whole h = h
is_at_longer c more count launched Invalid h = h

tells_longer : (c : PermutationRun) (more : List HistItem) (count : ℕ) (t : LinesSoFar) (s : RunState) → walked (with_more c more) count ≡ walked c count → IsReportSoFar c count t s → IsReportSoFar (with_more c more) count t s
tells_longer c more count t s same h = record { report_is = same ∙ h.report_is; at = is_at_longer c more count t.launched s h.at }

-- before an order
before_order : (c : PermutationRun) (item : HistItem) (count : ℕ) → is_order item.event ≡ true → count ≡ orders c.items - c.setups → (orders c.items < c.setups) ⊎ (c.setups ≤ orders c.items) → walked (with_more c (item ∷ [])) count ≡ walked c count
before_order c item count ordered is (inl few) =
    let none : count ≡ 0 = omega (arith, is, few) in
    rw none (first_same (with_more c (item ∷ [])) c refl)
before_order c item count ordered is (inr enough) =
    let all : orders c.items ≡ c.setups + count = omega (arith, is, enough) in
    front_stays c item [] count ordered all

-- within a segment whose lines are missing
within_segment : (c : PermutationRun) (item : HistItem) (count : ℕ) → count ≡ orders c.items - (c.setups + 1) → count ≤ orders c.items - c.setups → (c.setups < orders c.items) ⊎ (orders c.items ≤ c.setups) → walked (with_more c (item ∷ [])) count ≡ walked c count
within_segment c item count lags low (inl past) = past_stays c (item ∷ []) count (omega (arith, lags, past))
within_segment c item count lags low (inr few) =
    let none : count ≡ 0 = omega (arith, low, few) in
    rw none (first_same (with_more c (item ∷ [])) c refl)

-- ---- what is kept stays right

abbrev Apart : ℕ → ℕ → Type 0
Apart a b = (a < b) ⊎ (b < a)

not_same : (a b : ℕ) → Apart a b → b ≢ a
not_same a b (inl less) same = omega (arith, less, same)
not_same a b (inr more) same = omega (arith, more, same)

differ : (a b : ℕ) → Apart a b → (a == b) ≡ false
differ a b (inl less) = grind arith
differ a b (inr more) = grind arith

ended_other : (b : Bool) (last : List ℕ) (session place k : ℕ) → Apart session k → get_or (if b then slice_set last session place else last) k 0 ≡ get_or last k 0
ended_other true last session place k apart = get_or-set_other last session k place 0 (not_same session k apart)
ended_other false last session place k apart = refl

ended_apart : (last : List ℕ) (session place k : ℕ) → Apart session k → get_or (ended_behind last session place) k 0 ≡ (if session == k then place else get_or last k 0)
ended_apart last session place k apart = rw (differ session k apart) (ended_other (nat_lt session (length last)) last session place k apart)

ended_case : (last : List ℕ) (session place k : ℕ) → k < length last → (session < k) ⊎ (k ≤ session) → (k < session) ⊎ (session ≤ k) → get_or (ended_behind last session place) k 0 ≡ (if session == k then place else get_or last k 0)
ended_case last session place k within (inl less) other = ended_apart last session place k (inl less)
ended_case last session place k within (inr le) (inl more) = ended_apart last session place k (inr more)
ended_case last session place k within (inr le) (inr ge) =
    let same : session ≡ k = omega arith in
    let is : (k == k) ≡ true = grind arith in
    let there : nat_lt k (length last) ≡ true = grind arith in
    rw (same, is, there) (get_or-set_same last k place 0 within)

ended_at : (last : List ℕ) (session place k : ℕ) → k < length last → get_or (ended_behind last session place) k 0 ≡ (if session == k then place else get_or last k 0)
ended_at last session place k within = ended_case last session place k within (cases_lt session k) (cases_lt k session)

length_case : (b : Bool) (last : List ℕ) (session place : ℕ) → length (if b then slice_set last session place else last) ≡ length last
length_case true last session place = length-set last session place
length_case false last session place = refl

length_after : (b : Bool) (last : List ℕ) (session place : ℕ) → length (if b then ended_behind last session place else last) ≡ length last
length_after true last session place = length_case (nat_lt session (length last)) last session place
length_after false last session place = refl

after_case : (b e : Bool) (session place k old : ℕ) (last : List ℕ) → k < length last → e ≡ (session == k) → get_or last k 0 ≡ old → get_or (if b then ended_behind last session place else last) k 0 ≡ (if e && b then place else old)
after_case true true session place k old last within is so_far = ended_at last session place k within ∙ ap (λ b. if b then place else get_or last k 0) (sym is)
after_case true false session place k old last within is so_far = ended_at last session place k within ∙ ap (λ b. if b then place else get_or last k 0) (sym is) ∙ so_far
after_case false true session place k old last within is so_far = so_far
after_case false false session place k old last within is so_far = so_far

timed_more : (c : PermutationRun) (item : HistItem) (last : List ℕ) → IsTimed c last → IsTimed (with_more c (item ∷ [])) (ends_after item (length c.items + 1) last)
timed_more c item last timed = record {
  room = timed.room;
  ends_at = λ k within.
      let long = length_after item.reply.ended last (session_of item.event) (length c.items + 1) in
      let less : k < length last = omega (arith, within, long) in
      let place : 0 + length c.items + 1 ≡ length c.items + 1 = omega arith in
      after_case item.reply.ended (session_of item.event == k) (session_of item.event) (length c.items + 1) k (last_end k 0 0 c.items) last less refl (timed.ends_at k less)
      ∙ sym (last_more k 0 0 c.items item ∙ ap (λ j. if ends_in k item then j else last_end k 0 0 c.items) place);
}

starts_case : (b : Bool) (starts : List ℕ) (p q : ℕ) → p ≡ q → (if b then starts ++ p ∷ [] else starts) ≡ starts ++ (if b then q ∷ [] else [])
starts_case true starts p q same = ap (λ k. starts ++ k ∷ []) same
starts_case false starts p q same = sym (append-nil starts)

seen_more : (c : PermutationRun) (item : HistItem) (starts last : List ℕ) (place : ℕ) → place ≡ length c.items → IsSeen c starts last → IsSeen (with_more c (item ∷ [])) (starts_after item place starts) (ends_after item (place + 1) last)
seen_more c item starts last place is seen = record {
  starts_are =
      let at : place ≡ 0 + length c.items = omega (arith, is) in
      starts_case (is_order item.event) starts place (0 + length c.items) at
      ∙ ap (λ (w : List ℕ). w ++ (if is_order item.event then (0 + length c.items) ∷ [] else [])) seen.starts_are
      ∙ sym (starts_more c.items 0 item);
  timed = subst (λ k. IsTimed (with_more c (item ∷ [])) (ends_after item (k + 1) last)) (sym is) (timed_more c item last seen.timed);
}

keeps_next : (c : PermutationRun) (item : HistItem) (p q : PlanProgress) → Keeps c p → walked (with_more c (item ∷ [])) p.segments_done ≡ walked c p.segments_done → p.segments_done ≡ orders (c.items ++ item ∷ []) - (c.setups + 1) → IsNoted item p q → Keeps (with_more c (item ∷ [])) q
keeps_next c item p q kept same lags n =
    let long = length-append c.items (item ∷ []) in
    let at = kept.seen_are in
    let seen = n.seen_is in
    let done = n.segments_done_is in
    let found : IsSeen (with_more c (item ∷ [])) q.starts.items q.last.items =
    subst (λ (w : List ℕ). IsSeen (with_more c (item ∷ [])) q.starts.items w) (sym n.last_is)
    (subst (λ (w : List ℕ). IsSeen (with_more c (item ∷ [])) w (ends_after item (p.seen + 1) p.last.items)) (sym n.starts_are)
    (seen_more c item p.starts.items p.last.items p.seen at kept.found)) in
    let tells : IsReportSoFar (with_more c (item ∷ [])) q.segments_done q.so_far q.state =
    subst (λ k. IsReportSoFar (with_more c (item ∷ [])) k q.so_far q.state) (sym done)
    (subst (λ (t : LinesSoFar). IsReportSoFar (with_more c (item ∷ [])) p.segments_done t q.state) (sym n.so_far_is)
    (subst (λ (s : RunState). IsReportSoFar (with_more c (item ∷ [])) p.segments_done p.so_far s) (sym n.state_is)
    (tells_longer c (item ∷ []) p.segments_done p.so_far p.state same kept.reported))) in
    record {
      seen_are = omega (arith, seen, at, long);
      found = found;
      reported = tells;
      low = omega (arith, lags, done);
      high = omega (arith, lags, done);
    }

-- an order follows a segment whose lines are there
order_lags : (c : PermutationRun) (item : HistItem) (count : ℕ) → is_order item.event ≡ true → count ≡ orders c.items - c.setups → count ≡ orders (c.items ++ item ∷ []) - (c.setups + 1)
order_lags c item count ordered is =
    let more = orders_snoc c.items item in
    let one = one_order (is_order item.event) item ordered in
    omega (arith, is, more, one)

order_stays : (c : PermutationRun) (item : HistItem) (count : ℕ) → is_order item.event ≡ true → count ≡ orders c.items - c.setups → walked (with_more c (item ∷ [])) count ≡ walked c count
order_stays c item count ordered is = before_order c item count ordered is (cases_lt (orders c.items) c.setups)

-- a Step follows within the last segment
step_lags : (c : PermutationRun) (item : HistItem) (count : ℕ) → is_order item.event ≡ false → count ≡ orders c.items - (c.setups + 1) → count ≡ orders (c.items ++ item ∷ []) - (c.setups + 1)
step_lags c item count step is =
    let more = orders_snoc c.items item in
    let none = no_order (is_order item.event) item step in
    omega (arith, is, more, none)

step_stays : (c : PermutationRun) (item : HistItem) (count : ℕ) → count ≡ orders c.items - (c.setups + 1) → count ≤ orders c.items - c.setups → walked (with_more c (item ∷ [])) count ≡ walked c count
step_stays c item count is low = within_segment c item count is low (cases_lt c.setups (orders c.items))

-- what is kept once an order has come, and that the lines of its segment are missing
pub seen_order : (c : PermutationRun) (item : HistItem) (p q : PlanProgress) → IsSettled c p → is_order item.event ≡ true → IsNoted item p q → Keeps (with_more c (item ∷ [])) q
seen_order c item p q settled ordered n = keeps_next c item p q settled.kept (order_stays c item p.segments_done ordered settled.all) (order_lags c item p.segments_done ordered settled.all) n

pub order_waits : (c : PermutationRun) (item : HistItem) (p q : PlanProgress) → IsSettled c p → is_order item.event ≡ true → IsNoted item p q → Lags (with_more c (item ∷ [])) q
order_waits c item p q settled ordered n = n.segments_done_is ∙ order_lags c item p.segments_done ordered settled.all

in_segment : (c : PermutationRun) (item : HistItem) (p : PlanProgress) → is_order item.event ≡ false → (is_order item.event ≡ true) ⊎ Lags c p → Lags c p
in_segment c item p step (inl ordered) = cc
in_segment c item p step (inr lags) = lags

-- the same for a Step
pub seen_step : (c : PermutationRun) (item : HistItem) (p q : PlanProgress) → Keeps c p → (is_order item.event ≡ true) ⊎ Lags c p → is_order item.event ≡ false → IsNoted item p q → Keeps (with_more c (item ∷ [])) q
seen_step c item p q kept next step n =
    let lags = in_segment c item p step next in
    keeps_next c item p q kept (step_stays c item p.segments_done lags kept.low) (step_lags c item p.segments_done step lags) n

pub step_waits : (c : PermutationRun) (item : HistItem) (p q : PlanProgress) → (is_order item.event ≡ true) ⊎ Lags c p → is_order item.event ≡ false → IsNoted item p q → Lags (with_more c (item ∷ [])) q
step_waits c item p q next step n = n.segments_done_is ∙ step_lags c item p.segments_done step (in_segment c item p step next)

-- ---- the lines of the next segment

pub both : {X E : Type 0} (r : Result X E) (P Q R : X → Type 0) → ((x : X) → P x → Q x → R x) → IfOk r P → IfOk r Q → IfOk r R
both (Ok x) P Q R f p q = f x p q
both (Err e) P Q R f p q = tt

pub tells_over : (c : PermutationRun) (count : ℕ) (t : LinesSoFar) (s : RunState) → IsReportSoFar c count t s → (s ≡ Whole) ⊎ (s ≡ Invalid) → IsReportSoFar c (count + 1) t s
tells_over c count t (Due e) reported (inl h) = absurd (whole_due e (sym h))
tells_over c count t (Due e) reported (inr h) = absurd (invalid_due e (sym h))
tells_over c count t Whole reported h = record { report_is = report_over c count t.lines Whole refl reported.report_is; at = reported.at }
tells_over c count t Invalid reported h = record { report_is = report_over c count t.lines Invalid refl reported.report_is; at = reported.at }

tells_due : (c : PermutationRun) (count e : ℕ) (t new : LinesSoFar) (next : RunState) → IsReportSoFar c count t (Due e)
    → walked_from c (count + 1) (length c.entries - (count + 1)) (count + 1) (after_launch c t.lines count) ≡ record { lines = new.lines; state = next } → IsAt c (count + 1) new.launched next → IsReportSoFar c (count + 1) new next
tells_due c count e t new next reported h at = record { report_is = report_next c count t.lines e reported.report_is ∙ h; at = at }

pub tells_next : (c : PermutationRun) (count e l : ℕ) (t mid new : LinesSoFar) (s next : RunState) → IsReportSoFar c count t s → s ≡ Due e → mid ≡ record { lines = after_launch c t.lines t.launched; launched = t.launched + 1 } → l ≡ mid.launched
    → walked_from c l (length c.entries - l) l mid.lines ≡ record { lines = new.lines; state = next } → IsAt c l new.launched next → IsReportSoFar c (count + 1) new next
tells_next c count e l t mid new s next reported due is at_l h at =
    let so : IsReportSoFar c count t (Due e) = subst (λ (x : RunState). IsReportSoFar c count t x) due reported in
    let first : count ≡ t.launched = so.at.1.0 in
    let counted : mid.launched ≡ t.launched + 1 = ap (λ (x : LinesSoFar). x.launched) is in
    let next_is : l ≡ count + 1 = omega (arith, first, counted, at_l) in
    let lines : mid.lines ≡ after_launch c t.lines count = ap (λ (x : LinesSoFar). x.lines) is ∙ ap (after_launch c t.lines) (sym first) in
    tells_due c count e t new next so
    (subst (λ k. walked_from c k (length c.entries - k) k (after_launch c t.lines count) ≡ record { lines = new.lines; state = next }) next_is
    (ap (walked_from c l (length c.entries - l) l) (sym lines) ∙ h))
    (subst (λ k. IsAt c k new.launched next) next_is at)

starts_count : (c : PermutationRun) (p : PlanProgress) → Keeps c p → length p.starts.items ≡ orders c.items
starts_count c p kept = ap length kept.found.starts_are ∙ count_found c.items 0

pub settled_already : (c : PermutationRun) (p : PlanProgress) → Keeps c p → length p.starts.items - c.setups ≡ p.segments_done → IsSettled c p
settled_already c p kept all = let counted = starts_count c p kept in record { kept = kept; all = omega (arith, all, counted) }

not_there_case : (n s count : ℕ) → count ≤ n - s → n - s ≤ count + 1 → (n - s ≡ count → ⊥) → (n - s < count + 1) ⊎ (count + 1 ≤ n - s) → n ≡ s + count + 1
not_there_case n s count low high differs (inl less) = absurd (differs (omega (arith, less, low)))
not_there_case n s count low high differs (inr more) = omega (arith, more, high)

not_there : (n s count : ℕ) → count ≤ n - s → n - s ≤ count + 1 → (n - s ≡ count → ⊥) → n ≡ s + count + 1
not_there n s count low high differs = not_there_case n s count low high differs (cases_lt (n - s) (count + 1))

pub one_behind : (c : PermutationRun) (p : PlanProgress) → Keeps c p → (length p.starts.items - c.setups ≡ p.segments_done → ⊥) → orders c.items ≡ c.setups + p.segments_done + 1
one_behind c p kept differs =
    let counted = starts_count c p kept in
    let low = kept.low in
    let high = kept.high in
    not_there (orders c.items) c.setups p.segments_done low high (λ same. differs (omega (arith, counted, same)))

pub settled_next : (c : PermutationRun) (p q : PlanProgress) → Keeps c p → orders c.items ≡ c.setups + p.segments_done + 1 → q.starts ≡ p.starts → q.last ≡ p.last → q.seen ≡ p.seen → q.segments_done ≡ p.segments_done + 1 → IsReportSoFar c (p.segments_done + 1) q.so_far q.state → IsSettled c q
settled_next c p q kept behind starts last seen done reported =
    let seen_are = kept.seen_are in
    record {
      kept = record {
        seen_are = seen ∙ seen_are;
        found = subst (λ (w : List ℕ). IsSeen c q.starts.items w) (sym (ap (λ v. v.items) last)) (subst (λ (w : List ℕ). IsSeen c w p.last.items) (sym (ap (λ v. v.items) starts)) kept.found);
        reported = subst (λ k. IsReportSoFar c k q.so_far q.state) (sym done) reported;
        low = omega (arith, behind, done);
        high = omega (arith, behind, done);
      };
      all = omega (arith, behind, done);
    }

pub room_to_tell : (c : PermutationRun) (p : PlanProgress) → Keeps c p → orders c.items ≡ c.setups + p.segments_done + 1 → p.segments_done + 1 ≤ length p.starts.items
room_to_tell c p kept behind = let counted = starts_count c p kept in omega (arith, behind, counted)

-- ---- which item comes next

past_end : (items : List HistItem) (k : ℕ) (item : HistItem) → length items ≤ k → slice_get items k ≡ Some item → ⊥
past_end [] k item over h = cc
past_end (x ∷ xs) zero item over h = absurd (omega (arith, over))
past_end (x ∷ xs) (suc k) item over h = past_end xs k item (omega (arith, over)) h

pub lags_so : (c : PermutationRun) (p : PlanProgress) → KeepsFront c p → length p.starts.items - (c.setups + 1) ≡ p.segments_done → Lags (first_items c p.seen) p
lags_so c p follows is = let counted = starts_count (first_items c p.seen) p follows.kept in omega (arith, counted, is)

pub none_next : (c : PermutationRun) (p : PlanProgress) (item : HistItem) → length c.items ≤ p.seen → slice_get c.items p.seen ≡ Some item → ⊥
none_next c p item over h = past_end c.items p.seen item over h

pub order_next : (items : List HistItem) (k : ℕ) (item other : HistItem) → true ≡ nat_lt k (length items) → item ≡ get_or items k item → slice_get items k ≡ Some other → item ≡ other
order_next items k item other within at h =
    let less : k < length items = grind arith in
    let same = slice_get-get_or items k item less in
    cc

pub one_further : (items : List HistItem) (k : ℕ) (item : HistItem) → k < length items → item ≡ get_or items k item → take (k + 1) items ≡ take k items ++ item ∷ []
one_further items k item less at = take_more items k item less ∙ ap (λ (x : HistItem). take k items ++ x ∷ []) (sym at)

pub settled_tells : (c : PermutationRun) (p : PlanProgress) → IsSettled c p → walked c (orders c.items - c.setups) ≡ record { lines = p.so_far.lines; state = p.state }
settled_tells c p settled = ap (walked c) (sym settled.all) ∙ settled.kept.reported.report_is

-- what is kept of a front is kept of the whole
pub follows_whole : (c : PermutationRun) (k : ℕ) (p : PlanProgress) → KeepsFront (first_items c k) p → KeepsFront c p
follows_whole c k p follows =
    let few = follows.few in
    let short = length-take k c.items in
    let within : p.seen ≤ k = omega arith in
    record {
      few = omega arith;
      kept = subst (λ (w : List HistItem). Keeps (record { entries = c.entries; items = w; setups = c.setups }) p) (take-take p.seen k c.items within) follows.kept;
    }

-- what holds anyway holds where memory is refused
pub on_err : {T E P : Type 0} (r : Result T E) → P → OnErr r P
on_err (Ok x) p = tt
on_err (Err e) p = p

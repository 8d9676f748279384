-- Where the segments of a history stand, whether the block of one has ended, and the orders that are in it.
use Rattle.std.proofs.Common.{◌≡◌, refl, sym, ◌∙◌, ap, subst, Bool, true, false, cond, ℕ, zero, suc, ◌+◌, ◌-◌, ◌<◌, ◌≤◌, ◌⊎◌, inl, inr, List, [], ◌∷◌, ◌++◌, length, length-append, length-drop, take, drop, arith, slice_range}
use Rattle.std.specs.List.{list_any, filter}
use Rattle.std.proofs.lemmas.List.{take-append-le, drop-append-le}
use Rattle.std.proofs.lemmas.List.Elements.{filter-append}
use Rattle.std.proofs.lemmas.Bool.{cases_lt}
use Rattle.session_machine.specs.declared.reply.HistItem.{HistItem}
use Rattle.report_lines.specs.Starts.{is_order, segment_start, ends_in}
use Rattle.report_lines.specs.Due.{orders, is_over}
use Rattle.report_lines.proofs.Found.{start_within, start_past}
use Rattle.report_lines.proofs.Fronts.{start_kept}
use Rattle.history_laws.proofs.Lists.{any_taken, drop_behind}

-- ---- places

behind_one : (x : HistItem) (rest : List HistItem) (k n : ℕ) → is_order x.event ≡ false → segment_start rest k ≡ n → segment_start (x ∷ rest) k ≡ suc n
behind_one x rest zero n e h = let more : segment_start rest zero + 1 ≡ suc n = omega (arith, h) in rw e more
behind_one x rest (suc k) n e h = let more : segment_start rest (suc k) + 1 ≡ suc n = omega (arith, h) in rw e more

behind_order : (x : HistItem) (rest : List HistItem) (k n : ℕ) → is_order x.event ≡ true → segment_start rest k ≡ n → segment_start (x ∷ rest) (suc k) ≡ suc n
behind_order x rest k n e h = let more : segment_start rest k + 1 ≡ suc n = omega (arith, h) in rw e more

-- an order begins behind what comes before it
pub start_there : (before behind : List HistItem) (item : HistItem) → is_order item.event ≡ true → segment_start (before ++ item ∷ behind) (orders before) ≡ length before
start_there [] behind item e = rw e refl
start_there (x ∷ xs) behind item e = by (is_order x.event) refl (start_there xs behind item e) where
  by : (b : Bool) → is_order x.event ≡ b → segment_start (xs ++ item ∷ behind) (orders xs) ≡ length xs → segment_start (x ∷ (xs ++ item ∷ behind)) (length (cond b (x ∷ filter (λ i. is_order i.event) xs) (filter (λ i. is_order i.event) xs))) ≡ suc (length xs)
  by true f rest = behind_order x (xs ++ item ∷ behind) (orders xs) (length xs) f rest
  by false f rest = behind_one x (xs ++ item ∷ behind) (orders xs) (length xs) f rest

start_to : (front more : List HistItem) (item : HistItem) (j : ℕ) → is_order item.event ≡ true → (j < orders front) ⊎ (orders front ≤ j) → j ≤ orders front → segment_start (front ++ item ∷ more) j ≡ segment_start front j
start_to front more item j e (inl lt) few = start_kept front (item ∷ more) j lt
start_to front more item j e (inr le) few =
    let same : orders front ≡ j = omega (arith, le, few) in
    subst (λ k. segment_start (front ++ item ∷ more) k ≡ segment_start front k) same (start_there front more item e ∙ sym (start_past front (orders front) (omega arith)))

range_stays : (front rest : List HistItem) (from to : ℕ) → from ≤ length front → to ≤ length front → slice_range (front ++ rest) from to ≡ slice_range front from to
range_stays front rest from to low high =
    let long = length-drop from front in
    ap (take (to - from)) (drop-append-le from front rest low) ∙ take-append-le (to - from) (drop from front) rest (omega arith)

-- a block that ended before an order ended, whatever follows
pub over_stays : (front more : List HistItem) (item : HistItem) (k session : ℕ) → is_order item.event ≡ true → k < orders front → is_over (front ++ item ∷ more) k session ≡ is_over front k session
over_stays front more item k session e less =
    let one = start_to front more item k e (cases_lt k (orders front)) (omega (arith, less)) in
    let two = start_to front more item (k + 1) e (cases_lt (k + 1) (orders front)) (omega (arith, less)) in
    ap (list_any (ends_in session))
    (ap (λ a. slice_range (front ++ item ∷ more) a (segment_start (front ++ item ∷ more) (k + 1))) one
    ∙ ap (λ b. slice_range (front ++ item ∷ more) (segment_start front k) b) two
    ∙ range_stays front (item ∷ more) (segment_start front k) (segment_start front (k + 1)) (start_within front k) (start_within front (k + 1)))

-- what is behind an order, by the order's number
pub behind_start : (before behind : List HistItem) (item : HistItem) → is_order item.event ≡ true → drop (segment_start (before ++ item ∷ behind) (orders before)) (before ++ item ∷ behind) ≡ item ∷ behind
behind_start before behind item e =
    ap (λ n. drop n (before ++ item ∷ behind)) (start_there before behind item e) ∙ drop_behind before (item ∷ behind)

-- a block that is over has its end behind its Launch
pub end_behind : (before behind : List HistItem) (item : HistItem) (session : ℕ) → is_order item.event ≡ true → is_over (before ++ item ∷ behind) (orders before) session ≡ true
    → list_any (ends_in session) (item ∷ behind) ≡ true
end_behind before behind item session e h =
    let items = before ++ item ∷ behind in
    subst (λ (w : List HistItem). list_any (ends_in session) w ≡ true) (behind_start before behind item e)
    (any_taken (ends_in session) (segment_start items (orders before + 1) - segment_start items (orders before)) (drop (segment_start items (orders before)) items) h)

both_ways : (b : Bool) → b ≡ true → b ≡ false → ⊥
both_ways true h k = cc
both_ways false h k = cc

pub not_over : (before behind : List HistItem) (item : HistItem) (session : ℕ) → is_order item.event ≡ true → list_any (ends_in session) (item ∷ behind) ≡ false
    → is_over (before ++ item ∷ behind) (orders before) session ≡ false
not_over before behind item session e h = by (is_over (before ++ item ∷ behind) (orders before) session) refl where
  by : (b : Bool) → is_over (before ++ item ∷ behind) (orders before) session ≡ b → b ≡ false
  by true k = absurd (both_ways (list_any (ends_in session) (item ∷ behind)) (end_behind before behind item session e k) h)
  by false k = refl

-- ---- orders

pub orders_append : (xs ys : List HistItem) → orders (xs ++ ys) ≡ orders xs + orders ys
orders_append xs ys =
    ap length (filter-append (λ (i : HistItem). is_order i.event) xs ys) ∙ length-append (filter (λ (i : HistItem). is_order i.event) xs) (filter (λ (i : HistItem). is_order i.event) ys)

pub orders_one : (item : HistItem) (xs : List HistItem) → is_order item.event ≡ true → orders (item ∷ xs) ≡ suc (orders xs)
orders_one item xs e = rw e refl

pub orders_no : (item : HistItem) (xs : List HistItem) → is_order item.event ≡ false → orders (item ∷ xs) ≡ orders xs
orders_no item xs e = rw e refl

-- the first order of some items, if there is one
pub record FirstOrder (xs : List HistItem) : Type 0 where
  pub steps : List HistItem
  pub item : HistItem
  pub rest : List HistItem
  pub parts : xs ≡ steps ++ item ∷ rest
  pub none : orders steps ≡ 0
  pub one : is_order item.event ≡ true

pub first_order : (xs : List HistItem) → (orders xs ≡ 0) ⊎ FirstOrder xs
first_order [] = inl refl
first_order (x ∷ xs) = by (is_order x.event) refl (first_order xs) where
  by : (b : Bool) → is_order x.event ≡ b → (orders xs ≡ 0) ⊎ FirstOrder xs → (orders (x ∷ xs) ≡ 0) ⊎ FirstOrder (x ∷ xs)
  by true e later = inr (record { steps = []; item = x; rest = xs; parts = refl; none = refl; one = e })
  by false e (inl none) = inl (orders_no x xs e ∙ none)
  by false e (inr f) = inr (record { steps = x ∷ f.steps; item = f.item; rest = f.rest; parts = ap (λ (w : List HistItem). x ∷ w) f.parts; none = orders_no x f.steps e ∙ f.none; one = f.one })

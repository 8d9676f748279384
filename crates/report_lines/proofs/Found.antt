-- How segments and ends of blocks are found.
use Rattle.std.proofs.Common.{◌≡◌, ℕ, zero, suc, ◌+◌, ◌-◌, ◌<◌, ◌≤◌, List, [], ◌∷◌, length, drop, length-drop, take_all, get_or, refl, ap, sym, ◌∙◌, arith, true, false, Bool, cond, if◌then◌else◌, ◌||◌, Some, slice_get, slice_range, nat_lt}
use Rattle.std.specs.List.{list_any, filter}
use Rattle.std.proofs.lemmas.Option.{slice_get-get_or}
use Rattle.std.proofs.lemmas.List.{get_or_default}
use Rattle.session_machine.specs.declared.reply.HistItem.{HistItem}
use Rattle.report_lines.specs.Starts.{segment_start, is_order, ends_in}
use Rattle.report_lines.specs.Due.{orders}
use Rattle.report_lines.specs.History.{PermutationRun, seen_before}
use Rattle.report_lines.specs.Code.Walk.{session_of_entry, block_ended}
use Rattle.report_lines.specs.Code.Places.{starts_from, last_end, IsTimed}
use Rattle.report_lines.specs.Inner.Places.{IsFound}

start_case : (b : Bool) (s t n : ℕ) → s ≤ n → t ≤ n → cond b s (t + 1) ≤ suc n
start_case true s t n h k = omega arith
start_case false s t n h k = omega arith

pub start_within : (items : List HistItem) (k : ℕ) → segment_start items k ≤ length items
start_within [] k = omega arith
start_within (item ∷ items) zero = start_case (is_order item.event) 0 (segment_start items zero) (length items) (omega arith) (start_within items zero)
start_within (item ∷ items) (suc k) =
    let one = start_within items k in
    let other = start_within items (suc k) in
    elim (is_order item.event) as (λ b. cond b (segment_start items k + 1) (segment_start items (suc k) + 1) ≤ suc (length items)) [ true ↦ omega arith | false ↦ omega arith ]

at_zero : (o : Bool) (p s t : ℕ) (more : List ℕ) → (slice_get more 0 ≡ Some s → s ≡ p + 1 + t) → slice_get (cond o (p ∷ more) more) 0 ≡ Some s → s ≡ p + cond o 0 (t + 1)
at_zero true p s t more later h = let same : p ≡ s = cc in omega arith
at_zero false p s t more later h = let same = later h in omega arith

at_next : (o : Bool) (p k s t u : ℕ) (more : List ℕ) → (slice_get more k ≡ Some s → s ≡ p + 1 + t) → (slice_get more (suc k) ≡ Some s → s ≡ p + 1 + u) → slice_get (cond o (p ∷ more) more) (suc k) ≡ Some s → s ≡ p + cond o (t + 1) (u + 1)
at_next true p k s t u more one other h = let same = one h in omega arith
at_next false p k s t u more one other h = let same = other h in omega arith

start_at : (items : List HistItem) (p k s : ℕ) → slice_get (starts_from p items) k ≡ Some s → s ≡ p + segment_start items k
start_at [] p k s h = cc
start_at (item ∷ items) p zero s h = at_zero (is_order item.event) p s (segment_start items zero) (starts_from (p + 1) items) (start_at items (p + 1) zero s) h
start_at (item ∷ items) p (suc k) s h =
    at_next (is_order item.event) p k s (segment_start items k) (segment_start items (suc k)) (starts_from (p + 1) items) (start_at items (p + 1) k s) (start_at items (p + 1) (suc k) s) h

-- the kept place of an order is how many items come before it
pub start_found : (items : List HistItem) (starts : List ℕ) (k s : ℕ) → IsFound items starts → true ≡ nat_lt k (length starts) → s ≡ get_or starts k s → s ≡ segment_start items k
start_found items starts k s found within at =
    let less : k < length starts = grind arith in
    let same = start_at items 0 k s (ap (λ (w : List ℕ). slice_get w k) (sym found.starts_are) ∙ slice_get-get_or starts k s less ∙ ap Some (sym at)) in
    omega (arith, same)

missing_zero : (o : Bool) (p t n : ℕ) (more : List ℕ) → (length more ≤ 0 → t ≡ n) → length (cond o (p ∷ more) more) ≤ 0 → cond o 0 (t + 1) ≡ suc n
missing_zero true p t n more rest h = absurd (omega arith)
missing_zero false p t n more rest h = let e = rest h in omega arith

missing_next : (o : Bool) (p k t u n : ℕ) (more : List ℕ) → (length more ≤ k → t ≡ n) → (length more ≤ suc k → u ≡ n) → length (cond o (p ∷ more) more) ≤ suc k → cond o (t + 1) (u + 1) ≡ suc n
missing_next true p k t u n more one other h = let e = one (omega arith) in omega arith
missing_next false p k t u n more one other h = let e = other h in omega arith

missing : (items : List HistItem) (p k : ℕ) → length (starts_from p items) ≤ k → segment_start items k ≡ length items
missing [] p k h = refl
missing (item ∷ items) p zero h = missing_zero (is_order item.event) p (segment_start items zero) (length items) (starts_from (p + 1) items) (missing items (p + 1) zero) h
missing (item ∷ items) p (suc k) h =
    missing_next (is_order item.event) p k (segment_start items k) (segment_start items (suc k)) (length items) (starts_from (p + 1) items) (missing items (p + 1) k) (missing items (p + 1) (suc k)) h

pub start_missing : (items : List HistItem) (starts : List ℕ) (k : ℕ) → IsFound items starts → false ≡ nat_lt k (length starts) → length items ≡ segment_start items k
start_missing items starts k found past =
    let over : length starts ≤ k = grind arith in
    let same = ap length found.starts_are in
    sym (missing items 0 k (omega arith))

count_case : (o : Bool) (p : ℕ) (item : HistItem) (more : List ℕ) (others : List HistItem) → length more ≡ length others → length (cond o (p ∷ more) more) ≡ length (cond o (item ∷ others) others)
count_case true p item more others h = ap suc h
count_case false p item more others h = h

pub count_found : (items : List HistItem) (p : ℕ) → length (starts_from p items) ≡ orders items
count_found [] p = refl
count_found (item ∷ items) p = count_case (is_order item.event) p item (starts_from (p + 1) items) (filter (λ i. is_order i.event) items) (count_found items (p + 1))

-- there is nothing behind the last segment
pub start_past : (items : List HistItem) (k : ℕ) → orders items ≤ k → segment_start items k ≡ length items
start_past items k few = let counted = count_found items 0 in missing items 0 k (omega arith)

-- ---- the last ends of blocks

last_step : (b more : Bool) (p found last : ℕ) → found ≤ p → (more ≡ false → last ≡ (if b then (p + 1) else found)) → more ≡ nat_lt (p + 1) last → (b || more) ≡ nat_lt p last
last_step true true p found last low none some = let more : p + 1 < last = grind arith in grind arith
last_step true false p found last low none some = let is = none refl in grind arith
last_step false true p found last low none some = let more : p + 1 < last = grind arith in grind arith
last_step false false p found last low none some = let is = none refl in grind arith

last_none_case : (b more : Bool) (p found last : ℕ) → (more ≡ false → last ≡ (if b then (p + 1) else found)) → (b || more) ≡ false → last ≡ found
last_none_case true more p found last later none = cc
last_none_case false more p found last later none = later none

last_none : (session p found : ℕ) (items : List HistItem) → list_any (ends_in session) items ≡ false → last_end session p found items ≡ found
last_none session p found [] none = refl
last_none session p found (item ∷ items) none =
    let b = ends_in session item in
    last_none_case b (list_any (ends_in session) items) p found (last_end session (p + 1) (if b then (p + 1) else found) items)
    (last_none session (p + 1) (if b then (p + 1) else found) items) none

found_low : (b : Bool) (p found : ℕ) → found ≤ p → (if b then (p + 1) else found) ≤ p + 1
found_low true p found low = omega arith
found_low false p found low = omega arith

-- a block of the session ended exactly where its last one ended behind the first item's place
last_all : (session p found : ℕ) (items : List HistItem) → found ≤ p → list_any (ends_in session) items ≡ nat_lt p (last_end session p found items)
last_all session p found [] low = grind arith
last_all session p found (item ∷ items) low =
    let b = ends_in session item in
    let now = if b then (p + 1) else found in
    last_step b (list_any (ends_in session) items) p found (last_end session (p + 1) now items) low (last_none session (p + 1) now items)
    (last_all session (p + 1) now items (found_low b p found low))

-- the same from a later place on
last_any : (session p found k : ℕ) (items : List HistItem) → found ≤ p → list_any (ends_in session) (drop k items) ≡ nat_lt (p + k) (last_end session p found items)
last_any session p found zero [] low = grind arith
last_any session p found (suc k) [] low = grind arith
last_any session p found zero (item ∷ items) low =
    let same : p + zero ≡ p = omega arith in
    last_all session p found (item ∷ items) low ∙ ap (λ j. nat_lt j (last_end session p found (item ∷ items))) (sym same)
last_any session p found (suc k) (item ∷ items) low =
    let b = ends_in session item in
    let now = if b then (p + 1) else found in
    let same : p + 1 + k ≡ p + suc k = omega arith in
    last_any session (p + 1) now k items (found_low b p found low) ∙ ap (λ j. nat_lt j (last_end session (p + 1) now items)) same

all_behind : (test : HistItem → Bool) (items : List HistItem) (from : ℕ) → list_any test (slice_range items from (length items)) ≡ list_any test (drop from items)
all_behind test items from = let long = length-drop from items in ap (list_any test) (take_all (length items - from) (drop from items) (omega arith))

-- the kept place tells whether the block has ended
pub end_found : (c : PermutationRun) (last : List ℕ) (i end : ℕ) → IsTimed c last → true ≡ nat_lt (session_of_entry c i) (length last) → end ≡ get_or last (session_of_entry c i) end → nat_lt (seen_before c i) end ≡ block_ended c (length c.items) i
end_found c last i end timed within at =
    let less : session_of_entry c i < length last = grind arith in
    let is : end ≡ last_end (session_of_entry c i) 0 0 c.items = at ∙ get_or_default last (session_of_entry c i) end 0 less ∙ timed.ends_at (session_of_entry c i) less in
    let from : 0 + seen_before c i ≡ seen_before c i = omega arith in
    ap (nat_lt (seen_before c i)) is ∙ ap (λ k. nat_lt k (last_end (session_of_entry c i) 0 0 c.items)) (sym from) ∙ sym (last_any (session_of_entry c i) 0 0 (seen_before c i) c.items (omega arith)) ∙ sym (all_behind (ends_in (session_of_entry c i)) c.items (seen_before c i))

-- so do the items from the entry's Launch on
pub end_looked_up : (c : PermutationRun) (i : ℕ) → list_any (ends_in (session_of_entry c i)) (slice_range c.items (seen_before c i) (length c.items)) ≡ block_ended c (length c.items) i
end_looked_up c i = refl

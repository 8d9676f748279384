-- Behind a Launch that waits comes a Leave of its session.
use Rattle.std.proofs.Common.{◌≡◌, sym, ◌∙◌, ap, subst, Bool, true, false, ℕ, suc, ◌+◌, ◌-◌, ◌<◌, ◌≤◌, ◌⊎◌, inl, inr, List, [], ◌∷◌, ◌++◌, arith, if◌then◌else◌}
use Rattle.std.specs.Prelude.{Some, None, slice_get}
use Rattle.std.proofs.lemmas.Bool.{cases_lt}
use Rattle.session_machine.specs.declared.event.Order.{Order}
use Rattle.session_machine.specs.declared.event.Order.TheVariants.{Launch, Leave, Stop}
use Rattle.session_machine.specs.declared.reply.HistItem.{HistItem}
use Rattle.report_lines.specs.Starts.{is_order}
use Rattle.report_lines.specs.Due.{orders, is_over}
use Rattle.report_lines.specs.Orders.{with_leaves}
use Rattle.history_laws.proofs.Segments.{over_stays}

other_order : (a s b : ℕ) → Some (Leave a) ≡ Some (Launch s b) → ⊥
other_order a s b h = cc

no_order : (s b : ℕ) → None ≡ Some (Launch s b) → ⊥
no_order s b h = cc

stop_order : (s b : ℕ) → Some Stop ≡ Some (Launch s b) → ⊥
stop_order s b h = cc

its_session : (a c s b : ℕ) → Some (Launch a c) ≡ Some (Launch s b) → a ≡ s
its_session a c s b h = cc

-- what is behind a Launch, where its block is over or not
abbrev tail : Bool → ℕ → List Order → List Order → List Order
tail over session one two = if over then one else Leave session ∷ two

-- at this place of the one list is this Launch, and behind that place of the other its Leave
abbrev Follows : ℕ → ℕ → ℕ → ℕ → List Order → List Order → Type 0
Follows k n s b os ps = slice_get os (k - n) ≡ Some (Launch s b) → slice_get ps (k + 1 - n) ≡ Some (Leave s)

one_on : (k n s b : ℕ) (x y : Order) (os ps : List Order) → n < k → Follows k (n + 1) s b os ps → Follows k n s b (x ∷ os) (y ∷ ps)
one_on k n s b x y os ps less rest h =
    let here : k - n ≡ suc (k - (n + 1)) = omega (arith, less) in
    let next : k + 1 - n ≡ suc (k + 1 - (n + 1)) = omega (arith, less) in
    ap (slice_get (y ∷ ps)) next ∙ rest (sym (ap (slice_get (x ∷ os)) here) ∙ h)

at_tail : (k n s b a : ℕ) (over : Bool) (one two one' two' : List Order) → n < k → Follows k (n + 1) s b one one' → (n + 1 < k → Follows k (n + 2) s b two two')
    → Follows k (n + 1) s b (tail over a one two) (tail over a one' two')
at_tail k n s b a true one two one' two' less first second = first
at_tail k n s b a false one two one' two' less first second = by (cases_lt (n + 1) k) where
  two_on : n + 1 + 1 ≡ n + 2
  two_on = omega arith

  by : (n + 1 < k) ⊎ (k ≤ n + 1) → Follows k (n + 1) s b (Leave a ∷ two) (Leave a ∷ two')
  by (inl lt) = one_on k (n + 1) s b (Leave a) (Leave a) two two' lt (subst (λ j. Follows k j s b two two') (sym two_on) (second lt))
  by (inr le) = λ h.
      let none : k - (n + 1) ≡ 0 = omega (arith, le) in
      absurd (other_order a s b (sym (ap (slice_get (Leave a ∷ two)) none) ∙ h))

not_there : (k n s b : ℕ) (x : Order) (os ps : List Order) → (Some x ≡ Some (Launch s b) → ⊥) → k ≤ n → Follows k n s b (x ∷ os) ps
not_there k n s b x os ps other le h =
    let none : k - n ≡ 0 = omega (arith, le) in
    absurd (other (sym (ap (slice_get (x ∷ os)) none) ∙ h))

-- the Launch is the one of this number, and isn't over
leave_here : (front : List HistItem) (k n s b a c : ℕ) (os one two : List Order) → is_over front k s ≡ false → n ≤ k → k ≤ n → Follows k n s b (Launch a c ∷ os) (Launch a c ∷ tail (is_over front n a) a one two)
leave_here front k n s b a c os one two waits_still le ge h =
    let same : n ≡ k = omega (arith, le, ge) in
    let none : k - n ≡ 0 = omega (arith, ge) in
    let next : k + 1 - n ≡ 1 = omega (arith, same) in
    let its : a ≡ s = its_session a c s b (sym (ap (slice_get (Launch a c ∷ os)) none) ∙ h) in
    let waits : is_over front n a ≡ false = ap (λ j. is_over front j a) same ∙ (ap (is_over front k) its ∙ waits_still) in
    ap (slice_get (Launch a c ∷ tail (is_over front n a) a one two)) next
    ∙ ap (λ over. slice_get (tail over a one two) 0) waits
    ∙ ap (λ j. Some (Leave j)) its

-- where the order behind these items is this Launch, that behind it is a Leave of its session, as long as its block isn't over
abbrev Later : List HistItem → List HistItem → ℕ → ℕ → ℕ → List Order → Type 0
Later before front k s b os = (j : ℕ) → j ≤ k → Follows k j s b (with_leaves before j os) (with_leaves front j os)

at_launch : (before steps : List HistItem) (launched : HistItem) (s b n a c : ℕ) (os : List Order) → is_order launched.event ≡ true → is_over (before ++ launched ∷ steps) (orders before) s ≡ false
    → n ≤ orders before → (n < orders before) ⊎ (orders before ≤ n) → Later before (before ++ launched ∷ steps) (orders before) s b os
    → Follows (orders before) n s b (with_leaves before n (Launch a c ∷ os)) (with_leaves (before ++ launched ∷ steps) n (Launch a c ∷ os))
at_launch before steps launched s b n a c os order waits_still le (inl lt) later =
    let k = orders before in
    let front = before ++ launched ∷ steps in
    let one = with_leaves before (n + 1) os in
    let two = with_leaves before (n + 2) os in
    let one' = with_leaves front (n + 1) os in
    let two' = with_leaves front (n + 2) os in
    one_on k n s b (Launch a c) (Launch a c) (tail (is_over before n a) a one two) (tail (is_over front n a) a one' two') lt
    (subst (λ over. Follows k (n + 1) s b (tail (is_over before n a) a one two) (tail over a one' two')) (sym (over_stays before steps launched n a order lt))
    (at_tail k n s b a (is_over before n a) one two one' two' lt (later (n + 1) (omega (arith, lt))) (λ less. later (n + 2) (omega (arith, less)))))
at_launch before steps launched s b n a c os order waits_still le (inr ge) later =
    let front = before ++ launched ∷ steps in
    leave_here front (orders before) n s b a c (tail (is_over before n a) a (with_leaves before (n + 1) os) (with_leaves before (n + 2) os)) (with_leaves front (n + 1) os) (with_leaves front (n + 2) os) waits_still le ge

at_other : (before front : List HistItem) (k s b n : ℕ) (x : Order) (os : List Order) → (Some x ≡ Some (Launch s b) → ⊥) → (n < k) ⊎ (k ≤ n) → Later before front k s b os
    → Follows k n s b (x ∷ with_leaves before (n + 1) os) (x ∷ with_leaves front (n + 1) os)
at_other before front k s b n x os none (inl lt) later = one_on k n s b x x (with_leaves before (n + 1) os) (with_leaves front (n + 1) os) lt (later (n + 1) (omega (arith, lt)))
at_other before front k s b n x os none (inr ge) later = not_there k n s b x (with_leaves before (n + 1) os) (x ∷ with_leaves front (n + 1) os) none ge

pub leave_next : (before steps : List HistItem) (launched : HistItem) (s b : ℕ) → is_order launched.event ≡ true → is_over (before ++ launched ∷ steps) (orders before) s ≡ false
    → (n : ℕ) (os : List Order) → n ≤ orders before → Follows (orders before) n s b (with_leaves before n os) (with_leaves (before ++ launched ∷ steps) n os)
leave_next before steps launched s b order waits_still n [] le = λ h. absurd (no_order s b h)
leave_next before steps launched s b order waits_still n (Launch a c ∷ os) le =
    at_launch before steps launched s b n a c os order waits_still le (cases_lt n (orders before)) (λ j few. leave_next before steps launched s b order waits_still j os few)
leave_next before steps launched s b order waits_still n (Leave a ∷ os) le =
    at_other before (before ++ launched ∷ steps) (orders before) s b n (Leave a) os (other_order a s b) (cases_lt n (orders before)) (λ j few. leave_next before steps launched s b order waits_still j os few)
leave_next before steps launched s b order waits_still n (Stop ∷ os) le =
    at_other before (before ++ launched ∷ steps) (orders before) s b n Stop os (stop_order s b) (cases_lt n (orders before)) (λ j few. leave_next before steps launched s b order waits_still j os few)

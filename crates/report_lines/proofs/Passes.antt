-- How the waiting list is gone through.
use Rattle.std.proofs.Common.{◌≡◌, ℕ, zero, suc, ◌+◌, ◌-◌, ◌<◌, ◌≤◌, ◌⊎◌, List, [], ◌∷◌, ◌++◌, length, drop, length-drop, refl, ap, sym, ◌∙◌, arith, true, false, Bool, not, cond, ◌&&◌, Some, slice_get, nat_lt, if◌then◌else◌, inl, inr}
use Rattle.std.specs.List.{filter, fold}
use Rattle.std.proofs.lemmas.List.Sums.{fold-append}
use Rattle.std.proofs.lemmas.Bool.{cases_lt, le-ltb, not-true, not-false}
use Rattle.report_lines.specs.declared.history.Line.{Line}
use Rattle.report_lines.specs.declared.history.Line.TheVariants.{Completed}
use Rattle.report_lines.specs.declared.history.Moment.{Moment}
use Rattle.report_lines.specs.declared.lines_so_far.Chosen.{Chosen}
use Rattle.report_lines.specs.declared.lines_so_far.Chosen.TheVariants.{Joined}
use Rattle.report_lines.specs.History.{PermutationRun}
use Rattle.report_lines.specs.Report.{active}
use Rattle.report_lines.specs.Code.Walk.{can_report, try_again}
use Rattle.report_lines.specs.Inner.Waiting.{is_reported}
use Rattle.report_lines.specs.Inner.Trying.{instances, pass, is_chosen, chosen_retry, retried_from}
use Rattle.report_lines.proofs.Waits.{active_leave, reported_push}
use Rattle.report_lines.proofs.Rising.{instances_more, Between, between_instances, between_filter, between_at, between_leave, filter_at, fold_at}

rises : (lines : List Line) (n : ℕ) → Between 0 n (active lines n)
rises lines n = between_filter (λ j. not (is_reported lines j)) 0 n (instances n) (between_instances n)

pub waits_below : (lines : List Line) (n place e : ℕ) → slice_get (active lines n) place ≡ Some e → e < n
waits_below lines n place e h = (between_at 0 n (active lines n) place e (rises lines n) h).1

waits_unreported : (lines : List Line) (n place e : ℕ) → slice_get (active lines n) place ≡ Some e → is_reported lines e ≡ false
waits_unreported lines n place e h = not-true (is_reported lines e) (filter_at (λ j. not (is_reported lines j)) (instances n) e place h)

leaves_place : (lines : List Line) (n place e s : ℕ) → slice_get (active lines n) place ≡ Some e → drop place (active (lines ++ Completed e s ∷ []) n) ≡ drop (place + 1) (active lines n)
leaves_place lines n place e s h = ap (drop place) (active_leave lines e s n) ∙ between_leave 0 n (active lines n) place e (rises lines n) h

when_chosen : (a b : Bool) (x y : List Line) → (a && b) ≡ true → (if a then (if b then x else y) else y) ≡ x
when_chosen true true x y h = refl
when_chosen true false x y h = cc
when_chosen false b x y h = cc

when_not : (a b : Bool) (x y : List Line) → (a && b) ≡ false → (if a then (if b then x else y) else y) ≡ y
when_not true true x y h = cc
when_not true false x y h = refl
when_not false b x y h = refl

-- a step that can be reported is, at its try
tried : (c : PermutationRun) (m : Moment) (chosen : Chosen) (lines : List Line) (e : ℕ) → is_reported lines e ≡ false → (is_chosen c m chosen e && can_report c m lines e) ≡ true → chosen_retry c m chosen lines e ≡ lines ++ Completed e m.seen ∷ []
tried c m chosen lines e waits can = rw waits (when_chosen (is_chosen c m chosen e) (can_report c m lines e) (lines ++ Completed e m.seen ∷ []) lines can)

passed_over : (c : PermutationRun) (m : Moment) (chosen : Chosen) (lines : List Line) (e : ℕ) → is_reported lines e ≡ false → (is_chosen c m chosen e && can_report c m lines e) ≡ false → chosen_retry c m chosen lines e ≡ lines
passed_over c m chosen lines e waits cannot = rw waits (when_not (is_chosen c m chosen e) (can_report c m lines e) (lines ++ Completed e m.seen ∷ []) lines cannot)

pub try_reports : (c : PermutationRun) (m : Moment) (chosen : Chosen) (lines : List Line) (n place e : ℕ) → slice_get (active lines n) place ≡ Some e → (is_chosen c m chosen e && can_report c m lines e) ≡ true → retried_from c m chosen (lines ++ Completed e m.seen ∷ []) n place ≡ retried_from c m chosen lines n place
try_reports c m chosen lines n place e h can =
    let g = chosen_retry c m chosen in
    let now : g lines e ≡ lines ++ Completed e m.seen ∷ [] = tried c m chosen lines e (waits_unreported lines n place e h) can in
    ap (fold g (lines ++ Completed e m.seen ∷ [])) (leaves_place lines n place e m.seen h)
    ∙ ap (λ (w : List Line). fold g w (drop (place + 1) (active lines n))) (sym now)
    ∙ sym (fold_at g lines (active lines n) place e h)

pub try_fewer : (lines : List Line) (n place e s : ℕ) → slice_get (active lines n) place ≡ Some e → length (active (lines ++ Completed e s ∷ []) n) - place ≤ length (active lines n) - (place + 1)
try_fewer lines n place e s h =
    let less = ap length (leaves_place lines n place e s h) in
    let new = length-drop place (active (lines ++ Completed e s ∷ []) n) in
    let old = length-drop (place + 1) (active lines n) in
    omega arith

pub try_passes : (c : PermutationRun) (m : Moment) (chosen : Chosen) (lines : List Line) (n place e : ℕ) → slice_get (active lines n) place ≡ Some e → (is_chosen c m chosen e && can_report c m lines e) ≡ false → retried_from c m chosen lines n (place + 1) ≡ retried_from c m chosen lines n place
try_passes c m chosen lines n place e h cannot =
    let g = chosen_retry c m chosen in
    ap (λ (w : List Line). fold g w (drop (place + 1) (active lines n))) (sym (passed_over c m chosen lines e (waits_unreported lines n place e h) cannot))
    ∙ sym (fold_at g lines (active lines n) place e h)

-- a reported instance is passed over unchanged
pub retry_reported : (c : PermutationRun) (m : Moment) (chosen : Chosen) (lines : List Line) (i : ℕ) → is_reported lines i ≡ true → chosen_retry c m chosen lines i ≡ lines
retry_reported c m chosen lines i h = rw h (elim (is_chosen c m chosen i) as (λ b. (if b then lines else lines) ≡ lines) [ true ↦ refl | false ↦ refl ])

reported_case : (a b : Bool) (lines : List Line) (l : Line) (i : ℕ) → is_reported lines i ≡ true → is_reported (if a then (if b then lines ++ l ∷ [] else lines) else lines) i ≡ true
reported_case true true lines l i h = reported_push lines l i ∙ rw h refl
reported_case true false lines l i h = h
reported_case false b lines l i h = h

-- what was reported stays so
pub retry_keeps : (c : PermutationRun) (m : Moment) (chosen : Chosen) (lines : List Line) (j i : ℕ) → is_reported lines i ≡ true → is_reported (chosen_retry c m chosen lines j) i ≡ true
retry_keeps c m chosen lines j i h = reported_case (is_chosen c m chosen j) (not (is_reported lines j) && can_report c m lines j) lines (Completed j m.seen) i h

skip_case : (g : List Line → ℕ → List Line) (q : ℕ → Bool) (lines : List Line) (x : ℕ) (xs : List ℕ) (b : Bool) → (b ≡ false → g lines x ≡ lines) → fold g (g lines x) xs ≡ fold g (g lines x) (filter q xs) → fold g (g lines x) xs ≡ fold g lines (cond b (x ∷ filter q xs) (filter q xs))
skip_case g q lines x xs true h e = e
skip_case g q lines x xs false h e = e ∙ ap (λ (w : List Line). fold g w (filter q xs)) (h refl)

-- where reported instances are passed over unchanged, and stay reported, those that are reported at the beginning can be left out
pub skip : (g : List Line → ℕ → List Line) → ((lines : List Line) (i : ℕ) → is_reported lines i ≡ true → g lines i ≡ lines) → ((lines : List Line) (j i : ℕ) → is_reported lines i ≡ true → is_reported (g lines j) i ≡ true) → (q : ℕ → Bool) (xs : List ℕ) (lines : List Line) → ((i : ℕ) → q i ≡ false → is_reported lines i ≡ true) → fold g lines xs ≡ fold g lines (filter q xs)
skip g over keeps q [] lines h = refl
skip g over keeps q (x ∷ xs) lines h =
    skip_case g q lines x xs (q x) (λ no. over lines x (h x no)) (skip g over keeps q xs (g lines x) (λ i no. keeps lines x i (h i no)))

pub skip_reported : (g : List Line → ℕ → List Line) → ((lines : List Line) (i : ℕ) → is_reported lines i ≡ true → g lines i ≡ lines) → ((lines : List Line) (j i : ℕ) → is_reported lines i ≡ true → is_reported (g lines j) i ≡ true) → (lines : List Line) (n : ℕ) → fold g lines (instances n) ≡ fold g lines (active lines n)
skip_reported g over keeps lines n = skip g over keeps (λ j. not (is_reported lines j)) (instances n) lines (λ i no. not-false (is_reported lines i) no)

-- to try the waiting list is to try all instances
pub through_waiting : (c : PermutationRun) (m : Moment) (chosen : Chosen) (lines : List Line) (n : ℕ) → fold (chosen_retry c m chosen) lines (instances n) ≡ retried_from c m chosen lines n 0
through_waiting c m chosen lines n = skip_reported (chosen_retry c m chosen) (retry_reported c m chosen) (retry_keeps c m chosen) lines n

nothing_left : (xs : List ℕ) (k : ℕ) → length xs ≤ k → drop k xs ≡ []
nothing_left [] zero h = refl
nothing_left [] (suc k) h = refl
nothing_left (x ∷ xs) zero h = absurd (omega arith)
nothing_left (x ∷ xs) (suc k) h = nothing_left xs k (omega arith)

pub through_end : (c : PermutationRun) (m : Moment) (chosen : Chosen) (lines : List Line) (n place : ℕ) → length (active lines n) ≤ place → retried_from c m chosen lines n place ≡ lines
through_end c m chosen lines n place h = ap (fold (chosen_retry c m chosen) lines) (nothing_left (active lines n) place h)

fold_more : (g : List Line → ℕ → List Line) (lines : List Line) (n : ℕ) → fold g lines (instances (suc n)) ≡ g (fold g lines (instances n)) n
fold_more g lines n = ap (fold g lines) (instances_more n) ∙ fold-append g lines (instances n) (n ∷ [])

joined_all : (c : PermutationRun) (m : Moment) (lines : List Line) (n : ℕ) → n ≤ m.joined → fold (chosen_retry c m Joined) lines (instances n) ≡ fold (try_again c m) lines (instances n)
joined_all c m lines zero h = refl
joined_all c m lines (suc n) h =
    let less : nat_lt n m.joined ≡ true = grind arith in
    let before = joined_all c m lines n (omega arith) in
    fold_more (chosen_retry c m Joined) lines n
    ∙ rw less (ap (λ (w : List Line). try_again c m w n) before)
    ∙ sym (fold_more (try_again c m) lines n)

joined_case : (c : PermutationRun) (m : Moment) (lines : List Line) (n : ℕ) → (m.joined ≤ n → fold (chosen_retry c m Joined) lines (instances n) ≡ pass c m lines) → m.joined ≤ suc n → (n < m.joined) ⊎ (m.joined ≤ n) → fold (chosen_retry c m Joined) lines (instances (suc n)) ≡ pass c m lines
joined_case c m lines n before h (inl lt) =
    let all : suc n ≡ m.joined = omega arith in
    joined_all c m lines (suc n) (omega arith) ∙ ap (λ k. fold (try_again c m) lines (instances k)) all
joined_case c m lines n before h (inr le) =
    let past : nat_lt n m.joined ≡ false = le-ltb n m.joined le in
    fold_more (chosen_retry c m Joined) lines n ∙ rw past (before le)

-- to try those that have joined the list is a pass
pub joined_pass : (c : PermutationRun) (m : Moment) (lines : List Line) (n : ℕ) → m.joined ≤ n → fold (chosen_retry c m Joined) lines (instances n) ≡ pass c m lines
joined_pass c m lines zero h = let none : m.joined ≡ 0 = omega arith in rw none refl
joined_pass c m lines (suc n) h = joined_case c m lines n (joined_pass c m lines n) h (cases_lt n m.joined)

-- What a pass does to the lines, and why so many passes are enough.
use Rattle.std.proofs.Common.{◌≡◌, ℕ, zero, suc, ◌+◌, ◌<◌, ◌≤◌, ◌⊎◌, List, [], ◌∷◌, ◌++◌, length, length-append, refl, ap, sym, ◌∙◌, arith, true, false, Bool, not, cond, ◌==◌, ◌&&◌, ◌||◌, nat_lt, if◌then◌else◌, inl, inr}
use Rattle.std.specs.List.{filter, fold, list_any}
use Rattle.std.proofs.lemmas.Bool.{cases_lt, ltb-true, lt-ltb, le-ltb, eq-eqb, and_parts}
use Rattle.report_lines.specs.declared.history.Line.{Line}
use Rattle.report_lines.specs.declared.history.Line.TheVariants.{Completed}
use Rattle.report_lines.specs.declared.history.Moment.{Moment}
use Rattle.report_lines.specs.History.{PermutationRun}
use Rattle.report_lines.specs.Report.{active}
use Rattle.report_lines.specs.Code.Walk.{can_report, try_again, polls_again, polled, all_polls, is_of}
use Rattle.report_lines.specs.Inner.Waiting.{is_reported}
use Rattle.report_lines.specs.Inner.Trying.{instances, pass, own_retry}
use Rattle.report_lines.proofs.Waits.{active_leave, reported_push, any_is}
use Rattle.report_lines.proofs.Rising.{Between, between_instances, between_filter, between_length}
use Rattle.report_lines.proofs.Passes.{skip_reported}

retry_case : (r may : Bool) (lines : List Line) (l : Line) → ((if not r && may then lines ++ l ∷ [] else lines) ≡ lines) ⊎ ((r ≡ false) × ((if not r && may then lines ++ l ∷ [] else lines) ≡ lines ++ l ∷ []))
retry_case true may lines l = inl refl
retry_case false true lines l = inr (refl, refl)
retry_case false false lines l = inl refl

-- a later try says nothing, or reports an instance that wasn't reported
retry_cases : (c : PermutationRun) (m : Moment) (lines : List Line) (i : ℕ) → (try_again c m lines i ≡ lines) ⊎ ((is_reported lines i ≡ false) × (try_again c m lines i ≡ lines ++ Completed i m.seen ∷ []))
retry_cases c m lines i = retry_case (is_reported lines i) (can_report c m lines i) lines (Completed i m.seen)

pub over_reported : (c : PermutationRun) (m : Moment) (lines : List Line) (i : ℕ) → is_reported lines i ≡ true → try_again c m lines i ≡ lines
over_reported c m lines i h = rw h refl

keeps_case : (lines new : List Line) (l : Line) (i : ℕ) → is_reported lines i ≡ true → (new ≡ lines) ⊎ (new ≡ lines ++ l ∷ []) → is_reported new i ≡ true
keeps_case lines new l i h (inl e) = rw e h
keeps_case lines new l i h (inr e) = rw e (reported_push lines l i ∙ rw h refl)

no_reason : (A B C : Type 0) → A ⊎ (B × C) → A ⊎ C
no_reason A B C (inl a) = inl a
no_reason A B C (inr p) = inr p.1

pub keeps_reported : (c : PermutationRun) (m : Moment) (lines : List Line) (j i : ℕ) → is_reported lines i ≡ true → is_reported (try_again c m lines j) i ≡ true
keeps_reported c m lines j i h = keeps_case lines (try_again c m lines j) (Completed j m.seen) i h (no_reason _ _ _ (retry_cases c m lines j))

pub fold_keeps : (c : PermutationRun) (m : Moment) (xs : List ℕ) (lines : List Line) (i : ℕ) → is_reported lines i ≡ true → is_reported (fold (try_again c m) lines xs) i ≡ true
fold_keeps c m [] lines i h = h
fold_keeps c m (x ∷ xs) lines i h = fold_keeps c m xs (try_again c m lines x) i (keeps_reported c m lines x i h)

longer_case : (lines new : List Line) (l : Line) → (new ≡ lines) ⊎ (new ≡ lines ++ l ∷ []) → length lines ≤ length new
longer_case lines new l (inl e) = let same = ap length e in omega arith
longer_case lines new l (inr e) = let more = ap length e ∙ length-append lines (l ∷ []) in omega arith

retry_longer : (c : PermutationRun) (m : Moment) (lines : List Line) (i : ℕ) → length lines ≤ length (try_again c m lines i)
retry_longer c m lines i = longer_case lines (try_again c m lines i) (Completed i m.seen) (no_reason _ _ _ (retry_cases c m lines i))

fold_longer : (c : PermutationRun) (m : Moment) (xs : List ℕ) (lines : List Line) → length lines ≤ length (fold (try_again c m) lines xs)
fold_longer c m [] lines = omega arith
fold_longer c m (x ∷ xs) lines =
    let now = retry_longer c m lines x in
    let rest = fold_longer c m xs (try_again c m lines x) in
    omega arith

stuck_case : (c : PermutationRun) (m : Moment) (xs : List ℕ) (lines new : List Line) (l : Line) → (length (fold (try_again c m) new xs) ≤ length new → fold (try_again c m) new xs ≡ new) → length (fold (try_again c m) new xs) ≤ length lines → (new ≡ lines) ⊎ (new ≡ lines ++ l ∷ []) → fold (try_again c m) new xs ≡ lines
stuck_case c m xs lines new l rest h (inl e) = let same = ap length e in rest (omega arith) ∙ e
stuck_case c m xs lines new l rest h (inr e) =
    let more = ap length e ∙ length-append lines (l ∷ []) in
    let long = fold_longer c m xs new in
    absurd (omega arith)

-- where the lines didn't grow they are the same
pub stuck : (c : PermutationRun) (m : Moment) (xs : List ℕ) (lines : List Line) → length (fold (try_again c m) lines xs) ≤ length lines → fold (try_again c m) lines xs ≡ lines
stuck c m [] lines h = refl
stuck c m (x ∷ xs) lines h = stuck_case c m xs lines (try_again c m lines x) (Completed x m.seen) (stuck c m xs (try_again c m lines x)) h (no_reason _ _ _ (retry_cases c m lines x))

or_left : (a b : Bool) → a ≡ true → (a || b) ≡ true
or_left a b h = rw h refl

or_right : (a b : Bool) → b ≡ true → (a || b) ≡ true
or_right true b h = refl
or_right false b h = h

grew_case : (c : PermutationRun) (m : Moment) (x : ℕ) (xs : List ℕ) (lines new : List Line) → (length new < length (fold (try_again c m) new xs) → list_any (is_reported (fold (try_again c m) new xs)) xs ≡ true) → length lines < length (fold (try_again c m) new xs) → (new ≡ lines) ⊎ (new ≡ lines ++ Completed x m.seen ∷ []) → list_any (is_reported (fold (try_again c m) new xs)) (x ∷ xs) ≡ true
grew_case c m x xs lines new rest h (inl e) =
    let same = ap length e in
    or_right (is_reported (fold (try_again c m) new xs) x) (list_any (is_reported (fold (try_again c m) new xs)) xs) (rest (omega arith))
grew_case c m x xs lines new rest h (inr e) =
    let itself : (x == x) ≡ true = eq-eqb x x refl in
    let now : is_reported new x ≡ true = ap (λ (w : List Line). is_reported w x) e ∙ reported_push lines (Completed x m.seen) x ∙ or_right (is_reported lines x) (x == x) itself in
    or_left (is_reported (fold (try_again c m) new xs) x) (list_any (is_reported (fold (try_again c m) new xs)) xs) (fold_keeps c m xs new x now)

-- where they grew one of the instances is reported
grew : (c : PermutationRun) (m : Moment) (xs : List ℕ) (lines : List Line) → length lines < length (fold (try_again c m) lines xs) → list_any (is_reported (fold (try_again c m) lines xs)) xs ≡ true
grew c m [] lines h = absurd (omega arith)
grew c m (x ∷ xs) lines h = grew_case c m x xs lines (try_again c m lines x) (grew c m xs (try_again c m lines x)) h (no_reason _ _ _ (retry_cases c m lines x))

none_case : (p : ℕ → Bool) (x : ℕ) (ys : List ℕ) (b : Bool) → p x ≡ b → list_any p ys ≡ false → list_any p (cond (not b) (x ∷ ys) ys) ≡ false
none_case p x ys true is h = h
none_case p x ys false is h = rw is h

none_of_others : (p : ℕ → Bool) (xs : List ℕ) → list_any p (filter (λ j. not (p j)) xs) ≡ false
none_of_others p [] = refl
none_of_others p (x ∷ xs) = none_case p x (filter (λ j. not (p j)) xs) (p x) refl (none_of_others p xs)

grows_case : (c : PermutationRun) (m : Moment) (xs : List ℕ) (lines : List Line) → list_any (is_reported lines) xs ≡ false → (length lines < length (fold (try_again c m) lines xs)) ⊎ (length (fold (try_again c m) lines xs) ≤ length lines) → nat_lt (length lines) (length (fold (try_again c m) lines xs)) ≡ list_any (is_reported (fold (try_again c m) lines xs)) xs
grows_case c m xs lines none (inl lt) = lt-ltb (length lines) (length (fold (try_again c m) lines xs)) lt ∙ sym (grew c m xs lines lt)
grows_case c m xs lines none (inr le) =
    le-ltb (length lines) (length (fold (try_again c m) lines xs)) le
    ∙ sym (ap (λ (w : List Line). list_any (is_reported w) xs) (stuck c m xs lines le) ∙ none)

-- a pass is one over the waiting list
pub pass_waiting : (c : PermutationRun) (m : Moment) (lines : List Line) → pass c m lines ≡ fold (try_again c m) lines (active lines m.joined)
pass_waiting c m lines = skip_reported (try_again c m) (over_reported c m) (keeps_reported c m) lines m.joined

-- the lines grow in a pass exactly where it reports a step of the waiting list
pub grows : (c : PermutationRun) (m : Moment) (lines : List Line) → nat_lt (length lines) (length (pass c m lines)) ≡ list_any (is_reported (pass c m lines)) (active lines m.joined)
grows c m lines =
    rw (pass_waiting c m lines) (grows_case c m (active lines m.joined) lines (none_of_others (is_reported lines) (instances m.joined)) (cases_lt (length lines) (length (fold (try_again c m) lines (active lines m.joined)))))

own_case : (c : PermutationRun) (m : Moment) (s : ℕ) (lines : List Line) (x : ℕ) (xs : List ℕ) (b : Bool) → ((l : List Line) → fold (own_retry c m s) l xs ≡ fold (try_again c m) l (filter (is_of c s) xs)) → fold (own_retry c m s) (if b then try_again c m lines x else lines) xs ≡ fold (try_again c m) lines (cond b (x ∷ filter (is_of c s) xs) (filter (is_of c s) xs))
own_case c m s lines x xs true rest = rest (try_again c m lines x)
own_case c m s lines x xs false rest = rest lines

pub own_filter : (c : PermutationRun) (m : Moment) (s : ℕ) (xs : List ℕ) (lines : List Line) → fold (own_retry c m s) lines xs ≡ fold (try_again c m) lines (filter (is_of c s) xs)
own_filter c m s [] lines = refl
own_filter c m s (x ∷ xs) lines = own_case c m s lines x xs (is_of c s x) (own_filter c m s xs)

own_over : (c : PermutationRun) (m : Moment) (s : ℕ) (lines : List Line) (i : ℕ) → is_reported lines i ≡ true → own_retry c m s lines i ≡ lines
own_over c m s lines i h = rw (over_reported c m lines i h) (elim (is_of c s i) as (λ b. (if b then lines else lines) ≡ lines) [ true ↦ refl | false ↦ refl ])

own_keeps : (c : PermutationRun) (m : Moment) (s : ℕ) (lines : List Line) (j i : ℕ) → is_reported lines i ≡ true → is_reported (own_retry c m s lines j) i ≡ true
own_keeps c m s lines j i h =
    let kept = keeps_reported c m lines j i h in
    elim (is_of c s j) as (λ b. is_reported (if b then try_again c m lines j else lines) i ≡ true) [ true ↦ kept | false ↦ h ]

-- the session's own tries are those of its active instances
pub own_waiting : (c : PermutationRun) (m : Moment) (s n : ℕ) (lines : List Line) → fold (try_again c m) lines (filter (is_of c s) (instances n)) ≡ fold (try_again c m) lines (filter (is_of c s) (active lines n))
own_waiting c m s n lines = sym (own_filter c m s (instances n) lines) ∙ skip_reported (own_retry c m s) (own_over c m s) (own_keeps c m s) lines n ∙ own_filter c m s (active lines n) lines

shorter_case : (e x : ℕ) (ys : List ℕ) (b : Bool) → length (filter (λ j. not (j == e)) ys) ≤ length ys → (list_any (λ j. j == e) ys ≡ true → length (filter (λ j. not (j == e)) ys) + 1 ≤ length ys) → (b || list_any (λ j. j == e) ys) ≡ true → length (cond (not b) (x ∷ filter (λ j. not (j == e)) ys) (filter (λ j. not (j == e)) ys)) + 1 ≤ suc (length ys)
shorter_case e x ys true few rest h = omega arith
shorter_case e x ys false few rest h = let less = rest h in omega arith

few_left : (p : ℕ → Bool) (xs : List ℕ) → length (filter p xs) ≤ length xs
few_left p [] = omega arith
few_left p (x ∷ xs) = let rest = few_left p xs in elim (p x) as (λ b. length (cond b (x ∷ filter p xs) (filter p xs)) ≤ suc (length xs)) [ true ↦ omega arith | false ↦ omega arith ]

shorter : (e : ℕ) (xs : List ℕ) → list_any (λ j. j == e) xs ≡ true → length (filter (λ j. not (j == e)) xs) + 1 ≤ length xs
shorter e [] h = cc
shorter e (x ∷ xs) h = shorter_case e x xs (x == e) (few_left (λ j. not (j == e)) xs) (shorter e xs) h

count_case : (c : PermutationRun) (m : Moment) (lines new : List Line) (i n : ℕ) → i < n → (new ≡ lines) ⊎ ((is_reported lines i ≡ false) × (new ≡ lines ++ Completed i m.seen ∷ [])) → length new + length (active new n) ≤ length lines + length (active lines n)
count_case c m lines new i n h (inl e) = let same = ap (λ (w : List Line). length w + length (active w n)) e in omega arith
count_case c m lines new i n h (inr p) =
    let there : list_any (λ j. j == i) (active lines n) ≡ true = any_is (λ j. not (is_reported lines j)) i n h ∙ rw p.0 refl in
    let less = shorter i (active lines n) there in
    let more = ap length p.1 ∙ length-append lines (Completed i m.seen ∷ []) in
    let left = ap (λ (w : List Line). length (active w n)) p.1 ∙ ap length (active_leave lines i m.seen n) in
    omega arith

fold_count : (c : PermutationRun) (m : Moment) (n low high : ℕ) (xs : List ℕ) (lines : List Line) → Between low high xs → high ≤ n → length (fold (try_again c m) lines xs) + length (active (fold (try_again c m) lines xs) n) ≤ length lines + length (active lines n)
fold_count c m n low high [] lines h le = omega arith
fold_count c m n low high (x ∷ xs) lines h le =
    let room = between_length (x + 1) high xs h.1 in
    let now = count_case c m lines (try_again c m lines x) x n (omega arith) (retry_cases c m lines x) in
    let rest = fold_count c m n (x + 1) high xs (try_again c m lines x) h.1 le in
    omega arith

-- each reported step leaves the waiting list
pass_count : (c : PermutationRun) (m : Moment) (lines : List Line) → length (pass c m lines) + length (active (pass c m lines) m.joined) ≤ length lines + length (active lines m.joined)
pass_count c m lines = fold_count c m m.joined 0 m.joined (instances m.joined) lines (between_instances m.joined) (omega arith)

enough_case : (c : PermutationRun) (m : Moment) (k more : ℕ) (lines new : List Line) (b : Bool) → polls_again c m lines new ≡ b → (length lines < length new → polled c m (k + more) new ≡ polled c m k new) → (if b then polled c m (k + more) new else new) ≡ (if b then polled c m k new else new)
enough_case c m k more lines new true is rest = rest (ltb-true (length lines) (length new) (and_parts _ _ is).0)
enough_case c m k more lines new false is rest = refl

enough : (c : PermutationRun) (m : Moment) (more k : ℕ) (lines : List Line) → length (active lines m.joined) < k → polled c m (k + more) lines ≡ polled c m k lines
enough c m more zero lines h = absurd (omega arith)
enough c m more (suc k) lines h =
    let next : suc k + more ≡ suc (k + more) = omega arith in
    let counted = pass_count c m lines in
    rw next (enough_case c m k more lines (pass c m lines) (polls_again c m lines (pass c m lines)) refl (λ grew. enough c m more k (pass c m lines) (omega arith)))

-- any larger number of passes gives the same lines
pub more_passes : (c : PermutationRun) (m : Moment) (lines : List Line) (more : ℕ) → polled c m (m.joined + 1 + more) lines ≡ all_polls c m lines
more_passes c m lines more =
    let few = between_length 0 m.joined (active lines m.joined) (between_filter (λ j. not (is_reported lines j)) 0 m.joined (instances m.joined) (between_instances m.joined)) in
    enough c m more (m.joined + 1) lines (omega arith)

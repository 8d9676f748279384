-- What is said of the entries is what the code says as it goes through them.
use Rattle.std.proofs.Common.{◌≡◌, ◌==◌, ℕ, zero, suc, ◌+◌, ◌<◌, ◌≤◌, ◌⊎◌, List, [], ◌∷◌, ◌++◌, length, refl, ap, sym, ◌∙◌, arith, Bool, true, false, not, cond, ◌&&◌, ◌||◌, nat_lt, Option, Some, None, slice_get, if◌then◌else◌, inl, inr}
use Rattle.std.specs.Prelude.{filter_map, unwrap_or}
use Rattle.std.specs.List.{list_any, filter, fold, range_with_len, cons_option}
use Rattle.std.specs.Option.{option_map_or}
use Rattle.std.proofs.lemmas.Bool.{cases_lt, lt-ltb}
use Rattle.spec_parser.specs.Trees.{EntryTree}
use Rattle.spec_parser.specs.declared.tree.Marker.{Marker}
use Rattle.spec_parser.specs.declared.tree.Marker.TheVariants.{Star, Step as Named}
use Rattle.report_lines.specs.declared.history.Line.{Line}
use Rattle.report_lines.specs.declared.history.Line.TheVariants.{AtOnce, Waiting, Completed}
use Rattle.report_lines.specs.declared.history.Moment.{Moment}
use Rattle.report_lines.specs.declared.history.RunState.TheVariants.{Due, Whole, Invalid}
use Rattle.report_lines.specs.History.{PermutationRun, entry_at, has_ended}
use Rattle.report_lines.specs.Report.{Report, active, moment_of, holds, may_report, retry, poll, rivals, made_way, launched, report_from, report}
use Rattle.report_lines.specs.Code.Walk.{session_of_entry, markers_of, names, is_star, is_awaited, is_of, polls_again, polled, has_unreported}
use Rattle.report_lines.specs.Code.Walk as walk
use Rattle.report_lines.specs.Inner.Trying.{instances, is_marked, pass}
use Rattle.report_lines.specs.Inner.Waiting.{is_reported}
use Rattle.report_lines.proofs.Waits.{reported_push, same_filter, unmarked}
use Rattle.report_lines.proofs.Polls.{over_reported, keeps_reported, fold_keeps, stuck, own_waiting}

-- ---- an entry by its number

field_is : {A : Type 0} (f : EntryTree → A) (o : Option EntryTree) (none : EntryTree) → f (unwrap_or o none) ≡ option_map_or f o (f none)
field_is f None none = refl
field_is f (Some e) none = refl

pub session_is : (c : PermutationRun) (i : ℕ) → (entry_at c i).session ≡ session_of_entry c i
session_is c i = field_is (λ (e : EntryTree). e.session) (slice_get c.entries i) _

pub markers_are : (c : PermutationRun) (i : ℕ) → (entry_at c i).markers ≡ markers_of c i
markers_are c i = field_is (λ (e : EntryTree). e.markers) (slice_get c.entries i) _

pub ended_is : (c : PermutationRun) (seen i : ℕ) → has_ended c seen i ≡ walk.block_ended c seen i
ended_is c seen i = rw (session_is c i) refl

-- ---- markers

any_of_one : (f : EntryTree → Bool) (o : Option EntryTree) (es : List EntryTree) → list_any f (cons_option o es) ≡ (option_map_or f o false || list_any f es)
any_of_one f None es = refl
any_of_one f (Some e) es = refl

any_of : (f : EntryTree → Bool) (at : ℕ → Option EntryTree) (js : List ℕ) → list_any f (filter_map at js) ≡ list_any (λ j. option_map_or f (at j) false) js
any_of f at [] = refl
any_of f at (j ∷ js) = any_of_one f (at j) (filter_map at js) ∙ ap (λ b. option_map_or f (at j) false || b) (any_of f at js)

or_swap : (a b c d : Bool) → ((a || b) || (c || d)) ≡ ((a || c) || (b || d))
or_swap true b c d = refl
or_swap false true true d = refl
or_swap false true false d = refl
or_swap false false c d = refl

or_of_one : (p q : EntryTree → Bool) (o : Option EntryTree) → option_map_or (λ (e : EntryTree). p e || q e) o false ≡ (option_map_or p o false || option_map_or q o false)
or_of_one p q None = refl
or_of_one p q (Some e) = refl

any_or : (p q : EntryTree → Bool) (at : ℕ → Option EntryTree) (js : List ℕ)
    → list_any (λ j. option_map_or (λ (e : EntryTree). p e || q e) (at j) false) js ≡ (list_any (λ j. option_map_or p (at j) false) js || list_any (λ j. option_map_or q (at j) false) js)
any_or p q at [] = refl
any_or p q at (j ∷ js) =
    let one = option_map_or p (at j) false in
    let other = option_map_or q (at j) false in
    ap (λ b. b || list_any (λ j. option_map_or (λ (e : EntryTree). p e || q e) (at j) false) js) (or_of_one p q (at j))
    ∙ ap (λ b. (one || other) || b) (any_or p q at js)
    ∙ or_swap one other (list_any (λ j. option_map_or p (at j) false) js) (list_any (λ j. option_map_or q (at j) false) js)

none_of_one : (o : Option EntryTree) → option_map_or (λ (e : EntryTree). false) o false ≡ false
none_of_one None = refl
none_of_one (Some e) = refl

none_of : (at : ℕ → Option EntryTree) (js : List ℕ) → list_any (λ j. option_map_or (λ (e : EntryTree). false) (at j) false) js ≡ false
none_of at [] = refl
none_of at (j ∷ js) = rw (none_of_one (at j)) (none_of at js)

star_case : (f a s : Bool) → (f || (a || (f && s))) ≡ (a || (f && true))
star_case true true s = refl
star_case true false s = refl
star_case false true s = refl
star_case false false s = refl

or_assoc : (a b c : Bool) → (a || (b || c)) ≡ ((a || b) || c)
or_assoc true b c = refl
or_assoc false b c = refl

and_none : (f : Bool) → (f && false) ≡ false
and_none true = refl
and_none false = refl

-- an instance is held back by a step that it waits for, or at its first try by a star
held : (c : PermutationRun) (js : List ℕ) (f : Bool) (ms : List Marker)
    → list_any (holds c js f) ms ≡ (list_any (λ j. option_map_or (λ (e : EntryTree). list_any (names e) ms) (slice_get c.entries j) false) js || (f && list_any is_star ms))
held c js f [] = rw (none_of (slice_get c.entries) js) (sym (and_none f))
held c js f (Star ∷ ms) =
    ap (λ b. f || b) (held c js f ms)
    ∙ star_case f (list_any (λ j. option_map_or (λ (e : EntryTree). list_any (names e) ms) (slice_get c.entries j) false) js) (list_any is_star ms)
held c js f (Named session step ∷ ms) =
    let named = λ (e : EntryTree). names e (Named session step) in
    let others = λ (e : EntryTree). list_any (names e) ms in
    let one = list_any (λ j. option_map_or named (slice_get c.entries j) false) js in
    let rest = list_any (λ j. option_map_or others (slice_get c.entries j) false) js in
    ap (λ b. b || list_any (holds c js f) ms) (any_of named (slice_get c.entries) js)
    ∙ ap (λ b. one || b) (held c js f ms)
    ∙ or_assoc one rest (f && list_any is_star ms)
    ∙ ap (λ b. b || (f && list_any is_star ms)) (sym (any_or named others (slice_get c.entries) js))

-- ---- tries

free_case : (h a s : Bool) → (h && not (a || s)) ≡ ((h && not a) && not s)
free_case true true s = refl
free_case true false s = refl
free_case false a s = refl

may_is : (c : PermutationRun) (m : Moment) (lines : List Line) (f : Bool) (i : ℕ)
    → may_report c m lines f i ≡ (walk.can_report c m lines i && not (f && list_any is_star (markers_of c i)))
may_is c m lines f i =
    let waiting = active lines m.launched in
    ap (λ b. b && not (list_any (holds c waiting f) (entry_at c i).markers)) (ended_is c m.seen i)
    ∙ ap (λ (ms : List Marker). walk.block_ended c m.seen i && not (list_any (holds c waiting f) ms)) (markers_are c i)
    ∙ ap (λ b. walk.block_ended c m.seen i && not b) (held c waiting f (markers_of c i))
    ∙ free_case (walk.block_ended c m.seen i) (list_any (is_awaited c i) waiting) (f && list_any is_star (markers_of c i))

and_true : (b : Bool) → (b && true) ≡ b
and_true true = refl
and_true false = refl

retry_is : (c : PermutationRun) (m : Moment) (lines : List Line) (i : ℕ) → retry c m lines i ≡ walk.try_again c m lines i
retry_is c m lines i =
    ap (λ b. if not (is_reported lines i) && b then lines ++ Completed i m.seen ∷ [] else lines) (may_is c m lines false i ∙ and_true (walk.can_report c m lines i))

same_fold : (f g : List Line → ℕ → List Line) → ((lines : List Line) (i : ℕ) → f lines i ≡ g lines i) → (lines : List Line) (is : List ℕ) → fold f lines is ≡ fold g lines is
same_fold f g h lines [] = refl
same_fold f g h lines (i ∷ is) = ap (λ (w : List Line). fold f w is) (h lines i) ∙ same_fold f g h (g lines i) is

tries_are : (c : PermutationRun) (m : Moment) (lines : List Line) (is : List ℕ) → fold (retry c m) lines is ≡ fold (walk.try_again c m) lines is
tries_are c m = same_fold (retry c m) (walk.try_again c m) (retry_is c m)

-- ---- a pass behind which none is wanted

reports_now : (c : PermutationRun) (m : Moment) (lines : List Line) (j : ℕ) (r : Bool) → is_reported lines j ≡ r → is_marked c j ≡ false → walk.block_ended c m.seen j ≡ true → is_reported (walk.try_again c m lines j) j ≡ true
reports_now c m lines j true r un ended = keeps_reported c m lines j j r
reports_now c m lines j false r un ended =
    let itself : (j == j) ≡ true = grind arith in
    rw (r, ended, unmarked c j (active lines m.launched) un) (reported_push lines (Completed j m.seen) j ∙ rw (r, itself) refl)

reported_case : (c : PermutationRun) (m : Moment) (lines : List Line) (a n j : ℕ) → is_marked c j ≡ false → walk.block_ended c m.seen j ≡ true
    → ((lines : List Line) → a + 1 ≤ j → is_reported (fold (walk.try_again c m) lines (range_with_len (a + 1) n)) j ≡ true) → a ≤ j → (a < j) ⊎ (j ≤ a)
    → is_reported (fold (walk.try_again c m) (walk.try_again c m lines a) (range_with_len (a + 1) n)) j ≡ true
reported_case c m lines a n j un ended rest le (inl lt) = rest (walk.try_again c m lines a) (omega (arith, lt))
reported_case c m lines a n j un ended rest le (inr ge) =
    let same : j ≡ a = omega (arith, le, ge) in
    fold_keeps c m (range_with_len (a + 1) n) (walk.try_again c m lines a) j
    (ap (λ k. is_reported (walk.try_again c m lines k) j) (sym same) ∙ reports_now c m lines j (is_reported lines j) refl un ended)

-- an instance that nothing holds back is reported once it was tried
reported_then : (c : PermutationRun) (m : Moment) (a n j : ℕ) (lines : List Line) → is_marked c j ≡ false → walk.block_ended c m.seen j ≡ true → a ≤ j → j < a + n
    → is_reported (fold (walk.try_again c m) lines (range_with_len a n)) j ≡ true
reported_then c m a zero j lines un ended le lt = absurd (omega (arith, le, lt))
reported_then c m a (suc n) j lines un ended le lt =
    reported_case c m lines a n j un ended (λ w more. reported_then c m (a + 1) n j w un ended more (omega (arith, lt))) le (cases_lt a j)

still : (c : PermutationRun) (m : Moment) (a n : ℕ) (lines : List Line) → ((j : ℕ) → a ≤ j → j < a + n → walk.try_again c m lines j ≡ lines) → fold (walk.try_again c m) lines (range_with_len a n) ≡ lines
still c m a zero lines h = refl
still c m a (suc n) lines h =
    ap (λ (w : List Line). fold (walk.try_again c m) w (range_with_len (a + 1) n)) (h a (omega arith) (omega arith))
    ∙ still c m (a + 1) n lines (λ j le lt. h j (omega (arith, le)) (omega (arith, lt)))

kept_or : (p : ℕ → Bool) (x : ℕ) (xs : List ℕ) (b : Bool) → list_any p xs ≡ true → list_any p (cond b (x ∷ xs) xs) ≡ true
kept_or p x xs true h = elim (p x) as (λ b. (b || list_any p xs) ≡ true) [ true ↦ refl | false ↦ h ]
kept_or p x xs false h = h

any_case : (p q : ℕ → Bool) (a n j : ℕ) → q j ≡ true → p j ≡ true → (a + 1 ≤ j → list_any p (filter q (range_with_len (a + 1) n)) ≡ true) → a ≤ j → (a < j) ⊎ (j ≤ a)
    → list_any p (cond (q a) (a ∷ filter q (range_with_len (a + 1) n)) (filter q (range_with_len (a + 1) n))) ≡ true
any_case p q a n j kept here rest le (inl lt) = kept_or p a (filter q (range_with_len (a + 1) n)) (q a) (rest (omega (arith, lt)))
any_case p q a n j kept here rest le (inr ge) =
    let same : a ≡ j = omega (arith, le, ge) in
    let is_kept : q a ≡ true = ap q same ∙ kept in
    let is_here : p a ≡ true = ap p same ∙ here in
    rw (is_kept, is_here) refl

any_left : (p q : ℕ → Bool) (a n j : ℕ) → q j ≡ true → p j ≡ true → a ≤ j → j < a + n → list_any p (filter q (range_with_len a n)) ≡ true
any_left p q a zero j kept here le lt = absurd (omega (arith, le, lt))
any_left p q a (suc n) j kept here le lt = any_case p q a n j kept here (λ more. any_left p q (a + 1) n j kept here more (omega (arith, lt))) le (cases_lt a j)

not_both : (b : Bool) → b ≡ true → b ≡ false → ⊥
not_both b h k = cc

waiting_case : (c : PermutationRun) (m : Moment) (lines : List Line) (j : ℕ) (r k h : Bool) → (let new = pass c m lines in
    j < m.joined → m.joined ≤ m.launched → list_any (λ j. nat_lt j m.joined && is_marked c j) (active new m.launched) ≡ false
    → is_reported new j ≡ r → is_marked c j ≡ k → walk.block_ended c m.seen j ≡ h → walk.try_again c m new j ≡ new)
waiting_case c m lines j true k h lt le none r mark ended = over_reported c m (pass c m lines) j r
waiting_case c m lines j false true h lt le none r mark ended =
    let new = pass c m lines in
    let joined : nat_lt j m.joined ≡ true = lt-ltb j m.joined lt in
    let some = any_left (λ j. nat_lt j m.joined && is_marked c j) (λ j. not (is_reported new j)) 0 m.launched j (rw r refl) (rw (joined, mark) refl) (omega arith) (omega (arith, lt, le)) in
    absurd (not_both _ some none)
waiting_case c m lines j false false true lt le none r mark ended =
    absurd (not_both _ (reported_then c m 0 m.joined j lines mark ended (omega arith) (omega (arith, lt))) r)
waiting_case c m lines j false false false lt le none r mark ended = rw (r, ended) refl

settled_case : (c : PermutationRun) (m : Moment) (lines : List Line) → m.joined ≤ m.launched → (let new = pass c m lines in
    (nat_lt (length lines) (length new) && list_any (λ j. nat_lt j m.joined && is_marked c j) (active new m.launched)) ≡ false
    → (length lines < length new) ⊎ (length new ≤ length lines) → pass c m new ≡ new)
settled_case c m lines le off (inl lt) =
    let grew : nat_lt (length lines) (length (pass c m lines)) ≡ true = lt-ltb (length lines) (length (pass c m lines)) lt in
    let none : list_any (λ j. nat_lt j m.joined && is_marked c j) (active (pass c m lines) m.launched) ≡ false =
    sym (ap (λ b. b && list_any (λ j. nat_lt j m.joined && is_marked c j) (active (pass c m lines) m.launched)) grew) ∙ off in
    still c m 0 m.joined (pass c m lines) (λ j low high. waiting_case c m lines j _ _ _ (omega (arith, high)) le none refl refl refl)
settled_case c m lines le off (inr short) =
    let same : pass c m lines ≡ lines = stuck c m (instances m.joined) lines short in
    ap (pass c m) same

settled : (c : PermutationRun) (m : Moment) (lines : List Line) → m.joined ≤ m.launched → polls_again c m lines (pass c m lines) ≡ false → pass c m (pass c m lines) ≡ pass c m lines
settled c m lines le off = settled_case c m lines le off (cases_lt (length lines) (length (pass c m lines)))

stays : (f : List Line → List Line) (lines : List Line) (turns : List ℕ) → f lines ≡ lines → fold (λ told turn. f told) lines turns ≡ lines
stays f lines [] h = refl
stays f lines (t ∷ turns) h = ap (λ (w : List Line). fold (λ told turn. f told) w turns) h ∙ stays f lines turns h

passes_case : (c : PermutationRun) (m : Moment) (new : List Line) (n : ℕ) (turns : List ℕ) (b : Bool) → (b ≡ false → pass c m new ≡ new)
    → fold (λ told turn. pass c m told) new turns ≡ polled c m n new → fold (λ told turn. pass c m told) new turns ≡ (if b then polled c m n new else new)
passes_case c m new n turns true h rest = rest
passes_case c m new n turns false h rest = stays (pass c m) new turns (h refl)

passes_are : (c : PermutationRun) (m : Moment) → m.joined ≤ m.launched → (a n : ℕ) (lines : List Line) → fold (λ told turn. pass c m told) lines (range_with_len a n) ≡ polled c m n lines
passes_are c m le a zero lines = refl
passes_are c m le a (suc n) lines =
    passes_case c m (pass c m lines) n (range_with_len (a + 1) n) (polls_again c m lines (pass c m lines)) (settled c m lines le) (passes_are c m le (a + 1) n (pass c m lines))

pub poll_is : (c : PermutationRun) (m : Moment) (lines : List Line) → m.joined ≤ m.launched → poll c m lines ≡ walk.all_polls c m lines
poll_is c m lines le =
    same_fold (λ told turn. fold (retry c m) told (instances m.joined)) (λ told turn. pass c m told) (λ told turn. tries_are c m told (instances m.joined)) lines (range_with_len 0 (m.joined + 1))
    ∙ passes_are c m le 0 (m.joined + 1) lines

-- ---- the entries

same_rivals : (c : PermutationRun) (lines : List Line) (e : ℕ) → rivals c lines e ≡ filter (is_of c (session_of_entry c e)) (active lines e)
same_rivals c lines e =
    same_filter (λ i. (entry_at c i).session == (entry_at c e).session) (is_of c (session_of_entry c e)) (λ i. rw (session_is c i, session_is c e) refl) (active lines e)

any_case_of : (p : ℕ → Bool) (x : ℕ) (xs : List ℕ) (b : Bool) → (length (filter p xs) == 0) ≡ not (list_any p xs) → (length (cond b (x ∷ filter p xs) (filter p xs)) == 0) ≡ not (b || list_any p xs)
any_case_of p x xs true h = grind arith
any_case_of p x xs false h = h

any_or_none : (p : ℕ → Bool) (xs : List ℕ) → (length (filter p xs) == 0) ≡ not (list_any p xs)
any_or_none p [] = refl
any_or_none p (x ∷ xs) = any_case_of p x xs (p x) (any_or_none p xs)

no_rivals : (c : PermutationRun) (lines : List Line) (e : ℕ) → (length (rivals c lines e) == 0) ≡ not (has_unreported c lines e)
no_rivals c lines e = ap (λ (xs : List ℕ). length xs == 0) (same_rivals c lines e) ∙ any_or_none (is_of c (session_of_entry c e)) (active lines e)

way_case : (b : Bool) (x y z : List Line) → y ≡ z → (if not b then x else y) ≡ (if b then z else x)
way_case true x y z h = h
way_case false x y z h = refl

way_is : (c : PermutationRun) (lines : List Line) (e : ℕ) → made_way c lines e ≡ walk.before_launch c lines e
way_is c lines e =
    let m = moment_of c e e in
    let own = filter (is_of c (session_of_entry c e)) (instances e) in
    let tried : fold (retry c m) lines (rivals c lines e) ≡ fold (walk.try_again c m) lines own =
    tries_are c m lines (rivals c lines e) ∙ ap (fold (walk.try_again c m) lines) (same_rivals c lines e) ∙ sym (own_waiting c m (session_of_entry c e) e lines) in
    ap (λ b. if b then lines else poll c m (fold (retry c m) lines (rivals c lines e))) (no_rivals c lines e)
    ∙ way_case (has_unreported c lines e) lines (poll c m (fold (retry c m) lines (rivals c lines e))) (walk.all_polls c m (fold (walk.try_again c m) lines own))
    (ap (poll c m) tried ∙ poll_is c m (fold (walk.try_again c m) lines own) (omega arith))

launched_is : (c : PermutationRun) (lines : List Line) (e : ℕ) → launched c lines e ≡ walk.after_launch c lines e
launched_is c lines e =
    let m = moment_of c (e + 1) e in
    ap (λ b. poll c m (lines ++ (if b then AtOnce e m.seen else Waiting e) ∷ [])) (may_is c m lines true e)
    ∙ poll_is c m (lines ++ (if walk.can_report c m lines e && not (list_any is_star (markers_of c e)) then AtOnce e m.seen else Waiting e) ∷ []) (omega arith)

not_not : (b : Bool) → not (not b) ≡ b
not_not true = refl
not_not false = refl

from_is : (c : PermutationRun) (rest e count : ℕ) (lines : List Line) → report_from c e rest count lines ≡ walk.walked_from c e rest count lines
from_is c zero e count lines =
    ap (λ (all : List Line). let r : Report = record { lines = all; state = if length (active all e) == 0 then Whole else Invalid } in r) (poll_is c (moment_of c e e) lines (omega arith))
from_is c (suc rest) e count lines =
    let way = walk.before_launch c lines e in
    let busy : (not (length (rivals c way e) == 0)) ≡ has_unreported c way e = ap not (no_rivals c way e) ∙ not_not (has_unreported c way e) in
    ap (λ (w : List Line). let r : Report = if not (length (rivals c w e) == 0) then record { lines = w; state = Invalid }
    else if nat_lt e count then report_from c (e + 1) rest count (launched c w e) else record { lines = w; state = Due e } in r) (way_is c lines e)
    ∙ ap (λ b. let r : Report = if b then record { lines = way; state = Invalid }
    else if nat_lt e count then report_from c (e + 1) rest count (launched c way e) else record { lines = way; state = Due e } in r) busy
    ∙ ap (λ (next : Report). let r : Report = if has_unreported c way e then record { lines = way; state = Invalid } else if nat_lt e count then next else record { lines = way; state = Due e } in r)
    (ap (report_from c (e + 1) rest count) (launched_is c way e) ∙ from_is c rest (e + 1) count (walk.after_launch c way e))

pub report_is : (c : PermutationRun) (count : ℕ) → report c count ≡ walk.walked c count
report_is c count = from_is c (length c.entries) 0 count []

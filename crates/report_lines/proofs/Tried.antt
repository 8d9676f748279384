-- The report goes as its rules say: the lines are those of the tries.
use Rattle.std.proofs.Common.{◌≡◌, ℕ, zero, suc, ◌+◌, ◌<◌, ◌≤◌, ◌⊎◌, List, [], ◌∷◌, ◌++◌, length, refl, ap, sym, ◌∙◌, arith, true, false, Bool, not, cond, ◌==◌, ◌&&◌, ◌||◌, nat_lt, if◌then◌else◌, inl, inr}
use Rattle.std.specs.List.{filter, fold, list_any}
use Rattle.std.proofs.lemmas.List.{append-nil}
use Rattle.std.proofs.lemmas.List.Folds.{list_any-append}
use Rattle.std.proofs.lemmas.List.Elements.{filter-append}
use Rattle.std.proofs.lemmas.Bool.{cases_lt, lt-ltb, le-ltb, cases_eq, eqb-true, eqb-false}
use Rattle.std.proofs.Math.Bool.{or-false}
use Rattle.report_lines.specs.declared.history.Line.{Line}
use Rattle.report_lines.specs.declared.history.Line.TheVariants.{AtOnce, Waiting, Completed}
use Rattle.report_lines.specs.declared.history.Moment.{Moment}
use Rattle.report_lines.specs.declared.history.RunState.TheVariants.{Due, Invalid}
use Rattle.report_lines.specs.History.{PermutationRun}
use Rattle.report_lines.specs.Code.Walk.{session_of_entry, block_ended, is_awaited, is_star, markers_of}
use Rattle.report_lines.specs.Report.{reports, active, moment_of}
use Rattle.report_lines.specs.Code.Walk.{try_again, polls_again, polled, all_polls, is_of, has_unreported, before_launch, after_launch, walked_from, walked}
use Rattle.report_lines.specs.Inner.Waiting.{is_reported}
use Rattle.report_lines.specs.Inner.Trying.{is_marked, instances, first_try, pass}
use Rattle.report_lines.specs.Tries.{Try, is_try_of, is_untried, was_reported, still_active, is_met, says, said, try_each, gone_through, wants_another, passes, all_passes, has_active, tries_before, tries_after, tries_from, tries}
use Rattle.report_lines.proofs.Waits.{same_filter}
use Rattle.report_lines.proofs.Rising.{instances_more, Between, between_instances, between_filter, between_length}
use Rattle.report_lines.proofs.Polls.{pass_waiting, grows, own_waiting}

or_same : (h b r : Bool) → (b ≡ true → h ≡ true) → (h || false) ≡ (h || (b && r))
or_same true b r same = refl
or_same false true r same = let no : false ≡ true = same refl in cc
or_same false false r same = refl

says_case : (i e s : ℕ) (h_e h_i r n : Bool) → ((i == e) ≡ true → h_e ≡ h_i) → (h_i || is_reported (if h_e then [] else (if r then (if n then AtOnce e s else Completed e s) ∷ [] else (if n then Waiting e ∷ [] else []))) i) ≡ (h_i || ((i == e) && r))
says_case i e s true h_i r n same = or_same h_i (i == e) r (λ is. sym (same is))
says_case i e s false h_i true true same = elim (i == e) as (λ b. (h_i || (b || false)) ≡ (h_i || (b && true))) [ true ↦ refl | false ↦ refl ]
says_case i e s false h_i true false same = elim (i == e) as (λ b. (h_i || (b || false)) ≡ (h_i || (b && true))) [ true ↦ refl | false ↦ refl ]
says_case i e s false h_i false true same = elim (i == e) as (λ b. (h_i || (false || false)) ≡ (h_i || (b && false))) [ true ↦ refl | false ↦ refl ]
says_case i e s false h_i false false same = elim (i == e) as (λ b. (h_i || false) ≡ (h_i || (b && false))) [ true ↦ refl | false ↦ refl ]

-- the lines of the tries report what the tries report
said_reports : (c : PermutationRun) (ts : List Try) (i : ℕ) → is_reported (said c ts) i ≡ was_reported c ts i
said_reports c [] i = refl
said_reports c (t ∷ earlier) i =
    list_any-append (reports i) (said c earlier) (says c earlier t)
    ∙ ap (λ b. b || is_reported (says c earlier t) i) (said_reports c earlier i)
    ∙ says_case i t.entry t.moment.seen (was_reported c earlier t.entry) (was_reported c earlier i) (is_met c earlier t) (is_untried earlier t.entry)
    (λ is. ap (was_reported c earlier) (sym (eqb-true i t.entry is)))

said_active : (c : PermutationRun) (ts : List Try) (n : ℕ) → active (said c ts) n ≡ still_active c ts n
said_active c ts n =
    same_filter (λ j. not (is_reported (said c ts) j)) (λ j. not (was_reported c ts j)) (λ j. ap not (said_reports c ts j)) (instances n)

retry_case : (w ended held starred : Bool) (lines : List Line) (l : Line) → (if not w && (ended && not held) then lines ++ l ∷ [] else lines) ≡ lines ++ (if w then [] else (if ended && not held && not (false && starred) then l ∷ [] else []))
retry_case true ended held starred lines l = sym (append-nil lines)
retry_case false true true starred lines l = sym (append-nil lines)
retry_case false true false starred lines l = refl
retry_case false false held starred lines l = sym (append-nil lines)

says_retry : (c : PermutationRun) (m : Moment) (ts : List Try) (i : ℕ) → is_untried ts i ≡ false → try_again c m (said c ts) i ≡ said c (record { entry = i; moment = m } ∷ ts)
says_retry c m ts i again =
    rw (again, said_reports c ts i, said_active c ts m.launched)
    (retry_case (was_reported c ts i) (block_ended c m.seen i) (list_any (is_awaited c i) (still_active c ts m.launched)) (list_any is_star (markers_of c i)) (said c ts) (Completed i m.seen))

first_case : (ended held starred : Bool) (lines : List Line) (l k : Line) → lines ++ (if (ended && not held) && not starred then l else k) ∷ [] ≡ lines ++ (if ended && not held && not (true && starred) then l ∷ [] else k ∷ [])
first_case true true starred lines l k = refl
first_case true false true lines l k = refl
first_case true false false lines l k = refl
first_case false held starred lines l k = refl

says_first : (c : PermutationRun) (m : Moment) (ts : List Try) (i : ℕ) → is_untried ts i ≡ true → was_reported c ts i ≡ false → first_try c m (said c ts) i ≡ said c (record { entry = i; moment = m } ∷ ts)
says_first c m ts i new fresh =
    rw (new, fresh, said_active c ts m.launched)
    (first_case (block_ended c m.seen i) (list_any (is_awaited c i) (still_active c ts m.launched)) (list_any is_star (markers_of c i)) (said c ts) (AtOnce i m.seen) (Waiting i))

untried_case : (b tried w r : Bool) → not (b || tried) ≡ true → (not tried ≡ true → w ≡ false) → (w || (b && r)) ≡ false
untried_case true tried w r h rest = cc
untried_case false tried w r h rest = rw (rest h) refl

untried_waits : (c : PermutationRun) (ts : List Try) (i : ℕ) → is_untried ts i ≡ true → was_reported c ts i ≡ false
untried_waits c [] i h = refl
untried_waits c (t ∷ earlier) i h = untried_case (i == t.entry) (list_any (is_try_of i) earlier) (was_reported c earlier i) (is_met c earlier t) h (untried_waits c earlier i)

-- the lines are those of the tries, and just the instances of so many entries have been tried
pub record Follows (c : PermutationRun) (n : ℕ) (lines : List Line) (ts : List Try) : Type 0 where
  pub said_is : lines ≡ said c ts
  pub tried : (i : ℕ) → is_untried ts i ≡ not (nat_lt i n)

tried_case : (i j n : ℕ) (b tried : Bool) → (b ≡ true → j < n) → not tried ≡ not (nat_lt j n) → not (b || tried) ≡ not (nat_lt j n)
tried_case i j n true tried less h = ap not (sym (lt-ltb j n (less refl)))
tried_case i j n false tried less h = h

tried_again : (ts : List Try) (m : Moment) (i n : ℕ) → i < n → ((j : ℕ) → is_untried ts j ≡ not (nat_lt j n)) → (j : ℕ) → is_untried (record { entry = i; moment = m } ∷ ts) j ≡ not (nat_lt j n)
tried_again ts m i n less h j = tried_case i j n (j == i) (list_any (is_try_of j) ts) (λ is. let same = eqb-true j i is in omega arith) (h j)

follows_retry : (c : PermutationRun) (m : Moment) (n : ℕ) (lines : List Line) (ts : List Try) (i : ℕ) → i < n → Follows c n lines ts → Follows c n (try_again c m lines i) (record { entry = i; moment = m } ∷ ts)
follows_retry c m n lines ts i less f = record {
  said_is = ap (λ (w : List Line). try_again c m w i) f.said_is ∙ says_retry c m ts i (f.tried i ∙ ap not (lt-ltb i n less));
  tried = tried_again ts m i n less f.tried;
}

follows_each : (c : PermutationRun) (m : Moment) (n low high : ℕ) (xs : List ℕ) (lines : List Line) (ts : List Try) → Between low high xs → high ≤ n → Follows c n lines ts → Follows c n (fold (try_again c m) lines xs) (try_each m ts xs)
follows_each c m n low high [] lines ts h le f = f
follows_each c m n low high (x ∷ xs) lines ts h le f =
    let room = between_length (x + 1) high xs h.1 in
    follows_each c m n (x + 1) high xs (try_again c m lines x) (record { entry = x; moment = m } ∷ ts) h.1 le (follows_retry c m n lines ts x (omega arith) f)

pub follows_active : (c : PermutationRun) (n : ℕ) (lines : List Line) (ts : List Try) (k : ℕ) → Follows c n lines ts → active lines k ≡ still_active c ts k
follows_active c n lines ts k f = ap (λ (w : List Line). active w k) f.said_is ∙ said_active c ts k

rises : (c : PermutationRun) (ts : List Try) (k : ℕ) → Between 0 k (still_active c ts k)
rises c ts k = between_filter (λ j. not (was_reported c ts j)) 0 k (instances k) (between_instances k)

follows_pass : (c : PermutationRun) (m : Moment) (n : ℕ) (lines : List Line) (ts : List Try) → m.joined ≤ n → Follows c n lines ts → Follows c n (pass c m lines) (gone_through c m ts)
follows_pass c m n lines ts le f =
    rw (pass_waiting c m lines, follows_active c n lines ts m.joined f)
    (follows_each c m n 0 m.joined (still_active c ts m.joined) lines ts (rises c ts m.joined) le f)

any_below : (p : ℕ → Bool) (low high n : ℕ) (xs : List ℕ) → Between low high xs → high ≤ n → list_any (λ j. nat_lt j n && p j) xs ≡ list_any p xs
any_below p low high n [] h le = refl
any_below p low high n (x ∷ xs) h le =
    let room = between_length (x + 1) high xs h.1 in
    let less : nat_lt x n ≡ true = lt-ltb x n (omega arith) in
    rw (less, any_below p (x + 1) high n xs h.1 le) refl

any_joined_case : (p q : ℕ → Bool) (k n : ℕ) → (k ≤ n → list_any (λ j. nat_lt j k && p j) (filter q (instances n)) ≡ list_any p (filter q (instances k))) → k ≤ suc n → (n < k) ⊎ (k ≤ n) → list_any (λ j. nat_lt j k && p j) (filter q (instances (suc n))) ≡ list_any p (filter q (instances k))
any_joined_case p q k n rest h (inl lt) =
    let all : suc n ≡ k = omega arith in
    any_below p 0 (suc n) k (filter q (instances (suc n))) (between_filter q 0 (suc n) (instances (suc n)) (between_instances (suc n))) (omega arith)
    ∙ ap (λ m. list_any p (filter q (instances m))) all
any_joined_case p q k n rest h (inr le) =
    let past : nat_lt n k ≡ false = le-ltb n k le in
    ap (λ xs. list_any (λ j. nat_lt j k && p j) (filter q xs)) (instances_more n)
    ∙ ap (list_any (λ j. nat_lt j k && p j)) (filter-append q (instances n) (n ∷ []))
    ∙ list_any-append (λ j. nat_lt j k && p j) (filter q (instances n)) (filter q (n ∷ []))
    ∙ elim (q n) as (λ b. (list_any (λ j. nat_lt j k && p j) (filter q (instances n)) || list_any (λ j. nat_lt j k && p j) (cond b (n ∷ []) [])) ≡ list_any (λ j. nat_lt j k && p j) (filter q (instances n)))
    [ true ↦ rw past (or-false _) | false ↦ or-false _ ]
    ∙ rest le

-- those that have joined the list, of all that are active
any_joined : (p q : ℕ → Bool) (k n : ℕ) → k ≤ n → list_any (λ j. nat_lt j k && p j) (filter q (instances n)) ≡ list_any p (filter q (instances k))
any_joined p q k zero h = let none : k ≡ 0 = omega arith in rw none refl
any_joined p q k (suc n) h = any_joined_case p q k n (any_joined p q k n) h (cases_lt n k)

same_any : (p q : ℕ → Bool) → ((i : ℕ) → p i ≡ q i) → (xs : List ℕ) → list_any p xs ≡ list_any q xs
same_any p q h [] = refl
same_any p q h (x ∷ xs) = rw (h x, same_any p q h xs) refl

follows_reports : (c : PermutationRun) (n : ℕ) (lines : List Line) (ts : List Try) (i : ℕ) → Follows c n lines ts → is_reported lines i ≡ was_reported c ts i
follows_reports c n lines ts i f = ap (λ (w : List Line). is_reported w i) f.said_is ∙ said_reports c ts i

follows_on : (c : PermutationRun) (m : Moment) (n : ℕ) (lines : List Line) (ts : List Try) → m.joined ≤ n → m.joined ≤ m.launched → Follows c n lines ts → polls_again c m lines (pass c m lines) ≡ wants_another c m ts (gone_through c m ts)
follows_on c m n lines ts le few f =
    let new = follows_pass c m n lines ts le f in
    let reported : nat_lt (length lines) (length (pass c m lines)) ≡ list_any (was_reported c (gone_through c m ts)) (still_active c ts m.joined) =
    grows c m lines
    ∙ ap (list_any (is_reported (pass c m lines))) (follows_active c n lines ts m.joined f)
    ∙ same_any (is_reported (pass c m lines)) (was_reported c (gone_through c m ts)) (λ i. follows_reports c n (pass c m lines) (gone_through c m ts) i new) (still_active c ts m.joined) in
    let marked : list_any (λ j. nat_lt j m.joined && is_marked c j) (active (pass c m lines) m.launched) ≡ list_any (is_marked c) (still_active c (gone_through c m ts) m.joined) =
    any_joined (is_marked c) (λ j. not (is_reported (pass c m lines) j)) m.joined m.launched few
    ∙ ap (list_any (is_marked c)) (follows_active c n (pass c m lines) (gone_through c m ts) m.joined new) in
    rw (reported, marked) refl

polled_case : (c : PermutationRun) (m : Moment) (n k : ℕ) (new : List Line) (ts : List Try) (a b : Bool) → a ≡ b → Follows c n new ts → Follows c n (polled c m k new) (passes c m k ts) → Follows c n (if a then polled c m k new else new) (if b then passes c m k ts else ts)
polled_case c m n k new ts a true is now rest = rw is rest
polled_case c m n k new ts a false is now rest = rw is now

pub follows_polled : (c : PermutationRun) (m : Moment) (n k : ℕ) (lines : List Line) (ts : List Try) → m.joined ≤ n → m.joined ≤ m.launched → Follows c n lines ts → Follows c n (polled c m k lines) (passes c m k ts)
follows_polled c m n zero lines ts le few f = f
follows_polled c m n (suc k) lines ts le few f =
    let new = follows_pass c m n lines ts le f in
    polled_case c m n k (pass c m lines) (gone_through c m ts) (polls_again c m lines (pass c m lines)) (wants_another c m ts (gone_through c m ts)) (follows_on c m n lines ts le few f) new
    (follows_polled c m n k (pass c m lines) (gone_through c m ts) le few new)

pub follows_busy : (c : PermutationRun) (e : ℕ) (lines : List Line) (ts : List Try) → Follows c e lines ts → has_unreported c lines e ≡ has_active c ts e
follows_busy c e lines ts f = ap (list_any (is_of c (session_of_entry c e))) (follows_active c e lines ts e f)

follows_own : (c : PermutationRun) (m : Moment) (s e : ℕ) (lines : List Line) (ts : List Try) → Follows c e lines ts → Follows c e (fold (try_again c m) lines (filter (is_of c s) (instances e))) (try_each m ts (filter (is_of c s) (still_active c ts e)))
follows_own c m s e lines ts f =
    rw (own_waiting c m s e lines, follows_active c e lines ts e f)
    (follows_each c m e 0 e (filter (is_of c s) (still_active c ts e)) lines ts (between_filter (is_of c s) 0 e (still_active c ts e) (rises c ts e)) (omega arith) f)

way_case : (c : PermutationRun) (e : ℕ) (lines tried : List Line) (ts tried_ts : List Try) (a b : Bool) → a ≡ b → Follows c e tried tried_ts → Follows c e lines ts → Follows c e (if a then tried else lines) (if b then tried_ts else ts)
way_case c e lines tried ts tried_ts a true is busy free = rw is busy
way_case c e lines tried ts tried_ts a false is busy free = rw is free

pub follows_way : (c : PermutationRun) (e : ℕ) (lines : List Line) (ts : List Try) → Follows c e lines ts → Follows c e (before_launch c lines e) (tries_before c ts e)
follows_way c e lines ts f =
    let m = moment_of c e e in
    let s = session_of_entry c e in
    way_case c e lines (all_polls c m (fold (try_again c m) lines (filter (is_of c s) (instances e)))) ts (all_passes c m (try_each m ts (filter (is_of c s) (still_active c ts e)))) (has_unreported c lines e) (has_active c ts e) (follows_busy c e lines ts f)
    (follows_polled c m e (m.joined + 1) (fold (try_again c m) lines (filter (is_of c s) (instances e))) (try_each m ts (filter (is_of c s) (still_active c ts e))) (omega arith) (omega arith) (follows_own c m s e lines ts f))
    f

not_same : (j e : ℕ) → (j ≡ e → ⊥) → e ≤ j → (j ≡ e) ⊎ (j ≡ e → ⊥) → e + 1 ≤ j
not_same j e other le (inl same) = absurd (other same)
not_same j e other le (inr differs) = omega arith

next_lt : (j e : ℕ) → (j ≡ e → ⊥) → (j < e) ⊎ (e ≤ j) → nat_lt j e ≡ nat_lt j (e + 1)
next_lt j e other (inl lt) = lt-ltb j e lt ∙ sym (lt-ltb j (e + 1) (omega arith))
next_lt j e other (inr le) = le-ltb j e le ∙ sym (le-ltb j (e + 1) (not_same j e other le (cases_eq j e)))

next_case : (j e : ℕ) (b tried : Bool) → (b ≡ true → j ≡ e) → (b ≡ false → j ≡ e → ⊥) → not tried ≡ not (nat_lt j e) → not (b || tried) ≡ not (nat_lt j (e + 1))
next_case j e true tried same other h = let at = same refl in ap not (sym (lt-ltb j (e + 1) (omega arith)))
next_case j e false tried same other h = h ∙ ap not (next_lt j e (other refl) (cases_lt j e))

follows_first : (c : PermutationRun) (m : Moment) (e : ℕ) (lines : List Line) (ts : List Try) → Follows c e lines ts → Follows c (e + 1) (first_try c m lines e) (record { entry = e; moment = m } ∷ ts)
follows_first c m e lines ts f =
    let new : is_untried ts e ≡ true = f.tried e ∙ ap not (le-ltb e e (omega arith)) in
    record {
      said_is = ap (λ (w : List Line). first_try c m w e) f.said_is ∙ says_first c m ts e new (untried_waits c ts e new);
      tried = λ j. next_case j e (j == e) (list_any (is_try_of j) ts) (eqb-true j e) (eqb-false j e) (f.tried j);
    }

pub follows_launch : (c : PermutationRun) (e : ℕ) (lines : List Line) (ts : List Try) → Follows c e lines ts → Follows c (e + 1) (after_launch c lines e) (tries_after c ts e)
follows_launch c e lines ts f =
    let m = moment_of c (e + 1) e in
    follows_polled c m (e + 1) (m.joined + 1) (first_try c m lines e) (record { entry = e; moment = m } ∷ ts) (omega arith) (omega arith) (follows_first c m e lines ts f)

report_case : (c : PermutationRun) (e rest count : ℕ) (way : List Line) (ts : List Try) (busy active present : Bool) → busy ≡ active → way ≡ said c ts → (walked_from c (e + 1) rest count (after_launch c way e)).lines ≡ said c (tries_from c (e + 1) rest count (tries_after c ts e))
    → (if busy then record { lines = way; state = Invalid } else (if present then walked_from c (e + 1) rest count (after_launch c way e) else record { lines = way; state = Due e })).lines ≡ said c (if active then ts else (if present then tries_from c (e + 1) rest count (tries_after c ts e) else ts))
report_case c e rest count way ts busy true present is said_is more = rw is said_is
report_case c e rest count way ts busy false true is said_is more = rw is more
report_case c e rest count way ts busy false false is said_is more = rw is said_is

follows_report : (c : PermutationRun) (count rest e : ℕ) (lines : List Line) (ts : List Try) → Follows c e lines ts → (walked_from c e rest count lines).lines ≡ said c (tries_from c e rest count ts)
follows_report c count zero e lines ts f =
    let m = moment_of c e e in (follows_polled c m e (m.joined + 1) lines ts (omega arith) (omega arith) f).said_is
follows_report c count (suc rest) e lines ts f =
    let way = follows_way c e lines ts f in
    report_case c e rest count (before_launch c lines e) (tries_before c ts e) (has_unreported c (before_launch c lines e) e) (has_active c (tries_before c ts e) e) (nat_lt e count) (follows_busy c e (before_launch c lines e) (tries_before c ts e) way) way.said_is
    (follows_report c count rest (e + 1) (after_launch c (before_launch c lines e) e) (tries_after c (tries_before c ts e) e) (follows_launch c e (before_launch c lines e) (tries_before c ts e) way))

-- the lines of the report are what its tries say
pub lines_are_said : (c : PermutationRun) (count : ℕ) → (walked c count).lines ≡ said c (tries c count)
lines_are_said c count = follows_report c count (length c.entries) 0 [] [] (record { said_is = refl; tried = λ i. ap not (sym (le-ltb i 0 (omega arith))) })

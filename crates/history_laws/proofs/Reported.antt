-- A step that is reported has ended: so a session whose step is due, and each session at the end, is in no block of an entry before.
use Rattle.std.proofs.Common.{◌≡◌, refl, sym, ◌∙◌, subst, Bool, true, false, cond, not, ◌&&◌, ◌||◌, ◌==◌, nat_lt, ℕ, zero, suc, ◌+◌, ◌-◌, ◌<◌, ◌≤◌, ◌⊎◌, inl, inr, List, [], ◌∷◌, ◌++◌, length, drop, arith, if◌then◌else◌}
use Rattle.std.specs.List.{list_any, filter, fold, range_with_len}
use Rattle.std.proofs.lemmas.Bool.{cases_lt, eqb-true}
use Rattle.report_lines.specs.declared.history.Line.{Line}
use Rattle.report_lines.specs.declared.history.Line.TheVariants.{AtOnce, Waiting, Completed}
use Rattle.report_lines.specs.declared.history.Moment.{Moment}
use Rattle.report_lines.specs.declared.history.RunState.{RunState}
use Rattle.report_lines.specs.declared.history.RunState.TheVariants.{Due, Whole, Invalid}
use Rattle.report_lines.specs.Starts.{ends_in}
use Rattle.report_lines.specs.History.{PermutationRun, seen_before}
use Rattle.report_lines.specs.Report.{Report, reports, active, moment_of}
use Rattle.report_lines.specs.Code.Walk.{session_of_entry, block_ended, is_star, markers_of, can_report, try_again, polls_again, polled, all_polls, is_of, has_unreported, before_launch, after_launch, walked_from, walked}
use Rattle.report_lines.proofs.Waits.{reported_push}
use Rattle.history_laws.proofs.Lists.{any_taken}

-- an item behind the entry's Launch ends its block
abbrev pub Ended : PermutationRun → ℕ → Type 0
Ended c i = list_any (ends_in (session_of_entry c i)) (drop (seen_before c i) c.items) ≡ true

-- each instance that these lines report has ended
abbrev pub AreSure : PermutationRun → List Line → Type 0
AreSure c lines = (i : ℕ) → list_any (reports i) lines ≡ true → Ended c i

ended_so_far : (c : PermutationRun) (seen i : ℕ) → block_ended c seen i ≡ true → Ended c i
ended_so_far c seen i h = any_taken (ends_in (session_of_entry c i)) (seen - seen_before c i) (drop (seen_before c i) c.items) h

or_cases : (b d : Bool) {P : Type 0} → (b ≡ true → P) → (d ≡ true → P) → (b || d) ≡ true → P
or_cases true d f g h = f refl
or_cases false d f g h = g h

and_first : (b d : Bool) → (b && d) ≡ true → b ≡ true
and_first true d h = refl
and_first false d h = cc

and_second : (b d : Bool) → (b && d) ≡ true → d ≡ true
and_second true d h = h
and_second false d h = cc

-- one line more
sure_push : (c : PermutationRun) (lines : List Line) (l : Line) → ((i : ℕ) → reports i l ≡ true → Ended c i) → AreSure c lines → AreSure c (lines ++ l ∷ [])
sure_push c lines l one sure i h = or_cases (list_any (reports i) lines) (reports i l) (sure i) (one i) (sym (reported_push lines l i) ∙ h)

its_own : (c : PermutationRun) (e i : ℕ) → Ended c e → (i == e) ≡ true → Ended c i
its_own c e i h same = subst (Ended c) (sym (eqb-true i e same)) h

sure_try : (c : PermutationRun) (m : Moment) (lines : List Line) (i : ℕ) → AreSure c lines → AreSure c (try_again c m lines i)
sure_try c m lines i sure = by (not (list_any (reports i) lines)) (can_report c m lines i) refl where
  by : (b d : Bool) → can_report c m lines i ≡ d → AreSure c (if b && d then lines ++ Completed i m.seen ∷ [] else lines)
  by true true e = sure_push c lines (Completed i m.seen) (λ j same. its_own c i j (ended_so_far c m.seen i (and_first (block_ended c m.seen i) _ e)) same) sure
  by true false e = sure
  by false d e = sure

sure_tries : (c : PermutationRun) (m : Moment) (xs : List ℕ) (lines : List Line) → AreSure c lines → AreSure c (fold (try_again c m) lines xs)
sure_tries c m [] lines sure = sure
sure_tries c m (x ∷ xs) lines sure = sure_tries c m xs (try_again c m lines x) (sure_try c m lines x sure)

sure_if : (c : PermutationRun) (b : Bool) (xs ys : List Line) → AreSure c xs → AreSure c ys → AreSure c (if b then xs else ys)
sure_if c true xs ys h k = h
sure_if c false xs ys h k = k

sure_polled : (c : PermutationRun) (m : Moment) (n : ℕ) (lines : List Line) → AreSure c lines → AreSure c (polled c m n lines)
sure_polled c m zero lines sure = sure
sure_polled c m (suc n) lines sure =
    let new = fold (try_again c m) lines (range_with_len 0 m.joined) in
    let again : AreSure c new = sure_tries c m (range_with_len 0 m.joined) lines sure in
    sure_if c (polls_again c m lines new) (polled c m n new) new (sure_polled c m n new again) again

sure_way : (c : PermutationRun) (lines : List Line) (e : ℕ) → AreSure c lines → AreSure c (before_launch c lines e)
sure_way c lines e sure =
    let m = moment_of c e e in
    let own = filter (is_of c (session_of_entry c e)) (range_with_len 0 e) in
    sure_if c (has_unreported c lines e) (all_polls c m (fold (try_again c m) lines own)) lines (sure_polled c m (m.joined + 1) (fold (try_again c m) lines own) (sure_tries c m own lines sure)) sure

none_reported : (i e : ℕ) → reports i (Waiting e) ≡ true → ⊥
none_reported i e h = cc

sure_launch : (c : PermutationRun) (lines : List Line) (e : ℕ) → AreSure c lines → AreSure c (after_launch c lines e)
sure_launch c lines e sure =
    let m = moment_of c (e + 1) e in
    sure_polled c m (m.joined + 1) (lines ++ (if can_report c m lines e && not (list_any is_star (markers_of c e)) then AtOnce e m.seen else Waiting e) ∷ [])
    (by (can_report c m lines e) (not (list_any is_star (markers_of c e))) refl) where
      by : (b d : Bool) → can_report c (moment_of c (e + 1) e) lines e ≡ b → AreSure c (lines ++ (if b && d then AtOnce e (moment_of c (e + 1) e).seen else Waiting e) ∷ [])
      by true true is =
          sure_push c lines (AtOnce e (moment_of c (e + 1) e).seen) (λ j same. its_own c e j (ended_so_far c (moment_of c (e + 1) e).seen e (and_first (block_ended c (moment_of c (e + 1) e).seen e) _ is)) same) sure
      by true false is = sure_push c lines (Waiting e) (λ j h. absurd (none_reported j e h)) sure
      by false d is = sure_push c lines (Waiting e) (λ j h. absurd (none_reported j e h)) sure

-- ---- who is still active

or_second : (b c : Bool) → (b || c) ≡ false → c ≡ false
or_second true c k = cc
or_second false c k = k

none_later : (p : ℕ → Bool) (a : ℕ) (rest : List ℕ) (b : Bool) → list_any p (cond b (a ∷ rest) rest) ≡ false → list_any p rest ≡ false
none_later p a rest true h = or_second (p a) (list_any p rest) h
none_later p a rest false h = h

none_here : (p : ℕ → Bool) (i : ℕ) (rest : List ℕ) (b : Bool) → p i ≡ true → list_any p (cond b (i ∷ rest) rest) ≡ false → b ≡ false
none_here p i rest true pass h = by (p i) pass h where
  by : (c : Bool) → c ≡ true → (c || list_any p rest) ≡ false → true ≡ false
  by true e k = k
  by false e k = cc
none_here p i rest false pass h = refl

none_active : (p q : ℕ → Bool) (n a i : ℕ) → list_any p (filter q (range_with_len a n)) ≡ false → a ≤ i → i < a + n → p i ≡ true → q i ≡ false
none_active p q zero a i none low high pass = absurd (omega (arith, low, high))
none_active p q (suc n) a i none low high pass =
    by (cases_lt a i) (λ lt. none_active p q n (a + 1) i (none_later p a (filter q (range_with_len (a + 1) n)) (q a) none) (omega (arith, lt)) (omega (arith, high)) pass) where
      by : (a < i) ⊎ (i ≤ a) → (a < i → q i ≡ false) → q i ≡ false
      by (inl lt) later = later lt
      by (inr le) later =
          let same : a ≡ i = omega (arith, low, le) in
          none_here p i (filter q (range_with_len (i + 1) n)) (q i) pass (subst (λ (j : ℕ). list_any p (filter q (range_with_len j (suc n))) ≡ false) same none)

not_not : (b : Bool) → not b ≡ false → b ≡ true
not_not true h = refl
not_not false h = cc

-- of so many launched instances that are of one session, none of which is active, each has ended
sure_of_session : (c : PermutationRun) (lines : List Line) (e i : ℕ) → AreSure c lines → has_unreported c lines e ≡ false → i < e → is_of c (session_of_entry c e) i ≡ true → Ended c i
sure_of_session c lines e i sure none less own =
    sure i (not_not (list_any (reports i) lines) (none_active (is_of c (session_of_entry c e)) (λ j. not (list_any (reports j) lines)) e 0 i none (omega arith) (omega (arith, less)) own))

empty_none : (xs : List ℕ) → (length xs == 0) ≡ true → list_any (λ j. true) xs ≡ false
empty_none [] h = refl
empty_none (x ∷ xs) h = absurd (some h) where
  some : (suc (length xs) == 0) ≡ true → ⊥
  some e = let none : suc (length xs) ≡ 0 = eqb-true (suc (length xs)) 0 e in omega (arith, none)

sure_of_all : (c : PermutationRun) (lines : List Line) (n i : ℕ) → AreSure c lines → (length (active lines n) == 0) ≡ true → i < n → Ended c i
sure_of_all c lines n i sure none less =
    sure i (not_not (list_any (reports i) lines)
    (none_active (λ j. true) (λ j. not (list_any (reports j) lines)) n 0 i (empty_none (active lines n) none) (omega arith) (omega (arith, less)) refl))

-- ---- the report

-- what is so of the instances before an entry that is due, and of all at the end
abbrev Leaves : PermutationRun → RunState → Type 0
Leaves c (Due d) = (i : ℕ) → i < d → is_of c (session_of_entry c d) i ≡ true → Ended c i
Leaves c Whole = (i : ℕ) → i < length c.entries → Ended c i
Leaves c Invalid = Unit {0}

at_end : (c : PermutationRun) (lines : List Line) (n : ℕ) (b : Bool) → n ≡ length c.entries → AreSure c lines → (length (active lines n) == 0) ≡ b → Leaves c (if b then Whole else Invalid)
at_end c lines n true all sure e = λ i less. sure_of_all c lines n i sure e (omega (arith, all, less))
at_end c lines n false all sure e = tt

at_entry : (c : PermutationRun) (e : ℕ) (way : List Line) (next : Report) (busy there : Bool) → AreSure c way → has_unreported c way e ≡ busy → Leaves c next.state
    → Leaves c (if busy then record { lines = way; state = Invalid } else (if there then next else record { lines = way; state = Due e })).state
at_entry c e way next true there sure is later = tt
at_entry c e way next false true sure is later = later
at_entry c e way next false false sure is later = λ i less own. sure_of_session c way e i sure is less own

leaves_from : (c : PermutationRun) (count rest e : ℕ) (lines : List Line) → e + rest ≡ length c.entries → AreSure c lines → Leaves c (walked_from c e rest count lines).state
leaves_from c count zero e lines all sure =
    let m = moment_of c e e in
    at_end c (all_polls c m lines) e (length (active (all_polls c m lines) e) == 0) (omega (arith, all)) (sure_polled c m (m.joined + 1) lines sure) refl
leaves_from c count (suc rest) e lines all sure =
    let way = before_launch c lines e in
    let sure_now = sure_way c lines e sure in
    at_entry c e way (walked_from c (e + 1) rest count (after_launch c way e)) (has_unreported c way e) (nat_lt e count) sure_now refl
    (leaves_from c count rest (e + 1) (after_launch c way e) (omega (arith, all)) (sure_launch c way e sure_now))

leaves_at : (c : PermutationRun) (count : ℕ) → Leaves c (walked c count).state
leaves_at c count = leaves_from c count (length c.entries) 0 [] (omega arith) (λ i h. absurd (none h)) where
  none : false ≡ true → ⊥
  none h = cc

-- where an entry is due, an instance before it of its session has ended
pub ended_before : (c : PermutationRun) (count d i : ℕ) → (walked c count).state ≡ Due d → i < d → session_of_entry c i ≡ session_of_entry c d → Ended c i
ended_before c count d i is less same = subst (Leaves c) is (leaves_at c count) i less (same_eqb (session_of_entry c i) (session_of_entry c d) same) where
  same_eqb : (a b : ℕ) → a ≡ b → (a == b) ≡ true
  same_eqb a b e = grind arith

-- at the end all have
pub ended_all : (c : PermutationRun) (count i : ℕ) → (walked c count).state ≡ Whole → i < length c.entries → Ended c i
ended_all c count i is less = subst (Leaves c) is (leaves_at c count) i less

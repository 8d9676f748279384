-- Where reading stops at a limit, the next name is the first over it.
use Rattle.std.proofs.Common.{◌≡◌, ◌≤◌, ◌+◌, ◌⊎◌, inl, inr, arith, length, ℕ, zero, suc, Bool, true, false, cond, List, [], ◌∷◌, ◌++◌, Option, Ok, Err, refl, sym, ap, subst, ◌∙◌, append_assoc}
use Rattle.std.specs.Prelude.{nat_lt, unwrap_or}
use Rattle.std.specs.List.{AllByRecursion}
use Rattle.std.proofs.lemmas.Bool.{ltb-false}
use Rattle.iso_lexer.specs.declared.limits.TheConstants.{MOST_ENTRIES, MOST_SESSIONS, MOST_STEPS}
use Rattle.iso_lexer.specs.declared.token.At.{At}
use Rattle.iso_lexer.specs.declared.spec_token.Keyword.{Keyword}
use Rattle.iso_lexer.specs.declared.spec_token.Keyword.TheVariants.{Permutation, Session, Setup, Step, Teardown}
use Rattle.iso_lexer.specs.SpecTokens.{SpecToken}
use Rattle.spec_parser.specs.declared.fault.What.{What}
use Rattle.spec_parser.specs.declared.fault.What.TheVariants as what
use Rattle.spec_parser.specs.declared.fault.Stop.TheVariants.{Expected, OverLimit}
use Rattle.spec_parser.specs.Trees.{PartTree, NameAt, StepOf, SessionOf, MarkerTree, NamedEntry, FileTree}
use Rattle.spec_parser.specs.Counts.{Counts, start, past}
use Rattle.spec_parser.specs.Inner.Stopping.{Rest, Read, many_at, all_at, some_at, name_next, block_next, end_at, name_within, step_at, session_at, entry_at, perm_at, file_at}
use Rattle.spec_parser.specs.Grammar.{a_name, is_name, is_keyword, Grammar, one, a_word, Maybe, Many, none, more, some, block_behind, entry, perm}
use Rattle.spec_parser.specs.Inner.Pieces.{starts_word, starts_name, word_at, setup_at, teardown_at, setups_at, steps_at, sessions_at, some_markers_at, perms_at}
use Rattle.spec_parser.specs.Grammar.{step as step_grammar, session as session_grammar}
use Rattle.spec_parser.specs.IsSpec.{IsShort}
use Rattle.spec_parser.specs.LimitFaults.{IsWord, IsOverAt, at_session, at_step, at_entry, LimitStop}
use Rattle.spec_parser.proofs.Local.{first_is, ◌>>=◌, AreLocal, LocalRead, local_read, is_read, past_twice}
use Rattle.spec_parser.proofs.Tokens.{test_true}
use Rattle.spec_parser.proofs.Productions.{word_read, name_within_local, step_read, steps_local, session_read, sessions_local, setup_local, teardown_local, setups_local, entry_local, perm_read, perms_local}
use Rattle.spec_parser.proofs.ContentsAreCounted.{session_word}
use Rattle.spec_parser.proofs.Limits.{all_from, ok_means, within_is, Few, Keeps, setups_keep, setup_keeps, teardown_keeps, step_keeps, steps_keep, session_keeps, sessions_keep, name_keeps, perms_keep, perm_short, entry_before}
use Rattle.spec_parser.proofs.NeverAtLimit.{Never, not_expected, err_two, never_then, gives_never, end_never, many_zero, Stopped, stopped, block_never, setup_never, teardown_never, setups_never, some_markers_never, word_never, name_never}

-- ---- what is over, from here on

pub data LimitHere (r after : Rest) : Type 0 where
  here_session : (t : At SpecToken) → r.1 ≡ t ∷ after.1 → IsWord Session t → MOST_SESSIONS ≤ r.0.sessions → LimitHere r after
  here_step : (t : At SpecToken) → r.1 ≡ t ∷ after.1 → IsWord Step t → MOST_STEPS ≤ r.0.steps → LimitHere r after
  here_entry : (ps : List (At SpecToken)) (t : At SpecToken) (es : List (At SpecToken)) (perms : List (List NamedEntry)) (entries : List NamedEntry) → r.1 ≡ ps ++ t ∷ (es ++ after.1) → Many perm r.0 ps perms → AllByRecursion IsShort perms
      → IsWord Permutation t → Many entry (past r.0 (ps ++ t ∷ [])) es entries → length entries ≡ MOST_ENTRIES → LimitHere r after

-- these tokens, and then what is over
pub record LimitLater (r after : Rest) : Type 0 where
  pub fs : List (At SpecToken)
  pub mid : Rest
  pub split : r.1 ≡ fs ++ mid.1
  pub place : mid.0 ≡ past r.0 fs
  pub few : Few mid.0
  pub is_named : starts_name after ≡ true
  pub here : LimitHere mid after

abbrev Stops : {A : Type 0} → (Rest → Read A) → Type 0
Stops {A} p = (r after : Rest) → Few r.0 → p r ≡ (Err OverLimit, after) → LimitLater r after

-- what was read, and the tokens that it took
was_front : {A : Type 0} (G : Grammar A) (p : Rest → Read A) → LocalRead G p → (r after : Rest) (x : A) → p r ≡ (Ok x, after) → (front : List (At SpecToken)) × (r.1 ≡ front ++ after.1) × (after.0 ≡ past r.0 front) × G r.0 front x
was_front {A} G p local r after x e =
    let l = local r after x e in
    let same = sym (is_read G p r.0 r.1 l) ∙ e in
    (l.front, l.split ∙ ap (λ (us : List (At SpecToken)). l.front ++ us) (ap (λ (q : Read A). q.1.1) same), sym (ap (λ (q : Read A). q.1.0) same), ok_means G l.out r.0 l.front x (ap (λ (q : Read A). q.0) same) l.means)

behind : (r mid after : Rest) (front : List (At SpecToken)) → r.1 ≡ front ++ mid.1 → mid.0 ≡ past r.0 front → LimitLater mid after → LimitLater r after
behind r mid after front e place o = record {
  fs = front ++ o.fs;
  mid = o.mid;
  split = e ∙ ap (λ (us : List (At SpecToken)). front ++ us) o.split ∙ sym (append_assoc front o.fs o.mid.1);
  place = o.place ∙ ap (λ (c : Counts). past c o.fs) place ∙ sym (past_twice r.0 front o.fs);
  few = o.few;
  is_named = o.is_named;
  here = o.here;
}

stops_case : {A B : Type 0} (G : Grammar A) (p : Rest → Read A) (f : A × Rest → Read B) (r after : Rest) → AreLocal G p → Keeps p → Stops p → ((x : A) → Stops (λ m. f (x, m))) → Few r.0
    → (p r ≡ (Err OverLimit, after)) ⊎ ((x : A) × (mid : Rest) × (p r ≡ (Ok x, mid)) × (f (x, mid) ≡ (Err OverLimit, after))) → LimitLater r after
stops_case G p f r after local keeps stops next few (inl e) = stops r after few e
stops_case G p f r after local keeps stops next few (inr (x, mid, is, e)) =
    let w = was_front G p (local_read local) r mid x is in
    behind r mid after w.0 w.1 w.2 (next x mid after (keeps r mid x is few) e)

stops_then : {A B : Type 0} (G : Grammar A) (p : Rest → Read A) (f : A × Rest → Read B) → AreLocal G p → Keeps p → Stops p → ((x : A) → Stops (λ r. f (x, r))) → Stops (λ r. p r >>= f)
stops_then G p f local keeps stops next r after few e = stops_case G p f r after local keeps stops next few (err_two (p r) f OverLimit after e)

never_stops : {A : Type 0} (p : Rest → Read A) → Never p → Stops p
never_stops p never r after few e = absurd (never r after e)

many_case : {A : Type 0} (G : Grammar A) (starts : Rest → Bool) (item : ℕ → Rest → Read A) (n k : ℕ) (r after : Rest) → ((k : ℕ) → LocalRead G (item k)) → ((k : ℕ) → Keeps (item k)) → ((k : ℕ) → Stops (item k)) → ((m : Rest) → Few m.0 → many_at starts item (k + 1) n m ≡ (Err OverLimit, after) → LimitLater m after) → Few r.0
    → Stopped starts item n k r after OverLimit → LimitLater r after
many_case G starts item n k r after local keeps stops later few (inl e) = stops k r after few e
many_case G starts item n k r after local keeps stops later few (inr (x, mid, is, e)) =
    let w = was_front G (item k) (local k) r mid x is in
    behind r mid after w.0 w.1 w.2 (later mid (keeps k r mid x is few) e)

many_stop : {A : Type 0} (G : Grammar A) (starts : Rest → Bool) (item : ℕ → Rest → Read A) → ((k : ℕ) → LocalRead G (item k)) → ((k : ℕ) → Keeps (item k)) → ((k : ℕ) → Stops (item k)) → (n k : ℕ) → Stops (many_at starts item k n)
many_stop G starts item local keeps stops zero k r after few e = absurd (many_zero starts item k OverLimit r after e)
many_stop G starts item local keeps stops (suc n) k r after few e = many_case G starts item n k r after local keeps stops (λ m f h. many_stop G starts item local keeps stops n (k + 1) m after f h) few (stopped starts item n k r after OverLimit e)

some_by : {A : Type 0} (w : What) (read : Read (List A)) (b : Bool) (r after : Rest) → cond b read (Err (Expected w), r) ≡ (Err OverLimit, after) → read ≡ (Err OverLimit, after)
some_by w read true r after e = e
some_by {A} w read false r after e = absurd (not_expected {A = List A} w r after e)

some_all : {A : Type 0} (w : What) (starts : Rest → Bool) (item : ℕ → Rest → Read A) (r after : Rest) → some_at w starts item r ≡ (Err OverLimit, after) → all_at starts item r ≡ (Err OverLimit, after)
unfolding some_at
some_all w starts item r after e = some_by w (all_at starts item r) (starts r) r after e

some_stop : {A : Type 0} (G : Grammar A) (w : What) (starts : Rest → Bool) (item : ℕ → Rest → Read A) → ((k : ℕ) → LocalRead G (item k)) → ((k : ℕ) → Keeps (item k)) → ((k : ℕ) → Stops (item k)) → Stops (some_at w starts item)
unfolding all_at
some_stop G w starts item local keeps stops r after few e = many_stop G starts item local keeps stops (length r.1) 0 r after few (some_all w starts item r after e)

-- ---- a name over a limit

abbrev NameOver : ℕ → ℕ → Rest → Rest → Type 0
NameOver before most r after = (most ≤ before) × (starts_name r ≡ true) × (r ≡ after)

name_by : (b d : Bool) (before most : ℕ) (r after : Rest) → nat_lt before most ≡ b → starts_name r ≡ d → ◌≡◌ {A = Read NameAt} (cond b (name_next what.Name r) (cond d (Err OverLimit, r) (Err (Expected what.Name), r))) (Err OverLimit, after) → NameOver before most r after
name_by true d before most r after lt s e = absurd (name_never what.Name r after e)
name_by false true before most r after lt s e = (ltb-false before most lt, s, ap (λ (q : Read NameAt). q.1) e)
name_by false false before most r after lt s e = absurd (not_expected {A = NameAt} what.Name r after e)

name_over : (before most : ℕ) (r after : Rest) → name_within before most r ≡ (Err OverLimit, after) → NameOver before most r after
unfolding name_within
name_over before most r after e = name_by (nat_lt before most) (starts_name r) before most r after refl refl e

word_token : (k : Keyword) (w : What) (r mid : Rest) (u : Unit {0}) → word_at k w r ≡ (Ok u, mid) → (t : At SpecToken) × (r.1 ≡ t ∷ mid.1) × IsWord k t × (mid.0 ≡ past r.0 (t ∷ []))
word_token k w r mid u e =
    let f = was_front (one (a_word k)) (word_at k w) (word_read k w) r mid u e in
    let t = f.3.0 in
    (t, f.1 ∙ ap (λ (us : List (At SpecToken)). us ++ mid.1) f.3.1, test_true (is_keyword k t.tok) u f.3.2, f.2 ∙ ap (past r.0) f.3.1)

-- the word was read, and then the name is over, or what is behind it is
step_name : (r mid after : Rest) (u : Unit {0}) (f : NameAt × Rest → Read (StepOf NameAt)) → Few r.0 → word_at Step what.Item r ≡ (Ok u, mid) → ((n : NameAt) → Never (λ m. f (n, m)))
    → (name_within r.0.steps MOST_STEPS mid ≡ (Err OverLimit, after)) ⊎ ((n : NameAt) × (m : Rest) × (name_within r.0.steps MOST_STEPS mid ≡ (Ok n, m)) × (f (n, m) ≡ (Err OverLimit, after))) → LimitLater r after
step_name r mid after u f few word never (inl e) =
    let o = name_over r.0.steps MOST_STEPS mid after e in
    let t = word_token Step what.Item r mid u word in
    record { fs = []; mid = r; split = refl; place = refl; few = few; is_named = subst (λ (m : Rest). starts_name m ≡ true) o.2 o.1; here = here_step t.0 (t.1 ∙ ap (λ (m : Rest). t.0 ∷ m.1) o.2) t.2 o.0 }
step_name r mid after u f few word never (inr (n, m, is, e)) = absurd (never n m after e)

step_case : (r after : Rest) (f : Unit {0} × Rest → Read (StepOf NameAt)) (g : NameAt × Rest → Read (StepOf NameAt)) → Few r.0 → ((u : Unit {0}) (m : Rest) → f (u, m) ≡ (name_within r.0.steps MOST_STEPS m >>= g)) → ((n : NameAt) → Never (λ m. g (n, m)))
    → (word_at Step what.Item r ≡ (Err OverLimit, after)) ⊎ ((u : Unit {0}) × (mid : Rest) × (word_at Step what.Item r ≡ (Ok u, mid)) × (f (u, mid) ≡ (Err OverLimit, after))) → LimitLater r after
step_case r after f g few is never (inl e) = absurd (word_never Step what.Item r after e)
step_case r after f g few is never (inr (u, mid, word, e)) = step_name r mid after u g few word never (err_two (name_within r.0.steps MOST_STEPS mid) g OverLimit after (sym (is u mid) ∙ e))

abbrev step_of : NameAt → PartTree → StepOf NameAt
step_of n b = record { name = n; part = b }

step_stops : Stops step_at
unfolding step_at
step_stops r after few e =
    step_case r after (λ key. name_within r.0.steps MOST_STEPS key.1 >>= λ n. block_next n.1 >>= λ b. (Ok (step_of n.0 b.0), b.1)) (λ n. block_next n.1 >>= λ b. (Ok (step_of n.0 b.0), b.1)) few (λ u m. refl)
    (λ n. never_then block_next (λ b. (Ok (step_of n b.0), b.1)) block_never (λ b. gives_never (step_of n b)))
    (err_two (word_at Step what.Item r) (λ key. name_within r.0.steps MOST_STEPS key.1 >>= λ n. block_next n.1 >>= λ b. (Ok (step_of n.0 b.0), b.1)) OverLimit after e)

steps_stop : Stops steps_at
steps_stop = some_stop step_grammar what.Step (starts_word Step) (λ k. step_at) (λ k. step_read) step_keeps (λ k. step_stops)

-- ---- sessions

abbrev session_of : NameAt → Option PartTree → List (StepOf NameAt) → Option PartTree → SessionOf NameAt
session_of n setup ss teardown = record { name = n; setup = setup; steps = ss; teardown = teardown }

abbrev session_end : NameAt × Rest → Read (SessionOf NameAt)
session_end n = setup_at n.1 >>= λ setup. steps_at setup.1 >>= λ ss. teardown_at ss.1 >>= λ teardown. (Ok (session_of n.0 setup.0 ss.0 teardown.0), teardown.1)

session_end_stops : (n : NameAt) → Stops (λ r. session_end (n, r))
session_end_stops n = stops_then (Maybe (block_behind Setup)) setup_at (λ setup. steps_at setup.1 >>= λ ss. teardown_at ss.1 >>= λ teardown. (Ok (session_of n setup.0 ss.0 teardown.0), teardown.1)) setup_local setup_keeps (never_stops setup_at setup_never)
    (λ setup. stops_then (some step_grammar) steps_at (λ ss. teardown_at ss.1 >>= λ teardown. (Ok (session_of n setup ss.0 teardown.0), teardown.1)) steps_local steps_keep steps_stop
    (λ ss. never_stops (λ r. teardown_at r >>= λ teardown. (Ok (session_of n setup ss teardown.0), teardown.1)) (never_then teardown_at (λ teardown. (Ok (session_of n setup ss teardown.0), teardown.1)) teardown_never (λ teardown. gives_never (session_of n setup ss teardown)))))

session_name : (r mid after : Rest) (u : Unit {0}) → Few r.0 → word_at Session what.Item r ≡ (Ok u, mid)
    → (name_within r.0.sessions MOST_SESSIONS mid ≡ (Err OverLimit, after)) ⊎ ((n : NameAt) × (m : Rest) × (name_within r.0.sessions MOST_SESSIONS mid ≡ (Ok n, m)) × (session_end (n, m) ≡ (Err OverLimit, after))) → LimitLater r after
session_name r mid after u few word (inl e) =
    let o = name_over r.0.sessions MOST_SESSIONS mid after e in
    let t = word_token Session what.Item r mid u word in
    record { fs = []; mid = r; split = refl; place = refl; few = few; is_named = subst (λ (m : Rest). starts_name m ≡ true) o.2 o.1; here = here_session t.0 (t.1 ∙ ap (λ (m : Rest). t.0 ∷ m.1) o.2) t.2 o.0 }
session_name r mid after u few word (inr (n, m, is, e)) =
    let w = was_front (one (a_word Session)) (word_at Session what.Item) (word_read Session what.Item) r mid u word in
    let v = was_front (one a_name) (name_within r.0.sessions MOST_SESSIONS) (local_read (name_within_local r.0.sessions MOST_SESSIONS)) mid m n is in
    let lt = within_is r.0.sessions MOST_SESSIONS mid m n is in
    let c = session_word r.0 w.0 u w.3 in
    let few1 : Few mid.0 = record { sessions = omega (arith, lt, c.sessions, ap (λ (c : Counts). c.sessions) w.2); steps = omega (arith, few.steps, c.steps, ap (λ (c : Counts). c.steps) w.2) } in
    behind r mid after w.0 w.1 w.2 (behind mid m after v.0 v.1 v.2 (session_end_stops n m after (name_keeps r.0.sessions MOST_SESSIONS mid m n is few1) e))

session_case : (r after : Rest) → Few r.0
    → (word_at Session what.Item r ≡ (Err OverLimit, after)) ⊎ ((u : Unit {0}) × (mid : Rest) × (word_at Session what.Item r ≡ (Ok u, mid)) × ((name_within r.0.sessions MOST_SESSIONS mid >>= session_end) ≡ (Err OverLimit, after))) → LimitLater r after
session_case r after few (inl e) = absurd (word_never Session what.Item r after e)
session_case r after few (inr (u, mid, word, e)) = session_name r mid after u few word (err_two (name_within r.0.sessions MOST_SESSIONS mid) session_end OverLimit after e)

session_stops : Stops session_at
unfolding session_at
session_stops r after few e = session_case r after few (err_two (word_at Session what.Item r) (λ key. name_within r.0.sessions MOST_SESSIONS key.1 >>= session_end) OverLimit after e)

sessions_stop : Stops sessions_at
sessions_stop = some_stop session_grammar what.Session (starts_word Session) (λ k. session_at) (λ k. session_read) session_keeps (λ k. session_stops)

-- ---- permutations

abbrev entry_of : NameAt → Option (List MarkerTree) → NamedEntry
entry_of n ms = record { name = n; markers = unwrap_or ms [] }

entry_case : (k : ℕ) (r after : Rest) → (name_within k MOST_ENTRIES r ≡ (Err OverLimit, after)) ⊎ ((n : NameAt) × (m : Rest) × (name_within k MOST_ENTRIES r ≡ (Ok n, m)) × ((some_markers_at m >>= λ ms. (Ok (entry_of n ms.0), ms.1)) ≡ (Err OverLimit, after))) → NameOver k MOST_ENTRIES r after
entry_case k r after (inl e) = name_over k MOST_ENTRIES r after e
entry_case k r after (inr (n, m, is, e)) = absurd (never_then some_markers_at (λ ms. (Ok (entry_of n ms.0), ms.1)) some_markers_never (λ ms. gives_never (entry_of n ms)) m after e)

entry_over : (k : ℕ) (r after : Rest) → entry_at k r ≡ (Err OverLimit, after) → NameOver k MOST_ENTRIES r after
unfolding entry_at
entry_over k r after e = entry_case k r after (err_two (name_within k MOST_ENTRIES r) (λ n. some_markers_at n.1 >>= λ ms. (Ok (entry_of n.0 ms.0), ms.1)) OverLimit after e)

record EntriesOver (k : ℕ) (r after : Rest) : Type 0 where
  es : List (At SpecToken)
  entries : List NamedEntry
  split : r.1 ≡ es ++ after.1
  many : Many entry r.0 es entries
  count : k + length entries ≡ MOST_ENTRIES
  is_named : starts_name after ≡ true

entries_case : (n k : ℕ) (r after : Rest) → k ≤ MOST_ENTRIES → ((m : Rest) → k + 1 ≤ MOST_ENTRIES → many_at starts_name entry_at (k + 1) n m ≡ (Err OverLimit, after) → EntriesOver (k + 1) m after) → Stopped starts_name entry_at n k r after OverLimit → EntriesOver k r after
entries_case n k r after le later (inl e) =
    let o = entry_over k r after e in
    record { es = []; entries = []; split = ap (λ (m : Rest). m.1) o.2; many = none; count = omega (arith, le, o.0); is_named = subst (λ (m : Rest). starts_name m ≡ true) o.2 o.1 }
entries_case n k r after le later (inr (x, mid, is, e)) =
    let w = was_front entry (entry_at k) (local_read (entry_local k)) r mid x is in
    let lt = entry_before k r mid x is in
    let o = later mid (omega (arith, lt)) e in
    record {
      es = w.0 ++ o.es;
      entries = x ∷ o.entries;
      split = w.1 ∙ ap (λ (us : List (At SpecToken)). w.0 ++ us) o.split ∙ sym (append_assoc w.0 o.es after.1);
      many = more w.0 o.es refl w.3 (subst (λ (c : Counts). Many entry c o.es o.entries) w.2 o.many);
      count = omega (arith, o.count);
      is_named = o.is_named;
    }

entries_over : (n k : ℕ) (r after : Rest) → k ≤ MOST_ENTRIES → many_at starts_name entry_at k n r ≡ (Err OverLimit, after) → EntriesOver k r after
entries_over zero k r after le e = absurd (many_zero starts_name entry_at k OverLimit r after e)
entries_over (suc n) k r after le e = entries_case n k r after le (λ m l h. entries_over n (k + 1) m after l h) (stopped starts_name entry_at n k r after OverLimit e)

record PermsOver (r after : Rest) : Type 0 where
  ps : List (At SpecToken)
  word : At SpecToken
  es : List (At SpecToken)
  perms : List (List NamedEntry)
  entries : List NamedEntry
  split : r.1 ≡ ps ++ word ∷ (es ++ after.1)
  many : Many perm r.0 ps perms
  short : AllByRecursion IsShort perms
  is_keyword : IsWord Permutation word
  among : Many entry (past r.0 (ps ++ word ∷ [])) es entries
  count : length entries ≡ MOST_ENTRIES
  is_named : starts_name after ≡ true

perm_case : (r after : Rest) → (word_at Permutation what.Item r ≡ (Err OverLimit, after)) ⊎ ((u : Unit {0}) × (mid : Rest) × (word_at Permutation what.Item r ≡ (Ok u, mid)) × (some_at what.Name starts_name entry_at mid ≡ (Err OverLimit, after))) → PermsOver r after
unfolding all_at
perm_case r after (inl e) = absurd (word_never Permutation what.Item r after e)
perm_case r after (inr (u, mid, word, e)) =
    let t = word_token Permutation what.Item r mid u word in
    let o = entries_over (length mid.1) 0 mid after (omega arith) (some_all what.Name starts_name entry_at mid after e) in
    record {
      ps = [];
      word = t.0;
      es = o.es;
      perms = [];
      entries = o.entries;
      split = t.1 ∙ ap (λ (us : List (At SpecToken)). t.0 ∷ us) o.split;
      many = none;
      short = tt;
      is_keyword = t.2;
      among = subst (λ (c : Counts). Many entry c o.es o.entries) t.3 o.many;
      count = omega (arith, o.count);
      is_named = o.is_named;
    }

perm_over : (r after : Rest) → perm_at r ≡ (Err OverLimit, after) → PermsOver r after
unfolding perm_at
perm_over r after e = perm_case r after (err_two (word_at Permutation what.Item r) (λ key. some_at what.Name starts_name entry_at key.1) OverLimit after e)

perms_case : (n k : ℕ) (r after : Rest) → ((m : Rest) → many_at (starts_word Permutation) (λ k. perm_at) (k + 1) n m ≡ (Err OverLimit, after) → PermsOver m after) → Stopped (starts_word Permutation) (λ k. perm_at) n k r after OverLimit → PermsOver r after
perms_case n k r after later (inl e) = perm_over r after e
perms_case n k r after later (inr (x, mid, is, e)) =
    let w = was_front perm perm_at perm_read r mid x is in
    let o = later mid e in
    record {
      ps = w.0 ++ o.ps;
      word = o.word;
      es = o.es;
      perms = x ∷ o.perms;
      entries = o.entries;
      split = w.1 ∙ ap (λ (us : List (At SpecToken)). w.0 ++ us) o.split ∙ sym (append_assoc w.0 o.ps (o.word ∷ (o.es ++ after.1)));
      many = more w.0 o.ps refl w.3 (subst (λ (c : Counts). Many perm c o.ps o.perms) w.2 o.many);
      short = (perm_short r mid x is, o.short);
      is_keyword = o.is_keyword;
      among = subst (λ (c : Counts). Many entry c o.es o.entries) (ap (λ (c : Counts). past c (o.ps ++ o.word ∷ [])) w.2 ∙ sym (past_twice r.0 w.0 (o.ps ++ o.word ∷ [])) ∙ ap (past r.0) (sym (append_assoc w.0 o.ps (o.word ∷ [])))) o.among;
      count = o.count;
      is_named = o.is_named;
    }

perms_over : (n k : ℕ) (r after : Rest) → many_at (starts_word Permutation) (λ k. perm_at) k n r ≡ (Err OverLimit, after) → PermsOver r after
perms_over zero k r after e = absurd (many_zero (starts_word Permutation) (λ k. perm_at) k OverLimit r after e)
perms_over (suc n) k r after e = perms_case n k r after (λ m h. perms_over n (k + 1) m after h) (stopped (starts_word Permutation) (λ k. perm_at) n k r after OverLimit e)

perms_stop : Stops perms_at
unfolding all_at
perms_stop r after few e =
    let o = perms_over (length r.1) 0 r after e in
    record { fs = []; mid = r; split = refl; place = refl; few = few; is_named = o.is_named; here = here_entry o.ps o.word o.es o.perms o.entries o.split o.many o.short o.is_keyword o.among o.count }

-- ---- the file

abbrev file_of : List PartTree → Option PartTree → List (SessionOf NameAt) → List (List NamedEntry) → FileTree
file_of setups teardown ss perms = record { setups = setups; teardown = teardown; sessions = ss; perms = perms }

file_stops : Stops file_at
unfolding file_at
file_stops = stops_then (Many (block_behind Setup)) setups_at (λ setups. teardown_at setups.1 >>= λ teardown. sessions_at teardown.1 >>= λ ss. perms_at ss.1 >>= λ perms. end_at perms.1 >>= λ ended. (Ok (file_of setups.0 teardown.0 ss.0 perms.0), ended.1)) setups_local setups_keep (never_stops setups_at setups_never)
    (λ setups. stops_then (Maybe (block_behind Teardown)) teardown_at (λ teardown. sessions_at teardown.1 >>= λ ss. perms_at ss.1 >>= λ perms. end_at perms.1 >>= λ ended. (Ok (file_of setups teardown.0 ss.0 perms.0), ended.1)) teardown_local teardown_keeps (never_stops teardown_at teardown_never)
    (λ teardown. stops_then (some session_grammar) sessions_at (λ ss. perms_at ss.1 >>= λ perms. end_at perms.1 >>= λ ended. (Ok (file_of setups teardown ss.0 perms.0), ended.1)) sessions_local sessions_keep sessions_stop
    (λ ss. stops_then (Many perm) perms_at (λ perms. end_at perms.1 >>= λ ended. (Ok (file_of setups teardown ss perms.0), ended.1)) perms_local perms_keep perms_stop
    (λ perms. never_stops (λ r. end_at r >>= λ ended. (Ok (file_of setups teardown ss perms), ended.1)) (never_then end_at (λ ended. (Ok (file_of setups teardown ss perms), ended.1)) end_never (λ u. gives_never (file_of setups teardown ss perms)))))))

begins_named : (ts : List (At SpecToken)) → first_is is_name ts ≡ true → (t : At SpecToken) × (back : List (At SpecToken)) × (ts ≡ t ∷ back) × (is_name t.tok ≡ true)
begins_named [] e = absurd cc
begins_named (t ∷ ts) e = (t, ts, refl, e)

stop_at : (ts front : List (At SpecToken)) (rest : List (At SpecToken)) → ts ≡ front ++ rest → first_is is_name rest ≡ true → IsOverAt front → LimitStop ts rest
stop_at ts front rest split named over = let b = begins_named rest named in record { front = front; name = b.0; back = b.1; rest_is = b.2; split = split; is_name = b.3; over = over }

limit_case : (ts : List (At SpecToken)) (rest : Rest) (o : LimitLater (start, ts) rest) → LimitHere o.mid rest → LimitStop ts rest.1
limit_case ts rest o (here_session t e word le) =
    let many = ap (λ (c : Counts). c.sessions) o.place in
    let steps = ap (λ (c : Counts). c.steps) o.place in
    stop_at ts (o.fs ++ t ∷ []) rest.1 (o.split ∙ ap (λ (us : List (At SpecToken)). o.fs ++ us) e ∙ sym (append_assoc o.fs (t ∷ []) rest.1)) o.is_named
    (at_session o.fs t refl word (omega (arith, many, le, o.few.sessions)) (omega (arith, steps, o.few.steps)))
limit_case ts rest o (here_step t e word le) =
    let many = ap (λ (c : Counts). c.sessions) o.place in
    let steps = ap (λ (c : Counts). c.steps) o.place in
    stop_at ts (o.fs ++ t ∷ []) rest.1 (o.split ∙ ap (λ (us : List (At SpecToken)). o.fs ++ us) e ∙ sym (append_assoc o.fs (t ∷ []) rest.1)) o.is_named
    (at_step o.fs t refl word (omega (arith, many, o.few.sessions)) (omega (arith, steps, le, o.few.steps)))
limit_case ts rest o (here_entry ps t es perms entries e many short word among count) =
    let sessions = ap (λ (c : Counts). c.sessions) o.place in
    let steps = ap (λ (c : Counts). c.steps) o.place in
    let inner : ps ++ t ∷ (es ++ rest.1) ≡ (ps ++ t ∷ es) ++ rest.1 = sym (append_assoc ps (t ∷ es) rest.1) in
    stop_at ts (o.fs ++ (ps ++ t ∷ es)) rest.1 (o.split ∙ ap (λ (us : List (At SpecToken)). o.fs ++ us) (e ∙ inner) ∙ sym (append_assoc o.fs (ps ++ t ∷ es) rest.1)) o.is_named
    (at_entry o.fs ps t es perms entries refl (omega (arith, sessions, o.few.sessions)) (omega (arith, steps, o.few.steps)) (subst (λ (c : Counts). Many perm c ps perms) o.place many) (all_from IsShort perms short) word
    (subst (λ (c : Counts). Many entry c es entries) (ap (λ (c : Counts). past c (ps ++ t ∷ [])) o.place ∙ sym (past_twice start o.fs (ps ++ t ∷ []))) among) count)

pub limit_stop : (ts : List (At SpecToken)) (rest : Rest) → file_at (start, ts) ≡ (Err OverLimit, rest) → LimitStop ts rest.1
limit_stop ts rest e =
    let o = file_stops (start, ts) rest (record { sessions = omega arith; steps = omega arith }) e in
    limit_case ts rest o o.here

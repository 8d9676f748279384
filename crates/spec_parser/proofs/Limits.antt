-- What is read is within the limits, and what is within them is read.
use Rattle.std.proofs.Common.{◌≡◌, ◌≤◌, ◌<◌, ◌+◌, ◌⊎◌, inl, inr, arith, length, ℕ, zero, suc, Bool, true, false, cond, List, [], ◌∷◌, Option, Result, Ok, Err, refl, sym, ap, subst, ◌∙◌}
use Rattle.std.specs.Prelude.{All, nat_lt, option_to_list}
use Rattle.std.specs.List.{AllByRecursion}
use Rattle.std.proofs.lemmas.Bool.{ltb-true}
use Rattle.iso_lexer.specs.declared.limits.TheConstants.{MOST_ENTRIES, MOST_SESSIONS, MOST_STEPS}
use Rattle.iso_lexer.specs.declared.token.At.{At}
use Rattle.iso_lexer.specs.declared.spec_token.Keyword.TheVariants.{Permutation, Session, Setup, Step, Teardown}
use Rattle.iso_lexer.specs.SpecTokens.{SpecToken}
use Rattle.spec_parser.specs.declared.fault.What.{What}
use Rattle.spec_parser.specs.declared.fault.What.TheVariants as what
use Rattle.spec_parser.specs.declared.fault.Stop.{Stop}
use Rattle.spec_parser.specs.declared.fault.Stop.TheVariants.{Expected, OverLimit}
use Rattle.spec_parser.specs.Trees.{PartTree, NameAt, StepOf, SessionOf, NamedEntry, FileTree}
use Rattle.spec_parser.specs.Counts.{Counts, start, past}
use Rattle.spec_parser.specs.Inner.Stopping.{Rest, Read, many_at, all_at, some_at, name_next, end_at, name_within, step_at, session_at, entry_at, perm_at, file_at}
use Rattle.spec_parser.specs.Grammar.{a_name, Grammar, one, a_word, Maybe, Many, block_behind, perm, file}
use Rattle.spec_parser.specs.Inner.Pieces.{starts_word, starts_name, word_at, setup_at, teardown_at, setups_at, steps_at, sessions_at, perms_at}
use Rattle.spec_parser.specs.Grammar.{step as step_grammar}
use Rattle.spec_parser.specs.IsSpec.{IsShort, WithinLimits}
use Rattle.spec_parser.proofs.Local.{◌>>=◌, AreLocal, LocalRead, local_read, Means, is_read, no_value, in_two, stops_at, goes, goes_on}
use Rattle.spec_parser.proofs.Tokens.{name_past}
use Rattle.spec_parser.proofs.Productions.{word_read, name_within_local, step_read, setup_local, teardown_local, setups_local, perms_local}
use Rattle.spec_parser.proofs.Complete.{Again, whole, over, IsOver, many_sessions, many_steps, long, SomeLong, LongFile}
use Rattle.spec_parser.proofs.ContentsAreCounted.{Holds, only_parts, session_word, step_has, setups_have, maybe_has, setup_has, teardown_has, perms_quiet, file_has}
use Rattle.spec_parser.proofs.WholeLaws.{read_or_over, reads_are_files}

-- ---- lists

pub all_from : {A : Type 0} (P : A → Type 0) (xs : List A) → AllByRecursion P xs → All P xs
all_from P [] h k d lt = absurd (omega arith)
all_from P (x ∷ xs) (p, h) zero d lt = p
all_from P (x ∷ xs) (p, h) (suc k) d lt = all_from P xs h k d (omega arith)

pub all_to : {A : Type 0} (P : A → Type 0) (xs : List A) → All P xs → AllByRecursion P xs
all_to P [] h = tt
all_to P (x ∷ xs) h = (h 0 x (omega arith), all_to P xs (λ k d lt. h (suc k) d (omega arith)))

-- ---- the parts of what was read

pub value_is : {A : Type 0} (x y : A) → ◌≡◌ {A = Result A Stop} (Ok x) (Ok y) → x ≡ y
value_is x y e = cc

pub ok_means : {A : Type 0} (G : Grammar A) (out : Result A Stop) (c : Counts) (front : List (At SpecToken)) (x : A) → out ≡ Ok x → Means G out c front → G c front x
ok_means G (Ok y) c front x e m = subst (G c front) (value_is y x e) m
ok_means G (Err s) c front x e m = absurd (no_value s x e)

-- the tokens that were read are in the grammar
pub was_in : {A : Type 0} (G : Grammar A) (p : Rest → Read A) → LocalRead G p → (r after : Rest) (x : A) → p r ≡ (Ok x, after) → (front : List (At SpecToken)) × (after.0 ≡ past r.0 front) × G r.0 front x
was_in {A} G p local r after x e =
    let l = local r after x e in
    let same = sym (is_read G p r.0 r.1 l) ∙ e in
    (l.front, sym (ap (λ (q : Read A). q.1.0) same), ok_means G l.out r.0 l.front x (ap (λ (q : Read A). q.0) same) l.means)

-- ---- sessions and steps

-- no more than the limits
pub record Few (c : Counts) : Type 0 where
  pub sessions : c.sessions ≤ MOST_SESSIONS
  pub steps : c.steps ≤ MOST_STEPS

abbrev pub Keeps : {A : Type 0} → (Rest → Read A) → Type 0
Keeps {A} p = (r after : Rest) (x : A) → p r ≡ (Ok x, after) → Few r.0 → Few after.0

keeps_then : {A B : Type 0} (p : Rest → Read A) (f : A × Rest → Read B) → Keeps p → ((x : A) → Keeps (λ r. f (x, r))) → Keeps (λ r. p r >>= f)
keeps_then p f first next r after z e few = let t = in_two (p r) f z after e in next t.0 t.1 after z t.3 (first r t.1 t.0 t.2 few)

-- a piece that counts neither
quiet_keeps : {A : Type 0} (G : Grammar A) (p : Rest → Read A) → AreLocal G p → ((c : Counts) (ts : List (At SpecToken)) (x : A) → G c ts x → ((past c ts).sessions ≡ c.sessions) × ((past c ts).steps ≡ c.steps)) → Keeps p
quiet_keeps G p local quiet r after x e few =
    let w = was_in G p (local_read local) r after x e in
    let same = quiet r.0 w.0 x w.2 in
    let k = ap (λ (c : Counts). c.sessions) w.1 in
    let j = ap (λ (c : Counts). c.steps) w.1 in
    record { sessions = omega (arith, k, same.0, few.sessions); steps = omega (arith, j, same.1, few.steps) }

parts_count : (c d : Counts) (ts : List (At SpecToken)) (ps : List PartTree) → Holds c d ts (only_parts ps) → (d.sessions ≡ c.sessions) × (d.steps ≡ c.steps)
parts_count c d ts ps m = (omega (arith, m.sessions), omega (arith, m.steps))

pub setups_keep : Keeps setups_at
setups_keep = quiet_keeps (Many (block_behind Setup)) setups_at setups_local (λ c ts ps h. parts_count c (past c ts) ts ps (setups_have c ts ps h))

pub setup_keeps : Keeps setup_at
setup_keeps = quiet_keeps (Maybe (block_behind Setup)) setup_at setup_local (λ c ts o h. parts_count c (past c ts) ts (option_to_list o) (maybe_has (block_behind Setup) setup_has c ts o h))

pub teardown_keeps : Keeps teardown_at
teardown_keeps = quiet_keeps (Maybe (block_behind Teardown)) teardown_at teardown_local (λ c ts o h. parts_count c (past c ts) ts (option_to_list o) (maybe_has (block_behind Teardown) teardown_has c ts o h))

within_by : (b d : Bool) (before most : ℕ) (r after : Rest) (n : NameAt) → nat_lt before most ≡ b → cond b (name_next what.Name r) (cond d (Err OverLimit, r) (Err (Expected what.Name), r)) ≡ (Ok n, after) → before < most
within_by true d before most r after n lt e = ltb-true before most lt
within_by false true before most r after n lt e = absurd (no_value OverLimit n (ap (λ (q : Read NameAt). q.0) e))
within_by false false before most r after n lt e = absurd (no_value (Expected what.Name) n (ap (λ (q : Read NameAt). q.0) e))

pub within_is : (before most : ℕ) (r after : Rest) (n : NameAt) → name_within before most r ≡ (Ok n, after) → before < most
unfolding name_within
within_is before most r after n e = within_by (nat_lt before most) (starts_name r) before most r after n refl e

word_keeps_steps : (c d : Counts) (ts : List (At SpecToken)) (u : Unit {0}) → one (a_word Session) c ts u → d ≡ past c ts → d.steps ≡ c.steps
word_keeps_steps c d ts u h e = omega (arith, ap (λ (d : Counts). d.steps) e, (session_word c ts u h).steps)

-- one more than before, where there were fewer
step_before : (r after : Rest) (s : StepOf NameAt) → step_at r ≡ (Ok s, after) → r.0.steps < MOST_STEPS
unfolding step_at
step_before r after s e =
    let key = in_two (word_at Step what.Item r) _ s after e in
    let n = in_two (name_within r.0.steps MOST_STEPS key.1) _ s after key.3 in
    within_is r.0.steps MOST_STEPS key.1 n.1 n.0 n.2

pub step_keeps : (k : ℕ) → Keeps step_at
step_keeps k r after s e few =
    let w = was_in step_grammar step_at step_read r after s e in
    let m = step_has r.0 w.0 s w.2 in
    let lt = step_before r after s e in
    record { sessions = omega (arith, ap (λ (c : Counts). c.sessions) w.1, m.sessions, few.sessions); steps = omega (arith, ap (λ (c : Counts). c.steps) w.1, m.steps, lt) }

-- ---- many

none_at : {A : Type 0} (starts : Rest → Bool) (item : ℕ → Rest → Read A) (k : ℕ) (r after : Rest) (xs : List A) → many_at starts item k zero r ≡ (Ok xs, after) → (xs ≡ []) × (r ≡ after)
unfolding many_at
none_at {A} starts item k r after xs e = (sym (value_is [] xs (ap (λ (q : Read (List A)). q.0) e)), ap (λ (q : Read (List A)). q.1) e)

-- none, or one and then the others
abbrev pub Steps : {A : Type 0} → (Rest → Bool) → (ℕ → Rest → Read A) → ℕ → ℕ → Rest → Rest → List A → Type 0
Steps {A} starts item n k r after xs = ((xs ≡ []) × (r ≡ after)) ⊎ ((x : A) × (others : List A) × (mid : Rest) × (xs ≡ x ∷ others) × (item k r ≡ (Ok x, mid)) × (many_at starts item (k + 1) n mid ≡ (Ok others, after)))

by_start : {A : Type 0} (starts : Rest → Bool) (item : ℕ → Rest → Read A) (n k : ℕ) (b : Bool) (r after : Rest) (xs : List A) → starts r ≡ b → many_at starts item k (suc n) r ≡ (Ok xs, after) → Steps starts item n k r after xs
by_start {A} starts item n k false r after xs s e =
    let now = sym (stops_at starts item k (suc n) r.0 r.1 s) ∙ e in
    inl (sym (value_is [] xs (ap (λ (q : Read (List A)). q.0) now)), ap (λ (q : Read (List A)). q.1) now)
by_start {A} starts item n k true r after xs s e =
    let now = sym (goes_on starts item k n r.0 r.1 s) ∙ e in
    let one = in_two (item k r) (goes starts item k n) xs after now in
    let rest = in_two (many_at starts item (k + 1) n one.1) (λ others. (Ok (one.0 ∷ others.0), others.1)) xs after one.3 in
    inr (one.0, rest.0, one.1, sym (value_is (one.0 ∷ rest.0) xs (ap (λ (q : Read (List A)). q.0) rest.3)), one.2, rest.2 ∙ (λ i. (Ok rest.0, (rest.3 i).1)))

steps : {A : Type 0} (starts : Rest → Bool) (item : ℕ → Rest → Read A) (n k : ℕ) (r after : Rest) (xs : List A) → many_at starts item k (suc n) r ≡ (Ok xs, after) → Steps starts item n k r after xs
steps starts item n k r after xs e = by_start starts item n k (starts r) r after xs refl e

keeps_case : {A : Type 0} (starts : Rest → Bool) (item : ℕ → Rest → Read A) → ((k : ℕ) → Keeps (item k)) → (n k : ℕ) (r after : Rest) (xs : List A) → ((j : ℕ) (m : Rest) (ys : List A) → many_at starts item j n m ≡ (Ok ys, after) → Few m.0 → Few after.0) → Few r.0 → Steps starts item n k r after xs → Few after.0
keeps_case starts item keeps n k r after xs later few (inl (_, e)) = subst (λ (d : Rest). Few d.0) e few
keeps_case starts item keeps n k r after xs later few (inr (x, others, mid, is, one, rest)) = later (k + 1) mid others rest (keeps k r mid x one few)

many_keep : {A : Type 0} (starts : Rest → Bool) (item : ℕ → Rest → Read A) → ((k : ℕ) → Keeps (item k)) → (n k : ℕ) (r after : Rest) (xs : List A) → many_at starts item k n r ≡ (Ok xs, after) → Few r.0 → Few after.0
many_keep starts item keeps zero k r after xs e few = subst (λ (d : Rest). Few d.0) (none_at starts item k r after xs e).1 few
many_keep starts item keeps (suc n) k r after xs e few = keeps_case starts item keeps n k r after xs (λ j m ys h f. many_keep starts item keeps n j m after ys h f) few (steps starts item n k r after xs e)

some_by : {A : Type 0} (w : What) (read : Read (List A)) (b : Bool) (r after : Rest) (xs : List A) → cond b read (Err (Expected w), r) ≡ (Ok xs, after) → read ≡ (Ok xs, after)
some_by w read true r after xs e = e
some_by {A} w read false r after xs e = absurd (no_value (Expected w) xs (ap (λ (q : Read (List A)). q.0) e))

some_ok : {A : Type 0} (w : What) (starts : Rest → Bool) (item : ℕ → Rest → Read A) (r after : Rest) (xs : List A) → some_at w starts item r ≡ (Ok xs, after) → all_at starts item r ≡ (Ok xs, after)
unfolding some_at
some_ok w starts item r after xs e = some_by w (all_at starts item r) (starts r) r after xs e

some_keep : {A : Type 0} (w : What) (starts : Rest → Bool) (item : ℕ → Rest → Read A) → ((k : ℕ) → Keeps (item k)) → Keeps (some_at w starts item)
unfolding all_at
some_keep w starts item keeps r after xs e few = many_keep starts item keeps (length r.1) 0 r after xs (some_ok w starts item r after xs e) few

-- ---- sessions

gives_keep : {A : Type 0} (v : A) → Keeps (λ r. (Ok v, r))
gives_keep {A} v r after x e few = subst (λ (d : Rest). Few d.0) (ap (λ (q : Read A). q.1) e) few

pub steps_keep : Keeps steps_at
steps_keep = some_keep what.Step (starts_word Step) (λ k. step_at) step_keeps

abbrev session_of : NameAt → Option PartTree → List (StepOf NameAt) → Option PartTree → SessionOf NameAt
session_of n setup ss teardown = record { name = n; setup = setup; steps = ss; teardown = teardown }

session_end_keeps : (n : NameAt) → Keeps (λ r. setup_at r >>= λ setup. steps_at setup.1 >>= λ ss. teardown_at ss.1 >>= λ teardown. (Ok (session_of n setup.0 ss.0 teardown.0), teardown.1))
session_end_keeps n = keeps_then setup_at (λ setup. steps_at setup.1 >>= λ ss. teardown_at ss.1 >>= λ teardown. (Ok (session_of n setup.0 ss.0 teardown.0), teardown.1)) setup_keeps
    (λ setup. keeps_then steps_at (λ ss. teardown_at ss.1 >>= λ teardown. (Ok (session_of n setup ss.0 teardown.0), teardown.1)) steps_keep
    (λ ss. keeps_then teardown_at (λ teardown. (Ok (session_of n setup ss teardown.0), teardown.1)) teardown_keeps (λ teardown. gives_keep (session_of n setup ss teardown))))

pub name_keeps : (before most : ℕ) → Keeps (name_within before most)
name_keeps before most = quiet_keeps (one a_name) (name_within before most) (name_within_local before most) (λ c ts n h. (ap (λ (d : Counts). d.sessions) (name_past c ts n h), ap (λ (d : Counts). d.steps) (name_past c ts n h)))

pub session_keeps : (k : ℕ) → Keeps session_at
unfolding session_at
session_keeps k r after s e few =
    let key = in_two (word_at Session what.Item r) _ s after e in
    let n = in_two (name_within r.0.sessions MOST_SESSIONS key.1) _ s after key.3 in
    let lt = within_is r.0.sessions MOST_SESSIONS key.1 n.1 n.0 n.2 in
    let w = was_in (one (a_word Session)) (word_at Session what.Item) (word_read Session what.Item) r key.1 key.0 key.2 in
    let m = session_word r.0 w.0 key.0 w.2 in
    let few1 : Few key.1.0 = record { sessions = omega (arith, lt, m.sessions, ap (λ (c : Counts). c.sessions) w.1); steps = omega (arith, few.steps, m.steps, ap (λ (c : Counts). c.steps) w.1) } in
    session_end_keeps n.0 n.1 after s n.3 (name_keeps r.0.sessions MOST_SESSIONS key.1 n.1 n.0 n.2 few1)

pub sessions_keep : Keeps sessions_at
sessions_keep = some_keep what.Session (starts_word Session) (λ k. session_at) session_keeps

-- ---- permutations

pub entry_before : (k : ℕ) (r after : Rest) (e : NamedEntry) → entry_at k r ≡ (Ok e, after) → k < MOST_ENTRIES
unfolding entry_at
entry_before k r after x e = let n = in_two (name_within k MOST_ENTRIES r) _ x after e in within_is k MOST_ENTRIES r n.1 n.0 n.2

entries_case : (n k : ℕ) (r after : Rest) (es : List NamedEntry) → ((m : Rest) (ys : List NamedEntry) → many_at starts_name entry_at (k + 1) n m ≡ (Ok ys, after) → k + 1 ≤ MOST_ENTRIES → (k + 1) + length ys ≤ MOST_ENTRIES) → k ≤ MOST_ENTRIES → Steps starts_name entry_at n k r after es → k + length es ≤ MOST_ENTRIES
entries_case n k r after es later le (inl (is, _)) = omega (arith, le, ap (λ (l : List NamedEntry). length l) is)
entries_case n k r after es later le (inr (x, others, mid, is, one, rest)) =
    let lt = entry_before k r mid x one in
    omega (arith, later mid others rest (omega (arith, lt)), ap (λ (l : List NamedEntry). length l) is)

entries_few : (n k : ℕ) (r after : Rest) (es : List NamedEntry) → many_at starts_name entry_at k n r ≡ (Ok es, after) → k ≤ MOST_ENTRIES → k + length es ≤ MOST_ENTRIES
entries_few zero k r after es e le = omega (arith, le, ap (λ (l : List NamedEntry). length l) (none_at starts_name entry_at k r after es e).0)
entries_few (suc n) k r after es e le = entries_case n k r after es (λ m ys h f. entries_few n (k + 1) m after ys h f) le (steps starts_name entry_at n k r after es e)

pub perm_short : (r after : Rest) (es : List NamedEntry) → perm_at r ≡ (Ok es, after) → IsShort es
unfolding perm_at all_at
perm_short r after es e =
    let key = in_two (word_at Permutation what.Item r) _ es after e in
    omega (arith, entries_few (length key.1.1) 0 key.1 after es (some_ok what.Name starts_name entry_at key.1 after es key.3) (omega arith))

perms_case : (n k : ℕ) (r after : Rest) (ps : List (List NamedEntry)) → ((j : ℕ) (m : Rest) (qs : List (List NamedEntry)) → many_at (starts_word Permutation) (λ k. perm_at) j n m ≡ (Ok qs, after) → AllByRecursion IsShort qs) → Steps (starts_word Permutation) (λ k. perm_at) n k r after ps → AllByRecursion IsShort ps
perms_case n k r after ps later (inl (is, _)) = rw is tt
perms_case n k r after ps later (inr (x, others, mid, is, one, rest)) = rw is (perm_short r mid x one, later (k + 1) mid others rest)

perms_short : (n k : ℕ) (r after : Rest) (ps : List (List NamedEntry)) → many_at (starts_word Permutation) (λ k. perm_at) k n r ≡ (Ok ps, after) → AllByRecursion IsShort ps
perms_short zero k r after ps e = rw ((none_at (starts_word Permutation) (λ k. perm_at) k r after ps e).0) tt
perms_short (suc n) k r after ps e = perms_case n k r after ps (λ j m qs h. perms_short n j m after qs h) (steps (starts_word Permutation) (λ k. perm_at) n k r after ps e)

pub perms_keep : Keeps perms_at
perms_keep = quiet_keeps (Many perm) perms_at perms_local (λ c ts ps h. (ap (λ (d : Counts). d.sessions) (perms_quiet c ts ps h), ap (λ (d : Counts). d.steps) (perms_quiet c ts ps h)))

-- ---- the file

end_by : (c : Counts) (ts : List (At SpecToken)) (u : Unit {0}) (after : Rest) → end_at (c, ts) ≡ (Ok u, after) → (c, ts) ≡ after
unfolding end_at
end_by c [] u after e = ap (λ (q : Read (Unit {0})). q.1) e
end_by c (t ∷ ts) u after e = absurd (no_value (Expected what.Item) u (ap (λ (q : Read (Unit {0})). q.0) e))

end_keeps : Keeps end_at
unfolding end_at
end_keeps r after u e few = subst (λ (d : Rest). Few d.0) (end_by r.0 r.1 u after e) few

abbrev file_of : List PartTree → Option PartTree → List (SessionOf NameAt) → List (List NamedEntry) → FileTree
file_of setups teardown ss perms = record { setups = setups; teardown = teardown; sessions = ss; perms = perms }

file_keeps : Keeps file_at
unfolding file_at
file_keeps = keeps_then setups_at (λ setups. teardown_at setups.1 >>= λ teardown. sessions_at teardown.1 >>= λ ss. perms_at ss.1 >>= λ perms. end_at perms.1 >>= λ ended. (Ok (file_of setups.0 teardown.0 ss.0 perms.0), ended.1)) setups_keep
    (λ setups. keeps_then teardown_at (λ teardown. sessions_at teardown.1 >>= λ ss. perms_at ss.1 >>= λ perms. end_at perms.1 >>= λ ended. (Ok (file_of setups teardown.0 ss.0 perms.0), ended.1)) teardown_keeps
    (λ teardown. keeps_then sessions_at (λ ss. perms_at ss.1 >>= λ perms. end_at perms.1 >>= λ ended. (Ok (file_of setups teardown ss.0 perms.0), ended.1)) sessions_keep
    (λ ss. keeps_then perms_at (λ perms. end_at perms.1 >>= λ ended. (Ok (file_of setups teardown ss perms.0), ended.1)) perms_keep
    (λ perms. keeps_then end_at (λ ended. (Ok (file_of setups teardown ss perms), ended.1)) end_keeps (λ u. gives_keep (file_of setups teardown ss perms))))))

file_short : (r after : Rest) (f : FileTree) → file_at r ≡ (Ok f, after) → AllByRecursion IsShort f.perms
unfolding file_at all_at
file_short r after f e =
    let setups = in_two (setups_at r) _ f after e in
    let teardown = in_two (teardown_at setups.1) _ f after setups.3 in
    let ss = in_two (sessions_at teardown.1) _ f after teardown.3 in
    let perms = in_two (perms_at ss.1) _ f after ss.3 in
    let ended = in_two (end_at perms.1) _ f after perms.3 in
    let is : file_of setups.0 teardown.0 ss.0 perms.0 ≡ f = value_is (file_of setups.0 teardown.0 ss.0 perms.0) f (ap (λ (q : Read FileTree). q.0) ended.3) in
    subst (λ (g : FileTree). AllByRecursion IsShort g.perms) is (perms_short (length ss.1.1) 0 ss.1 perms.1 perms.0 perms.2)

-- what is read whole is within the limits
pub within : (ts : List (At SpecToken)) (f : FileTree) (after : Rest) → after.0 ≡ past start ts → file_at (start, ts) ≡ (Ok f, after) → WithinLimits f
within ts f after place e =
    let few = file_keeps (start, ts) after f e (record { sessions = omega arith; steps = omega arith }) in
    let m = file_has start ts f (reads_are_files ts f after e) in
    record {
      sessions = omega (arith, few.sessions, m.sessions, ap (λ (c : Counts). c.sessions) place);
      steps = omega (arith, few.steps, m.steps, ap (λ (c : Counts). c.steps) place);
      entries = all_from IsShort f.perms (file_short (start, ts) after f e);
    }

not_long : (ps : List (List NamedEntry)) → AllByRecursion IsShort ps → SomeLong ps → ⊥
not_long [] h long_one = long_one
not_long (es ∷ ps) (short, h) (inl lt) = omega (arith, short, lt)
not_long (es ∷ ps) (short, h) (inr later) = not_long ps h later

pub not_over : (ts : List (At SpecToken)) (f : FileTree) → file start ts f → WithinLimits f → IsOver LongFile (past start ts) f → ⊥
not_over ts f g limits (many_sessions lt) = let m = file_has start ts f g in omega (arith, lt, limits.sessions, m.sessions)
not_over ts f g limits (many_steps lt) = let m = file_has start ts f g in omega (arith, lt, limits.steps, m.steps)
not_over ts f g limits (long h) = not_long f.perms (all_to IsShort f.perms limits.entries) h

read_case : (ts : List (At SpecToken)) (f : FileTree) → file start ts f → WithinLimits f → Again LongFile f (past start ts, []) (file_at (start, ts)) → file_at (start, ts) ≡ (Ok f, (past start ts, []))
read_case ts f g limits (whole e) = e
read_case ts f g limits (over e o) = absurd (not_over ts f g limits o)

-- a file of the grammar within the limits is read whole
pub is_read_whole : (ts : List (At SpecToken)) (f : FileTree) → file start ts f → WithinLimits f → file_at (start, ts) ≡ (Ok f, (past start ts, []))
is_read_whole ts f g limits = read_case ts f g limits (read_or_over ts f g)

over_case : (ts : List (At SpecToken)) (f : FileTree) (s : Stop) (rest : Rest) → file start ts f → file_at (start, ts) ≡ (Err s, rest) → Again LongFile f (past start ts, []) (file_at (start, ts)) → WithinLimits f → ⊥
over_case ts f s rest g e (whole d) limits = no_value s f (sym (ap (λ (q : Read FileTree). q.0) e) ∙ ap (λ (q : Read FileTree). q.0) d)
over_case ts f s rest g e (over d o) limits = not_over ts f g limits o

-- a file of the grammar that isn't read is over a limit
pub is_over_limits : (ts : List (At SpecToken)) (f : FileTree) (s : Stop) (rest : Rest) → file start ts f → file_at (start, ts) ≡ (Err s, rest) → WithinLimits f → ⊥
is_over_limits ts f s rest g e = over_case ts f s rest g e (read_or_over ts f g)

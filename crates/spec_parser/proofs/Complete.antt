-- What is in the grammar is read, unless something is over a limit.
use Rattle.std.proofs.Common.{◌≡◌, ◌≤◌, ◌<◌, ◌⊎◌, inl, inr, ◌+◌, arith, length, ℕ, zero, suc, Bool, true, false, cond, List, [], ◌∷◌, ◌++◌, Option, Some, Ok, Err, refl, sym, ap, subst, ◌∙◌, append_assoc, length-append}
use Rattle.std.specs.Prelude.{unwrap_or, nat_lt}
use Rattle.std.proofs.lemmas.Bool.{ltb-false}
use Rattle.iso_lexer.specs.declared.limits.TheConstants.{MOST_ENTRIES, MOST_SESSIONS, MOST_STEPS}
use Rattle.iso_lexer.specs.declared.token.At.{At}
use Rattle.iso_lexer.specs.declared.spec_token.Keyword.{Keyword}
use Rattle.iso_lexer.specs.declared.spec_token.Keyword.TheVariants.{Permutation, Session, Setup, Step, Teardown, Notices}
use Rattle.iso_lexer.specs.declared.spec_token.Sign.{Sign}
use Rattle.iso_lexer.specs.declared.spec_token.Sign.TheVariants.{Open, Close, Comma, Star}
use Rattle.iso_lexer.specs.Names.{Written}
use Rattle.iso_lexer.specs.SpecTokens.{SpecToken, keyword, name, sign}
use Rattle.spec_parser.specs.declared.fault.What.{What}
use Rattle.spec_parser.specs.declared.fault.What.TheVariants as what
use Rattle.spec_parser.specs.declared.fault.Stop.TheVariants.{Expected, OverLimit}
use Rattle.spec_parser.specs.Trees.{PartTree, NameAt, StepOf, SessionOf, MarkerTree, star, named, NamedEntry, FileTree}
use Rattle.spec_parser.specs.Counts.{Counts, past, past_token}
use Rattle.spec_parser.specs.Inner.Stopping.{Rest, Read, token_at, next_token, many_at, all_at, some_at, maybe_at, name_next, block_next, end_at, name_within, block_after, maybe_block, step_at, session_at, no_notices, marker_at, markers_at, entry_at, perm_at, file_at}
use Rattle.spec_parser.specs.Grammar.{a_name, a_block, is_keyword, is_mark, is_name, Grammar, gives, one, a_word, a_sign, Maybe, left_out, given, Many, none, more, some, first, second, block_behind, step, session, marker, markers, entry, perm, file}
use Rattle.spec_parser.specs.Inner.Pieces.{starts_name, word_at, sign_at, setup_at, teardown_at, setups_at, steps_at, sessions_at, next_marker_at, next_markers_at, some_markers_at, entries_at, perms_at}
use Rattle.spec_parser.specs.Grammar.{◌>>=◌ as ◌▸◌}
use Rattle.spec_parser.proofs.Tokens.{test_true, keyword_in, sign_in, named_in, word_past, grows}
use Rattle.spec_parser.proofs.Local.{first_is, ◌>>=◌, past_twice, stops_at, goes_on, goes, TakesOne, first_takes}

-- what is over a limit: the sessions or steps up to a place, or what was read
pub data IsOver {A : Type 0} (Long : A → Type 0) (d : Counts) (x : A) : Type 0 where
  many_sessions : MOST_SESSIONS < d.sessions → IsOver Long d x
  many_steps : MOST_STEPS < d.steps → IsOver Long d x
  long : Long x → IsOver Long d x

pub data Again {A : Type 0} (Long : A → Type 0) (x : A) (after : Rest) (read : Read A) : Type 0 where
  whole : read ≡ (Ok x, after) → Again Long x after read
  over : read.0 ≡ Err OverLimit → IsOver Long after.0 x → Again Long x after read

-- a reading reads what is in the grammar, where such tokens follow
abbrev pub CompletesOr : {A : Type 0} → (A → Type 0) → Grammar A → (Rest → Read A) → (List (At SpecToken) → Type 0) → Type 0
CompletesOr {A} Long G p F = (c : Counts) (xs rest : List (At SpecToken)) (x : A) → F rest → G c xs x → Again Long x (past c xs, rest) (p (c, xs ++ rest))

abbrev Never : {A : Type 0} → A → Type 0
Never x = ⊥

abbrev pub Completes : {A : Type 0} → Grammar A → (Rest → Read A) → (List (At SpecToken) → Type 0) → Type 0
Completes G p F = CompletesOr Never G p F

-- over as before, and at a later place
still_over : {A B : Type 0} (L : A → Type 0) (M : B → Type 0) (c : Counts) (ts : List (At SpecToken)) (x : A) (z : B) → (L x → M z) → IsOver L c x → IsOver M (past c ts) z
still_over L M c ts x z up (many_sessions lt) = many_sessions (omega (arith, lt, (grows c ts).0))
still_over L M c ts x z up (many_steps lt) = many_steps (omega (arith, lt, (grows c ts).1))
still_over L M c ts x z up (long h) = long (up h)

still_again : {A : Type 0} (L M : A → Type 0) (x : A) (after : Rest) (read : Read A) → (IsOver L after.0 x → IsOver M after.0 x) → Again L x after read → Again M x after read
still_again L M x after read up (whole e) = whole e
still_again L M x after read up (over e o) = over e (up o)

-- over at one place, by another word for what was read
later_over : {A : Type 0} (L M : A → Type 0) (d : Counts) (x : A) → (L x → IsOver M d x) → IsOver L d x → IsOver M d x
later_over L M d x up (many_sessions lt) = many_sessions lt
later_over L M d x up (many_steps lt) = many_steps lt
later_over L M d x up (long h) = up h

reword : {A : Type 0} (L M : A → Type 0) (G : Grammar A) (p : Rest → Read A) (F : List (At SpecToken) → Type 0) → ((x : A) → L x → M x) → CompletesOr L G p F → CompletesOr M G p F
reword L M G p F up reads c xs rest x f g = still_again L M x (past c xs, rest) (p (c, xs ++ rest)) (still_over L M (past c xs) [] x x (up x)) (reads c xs rest x f g)

weaken : {A : Type 0} (M : A → Type 0) (G : Grammar A) (p : Rest → Read A) (F : List (At SpecToken) → Type 0) → Completes G p F → CompletesOr M G p F
weaken M G p F reads = reword Never M G p F (λ x h. absurd h) reads

abbrev Any : List (At SpecToken) → Type 0
Any rest = Unit {0}

abbrev NotFirst : (SpecToken → Bool) → List (At SpecToken) → Type 0
NotFirst p rest = first_is p rest ≡ false

over_first : {A B : Type 0} (q : Read A) (f : A × Rest → Read B) → q.0 ≡ Err OverLimit → (q >>= f).0 ≡ Err OverLimit
over_first (Ok x, rest) f e = absurd cc
over_first (Err s, rest) f e = let same : s ≡ OverLimit = cc in ap Err same

then_again : {A B : Type 0} (L : A → Type 0) (M : B → Type 0) (q : Read A) (f : A × Rest → Read B) (x : A) (mid : Rest) (z : B) (after : Rest) → (IsOver L mid.0 x → IsOver M after.0 z) → Again L x mid q → Again M z after (f (x, mid)) → Again M z after (q >>= f)
then_again L M q f x mid z after up (whole e) a = subst (λ r. Again M z after (r >>= f)) (sym e) a
then_again L M q f x mid z after up (over e o) a = over (over_first q f e) (up o)

seq_from : {A B : Type 0} (L : A → Type 0) (N : Counts → B → Type 0) (M : B → Type 0) (G : Grammar A) (H : A → Grammar B) (p : Rest → Read A) (f : Counts → A × Rest → Read B) (F E : List (At SpecToken) → Type 0)
    → ((c : Counts) (x : A) (xs ys : List (At SpecToken)) (z : B) → H x (past c xs) ys z → L x → M z)
    → ((c : Counts) (x : A) (xs ys : List (At SpecToken)) (z : B) → G c xs x → N c z → IsOver M (past (past c xs) ys) z)
    → CompletesOr L G p F → ((d : Counts) (x : A) → CompletesOr (N d) (H x) (λ r. f d (x, r)) E)
    → ((d : Counts) (x : A) (ys rest : List (At SpecToken)) (z : B) → E rest → H x d ys z → F (ys ++ rest)) → CompletesOr M (G ▸ H) (λ r. p r >>= f r.0) E
seq_from {B = B} L N M G H p f F E first_up next_up reads next_token leads c ts rest z follows (x, xs, ys, e, g, h) =
    let split : ts ++ rest ≡ xs ++ (ys ++ rest) = ap (λ (r : List (At SpecToken)). r ++ rest) e ∙ append_assoc xs ys rest in
    let after : past (past c xs) ys ≡ past c ts = sym (past_twice c xs ys) ∙ ap (past c) (sym e) in
    let one = reads c xs (ys ++ rest) x (leads (past c xs) x ys rest z follows h) g in
    let two = still_again (N c) M z (past (past c xs) ys, rest) (f c (x, (past c xs, ys ++ rest))) (later_over (N c) M (past (past c xs) ys) z (next_up c x xs ys z g)) (next_token c x (past c xs) ys rest z follows h) in
    subst (λ us. Again M z (past c ts, rest) (p (c, us) >>= f c)) (sym split) (subst (λ d. Again M z (d, rest) (p (c, xs ++ (ys ++ rest)) >>= f c)) after (then_again L M (p (c, xs ++ (ys ++ rest))) (f c) x (past c xs, ys ++ rest) z (past (past c xs) ys, rest) (still_over L M (past c xs) ys x z (first_up c x xs ys z h)) one two))

seq_or : {A B : Type 0} (L : A → Type 0) (M : B → Type 0) (G : Grammar A) (H : A → Grammar B) (p : Rest → Read A) (f : A × Rest → Read B) (F E : List (At SpecToken) → Type 0)
    → ((c : Counts) (x : A) (ts : List (At SpecToken)) (z : B) → H x c ts z → L x → M z)
    → CompletesOr L G p F → ((x : A) → CompletesOr M (H x) (λ r. f (x, r)) E)
    → ((d : Counts) (x : A) (ys rest : List (At SpecToken)) (z : B) → E rest → H x d ys z → F (ys ++ rest)) → CompletesOr M (G ▸ H) (λ r. p r >>= f) E
seq_or L M G H p f F E up reads next_token leads = seq_from L (λ _. M) M G H p (λ _. f) F E (λ c x xs ys z h. up (past c xs) x ys z h) (λ c x xs ys z g h. long h) reads (λ _. next_token) leads

seq : {A B : Type 0} (G : Grammar A) (H : A → Grammar B) (p : Rest → Read A) (f : A × Rest → Read B) (F E : List (At SpecToken) → Type 0) → Completes G p F → ((x : A) → Completes (H x) (λ r. f (x, r)) E)
    → ((d : Counts) (x : A) (ys rest : List (At SpecToken)) (z : B) → E rest → H x d ys z → F (ys ++ rest)) → Completes (G ▸ H) (λ r. p r >>= f) E
seq G H p f F E reads next_token leads = seq_or Never Never G H p f F E (λ c x ts z h k. absurd k) reads next_token leads

gives_again : {A : Type 0} {L : A → Type 0} (v : A) (F : List (At SpecToken) → Type 0) → CompletesOr L (gives v) (λ r. (Ok v, r)) F
gives_again v F c xs rest x follows (nothing, is) = rw (nothing, is) (whole refl)

token_again : {A : Type 0} (f : Counts → At SpecToken → Option A) (w : What) → Completes (one f) (token_at f w) Any
token_again f w c xs rest x follows (t, e, is) = rw e (whole (rw is refl))

-- ---- the first token

begins : {A B : Type 0} (f : Counts → At SpecToken → Option A) (H : A → Grammar B) (p : SpecToken → Bool) (c : Counts) (ts rest : List (At SpecToken)) (z : B) (b : Bool) → ((t : At SpecToken) (x : A) → f c t ≡ Some x → p t.tok ≡ b) → (one f ▸ H) c ts z → first_is p (ts ++ rest) ≡ b
begins f H p c ts rest z b says (x, xs, ys, e, (t, te, is), h) =
    let front : ts ≡ (t ∷ []) ++ ys = e ∙ ap (λ (r : List (At SpecToken)). r ++ ys) te in
    ap (λ (r : List (At SpecToken)). first_is p (r ++ rest)) front ∙ says t x is

begins_word : {B : Type 0} (k : Keyword) (H : Unit {0} → Grammar B) (p : SpecToken → Bool) (c : Counts) (ts rest : List (At SpecToken)) (z : B) → (one (a_word k) ▸ H) c ts z → first_is p (ts ++ rest) ≡ p (keyword k)
begins_word k H p c ts rest z h = begins (a_word k) H p c ts rest z (p (keyword k)) (λ t x is. ap p (keyword_in k t.tok (test_true (is_keyword k t.tok) x is))) h

begins_sign : {B : Type 0} (g : Sign) (H : Unit {0} → Grammar B) (p : SpecToken → Bool) (c : Counts) (ts rest : List (At SpecToken)) (z : B) → (one (a_sign g) ▸ H) c ts z → first_is p (ts ++ rest) ≡ p (sign g)
begins_sign g H p c ts rest z h = begins (a_sign g) H p c ts rest z (p (sign g)) (λ t x is. ap p (sign_in g t.tok (test_true (is_mark g t.tok) x is))) h

begins_name : {B : Type 0} (H : NameAt → Grammar B) (p : SpecToken → Bool) (b : Bool) → ((m : Written) → p (name m) ≡ b) → (c : Counts) (ts rest : List (At SpecToken)) (z : B) → (one a_name ▸ H) c ts z → first_is p (ts ++ rest) ≡ b
begins_name H p b of_names c ts rest z h = begins a_name H p c ts rest z b (λ t n is. let m = named_in c t n is in ap p m.1 ∙ of_names m.0) h

-- ---- one token, under a limit

within_case : (b : Bool) (before most : ℕ) (c : Counts) (t : At SpecToken) (rest : List (At SpecToken)) (n : NameAt) → nat_lt before most ≡ b → a_name c t ≡ Some n → Again (λ _. most ≤ before) n (past_token t.tok c, rest) (cond b (token_at a_name what.Name (c, t ∷ rest)) (cond (is_name t.tok) (Err OverLimit, (c, t ∷ rest)) (Err (Expected what.Name), (c, t ∷ rest))))
within_case true before most c t rest n lt is = whole (rw is refl)
within_case false before most c t rest n lt is = let m = named_in c t n is in over (rw m.1 refl) (long (ltb-false before most lt))

name_within_again : (before most : ℕ) → CompletesOr (λ _. most ≤ before) (one a_name) (name_within before most) Any
unfolding name_within name_next
name_within_again before most c xs rest n follows (t, e, is) = rw e (within_case (nat_lt before most) before most c t rest n refl is)

word_again : (k : Keyword) (w : What) → Completes (one (a_word k)) (word_at k w) Any
unfolding next_token
word_again k w = token_again (a_word k) w

sign_again : (g : Sign) (w : What) → Completes (one (a_sign g)) (sign_at g w) Any
unfolding next_token
sign_again g w = token_again (a_sign g) w

name_again : (w : What) → Completes (one a_name) (name_next w) Any
unfolding name_next
name_again w = token_again a_name w

block_again : Completes (one a_block) block_next Any
unfolding block_next
block_again = token_again a_block what.Block

-- ---- one, or none

abbrev Starts : {A : Type 0} → (SpecToken → Bool) → Grammar A → Type 0
Starts {A} p G = (c : Counts) (xs rest : List (At SpecToken)) (x : A) → G c xs x → first_is p (xs ++ rest) ≡ true

maybe_again : {A : Type 0} (G : Grammar A) (p : SpecToken → Bool) (read : Rest → Read A) → Completes G read Any → Starts p G → Completes (Maybe G) (maybe_at (λ r. first_is p r.1) read) (NotFirst p)
unfolding maybe_at
maybe_again G p read reads starts c xs rest o follows left_out = whole (rw follows refl)
maybe_again G p read reads starts c xs rest o follows (given {x = x} g) =
    rw (starts c xs rest x g) (then_again Never Never (read (c, xs ++ rest)) (λ one. (Ok (Some one.0), one.1)) x (past c xs, rest) (Some x) (past c xs, rest) (still_over Never Never (past c xs) [] x (Some x) (λ h. h)) (reads c xs rest x tt g) (whole refl))

-- ---- many

next_follows : {A : Type 0} (G : Grammar A) (F : List (At SpecToken) → Type 0) → ((c : Counts) (xs rest : List (At SpecToken)) (x : A) → G c xs x → F (xs ++ rest)) → (c : Counts) (ts rest : List (At SpecToken)) (xs : List A) → F rest → Many G c ts xs → F (ts ++ rest)
next_follows G F leads c ts rest all follows none = follows
next_follows G F leads c ts rest all follows (more {x = x} xs ys e g others) = subst F (sym (ap (λ (r : List (At SpecToken)). r ++ rest) e ∙ append_assoc xs ys rest)) (leads c xs (ys ++ rest) x g)

many_or : {A : Type 0} (L : ℕ → A → Type 0) (M : ℕ → List A → Type 0) (G : Grammar A) (p : SpecToken → Bool) (item : ℕ → Rest → Read A) (F : List (At SpecToken) → Type 0)
    → ((k : ℕ) (x : A) (xs : List A) → L k x → M k (x ∷ xs)) → ((k : ℕ) (x : A) (xs : List A) → M (k + 1) xs → M k (x ∷ xs))
    → ((k : ℕ) → CompletesOr (L k) G (item k) F) → Starts p G → TakesOne G → ((c : Counts) (xs rest : List (At SpecToken)) (x : A) → G c xs x → F (xs ++ rest))
    → (n k : ℕ) (c : Counts) (ts rest : List (At SpecToken)) (xs : List A) → length (ts ++ rest) ≤ n → NotFirst p rest × F rest → Many G c ts xs → Again (M k) xs (past c ts, rest) (many_at (λ r. first_is p r.1) item k n (c, ts ++ rest))
many_or L M G p item F here there reads starts takes leads n k c ts rest all le follows none = whole (stops_at (λ r. first_is p r.1) item k n c rest follows.0)
many_or {A} L M G p item F here there reads starts takes leads zero k c ts rest all le follows (more {x = x} xs ys e g others) =
    absurd (omega (arith, le, length-append ts rest, ap (λ (r : List (At SpecToken)). length r) e, length-append xs ys, takes c xs x g))
many_or {A} L M G p item F here there reads starts takes leads (suc n) k c ts rest all le follows (more {x = x} {others = ss} xs ys e g others) =
    let split : ts ++ rest ≡ xs ++ (ys ++ rest) = ap (λ (r : List (At SpecToken)). r ++ rest) e ∙ append_assoc xs ys rest in
    let after : past (past c xs) ys ≡ past c ts = sym (past_twice c xs ys) ∙ ap (past c) (sym e) in
    let test : Rest → Bool = λ r. first_is p r.1 in
    let room : length (ys ++ rest) ≤ n = omega (arith, le, ap (λ (r : List (At SpecToken)). length r) split, length-append xs (ys ++ rest), takes c xs x g) in
    let one = reads k c xs (ys ++ rest) x (next_follows G F leads (past c xs) ys rest ss follows.1 others) g in
    let two = many_or L M G p item F here there reads starts takes leads n (k + 1) (past c xs) ys rest ss room follows others in
    let joined = then_again (M (k + 1)) (M k) (many_at test item (k + 1) n (past c xs, ys ++ rest)) (λ os. (Ok (x ∷ os.0), os.1)) ss (past (past c xs) ys, rest) (x ∷ ss) (past (past c xs) ys, rest) (still_over (M (k + 1)) (M k) (past (past c xs) ys) [] ss (x ∷ ss) (there k x ss)) two (whole refl) in
    let both = then_again (L k) (M k) (item k (c, xs ++ (ys ++ rest))) (goes test item k n) x (past c xs, ys ++ rest) (x ∷ ss) (past (past c xs) ys, rest) (still_over (L k) (M k) (past c xs) ys x (x ∷ ss) (here k x ss)) one joined in
    subst (λ us. Again (M k) (x ∷ ss) (past c ts, rest) (many_at test item k (suc n) (c, us))) (sym split)
    (subst (λ d. Again (M k) (x ∷ ss) (d, rest) (many_at test item k (suc n) (c, xs ++ (ys ++ rest)))) after
    (subst (Again (M k) (x ∷ ss) (past (past c xs) ys, rest)) (sym (goes_on test item k n c (xs ++ (ys ++ rest)) (starts c xs (ys ++ rest) x g))) both))

all_or : {A : Type 0} (L : ℕ → A → Type 0) (M : ℕ → List A → Type 0) (G : Grammar A) (p : SpecToken → Bool) (item : ℕ → Rest → Read A) (F : List (At SpecToken) → Type 0)
    → ((k : ℕ) (x : A) (xs : List A) → L k x → M k (x ∷ xs)) → ((k : ℕ) (x : A) (xs : List A) → M (k + 1) xs → M k (x ∷ xs))
    → ((k : ℕ) → CompletesOr (L k) G (item k) F) → Starts p G → TakesOne G → ((c : Counts) (xs rest : List (At SpecToken)) (x : A) → G c xs x → F (xs ++ rest)) → CompletesOr (M 0) (Many G) (all_at (λ r. first_is p r.1) item) (λ rest. NotFirst p rest × F rest)
unfolding all_at
all_or L M G p item F here there reads starts takes leads c ts rest xs follows h = many_or L M G p item F here there reads starts takes leads (length (ts ++ rest)) 0 c ts rest xs (omega arith) follows h

all_again : {A : Type 0} (G : Grammar A) (p : SpecToken → Bool) (item : ℕ → Rest → Read A) (F : List (At SpecToken) → Type 0) → ((k : ℕ) → Completes G (item k) F) → Starts p G → TakesOne G → ((c : Counts) (xs rest : List (At SpecToken)) (x : A) → G c xs x → F (xs ++ rest)) → Completes (Many G) (all_at (λ r. first_is p r.1) item) (λ rest. NotFirst p rest × F rest)
all_again G p item F reads starts takes leads = all_or (λ _. Never) (λ _. Never) G p item F (λ k x xs h. h) (λ k x xs h. h) reads starts takes leads

some_starts : {A : Type 0} (G : Grammar A) (p : SpecToken → Bool) → Starts p G → Starts p (some G)
some_starts G p starts c ts rest all (none, lt) = absurd (omega arith)
some_starts G p starts c ts rest all (more {x = x} xs ys e g others, lt) = ap (first_is p) (ap (λ (r : List (At SpecToken)). r ++ rest) e ∙ append_assoc xs ys rest) ∙ starts c xs (ys ++ rest) x g

some_or : {A : Type 0} (L : ℕ → A → Type 0) (M : ℕ → List A → Type 0) (G : Grammar A) (w : What) (p : SpecToken → Bool) (item : ℕ → Rest → Read A) (F : List (At SpecToken) → Type 0)
    → ((k : ℕ) (x : A) (xs : List A) → L k x → M k (x ∷ xs)) → ((k : ℕ) (x : A) (xs : List A) → M (k + 1) xs → M k (x ∷ xs))
    → ((k : ℕ) → CompletesOr (L k) G (item k) F) → Starts p G → TakesOne G → ((c : Counts) (xs rest : List (At SpecToken)) (x : A) → G c xs x → F (xs ++ rest)) → CompletesOr (M 0) (some G) (some_at w (λ r. first_is p r.1) item) (λ rest. NotFirst p rest × F rest)
unfolding some_at
some_or L M G w p item F here there reads starts takes leads c ts rest xs follows h = rw (some_starts G p starts c ts rest xs h) (all_or L M G p item F here there reads starts takes leads c ts rest xs follows h.0)

some_again : {A : Type 0} (G : Grammar A) (w : What) (p : SpecToken → Bool) (item : ℕ → Rest → Read A) (F : List (At SpecToken) → Type 0) → ((k : ℕ) → Completes G (item k) F) → Starts p G → TakesOne G → ((c : Counts) (xs rest : List (At SpecToken)) (x : A) → G c xs x → F (xs ++ rest)) → Completes (some G) (some_at w (λ r. first_is p r.1) item) (λ rest. NotFirst p rest × F rest)
some_again G w p item F reads starts takes leads = some_or (λ _. Never) (λ _. Never) G w p item F (λ k x xs h. h) (λ k x xs h. h) reads starts takes leads

-- ---- what comes first

abbrev Begins : {A : Type 0} → (SpecToken → Bool) → Bool → Grammar A → Type 0
Begins {A} p b G = (c : Counts) (xs rest : List (At SpecToken)) (x : A) → G c xs x → first_is p (xs ++ rest) ≡ b

some_begins : {A : Type 0} (G : Grammar A) (p : SpecToken → Bool) (b : Bool) → Begins p b G → Begins p b (some G)
some_begins G p b starts c ts rest all (none, lt) = absurd (omega arith)
some_begins G p b starts c ts rest all (more {x = x} xs ys e g others, lt) = ap (first_is p) (ap (λ (r : List (At SpecToken)). r ++ rest) e ∙ append_assoc xs ys rest) ∙ starts c xs (ys ++ rest) x g

maybe_begins : {A : Type 0} (G : Grammar A) (p : SpecToken → Bool) → Begins p false G → (c : Counts) (xs rest : List (At SpecToken)) (o : Option A) → NotFirst p rest → Maybe G c xs o → NotFirst p (xs ++ rest)
maybe_begins G p starts c xs rest o follows left_out = follows
maybe_begins G p starts c xs rest o follows (given {x = x} g) = starts c xs rest x g

-- a front in two parts
regroup : (F : List (At SpecToken) → Type 0) (ts xs ys rest : List (At SpecToken)) → ts ≡ xs ++ ys → F (xs ++ (ys ++ rest)) → F (ts ++ rest)
regroup F ts xs ys rest e h = subst F (sym (ap (λ (r : List (At SpecToken)). r ++ rest) e ∙ append_assoc xs ys rest)) h

-- nothing more
stays : (F : List (At SpecToken) → Type 0) (ts rest : List (At SpecToken)) → ts ≡ [] → F rest → F (ts ++ rest)
stays F ts rest e h = subst F (sym (ap (λ (r : List (At SpecToken)). r ++ rest) e)) h

-- ---- blocks and steps

block_after_again : (k : Keyword) → Completes (block_behind k) (block_after k) Any
unfolding block_after
block_after_again k = seq (one (a_word k)) (λ _. one a_block) (word_at k what.Item) (λ key. block_next key.1) Any Any (word_again k what.Item) (λ _. block_again) (λ d x ys rest z f h. tt)

setup_begins : (p : SpecToken → Bool) → Begins p (p (keyword Setup)) (block_behind Setup)
setup_begins p c xs rest x h = begins_word Setup (λ _. one a_block) p c xs rest x h

teardown_begins : (p : SpecToken → Bool) → Begins p (p (keyword Teardown)) (block_behind Teardown)
teardown_begins p c xs rest x h = begins_word Teardown (λ _. one a_block) p c xs rest x h

setup_again : Completes (Maybe (block_behind Setup)) setup_at (NotFirst (is_keyword Setup))
unfolding maybe_block
setup_again = maybe_again (block_behind Setup) (is_keyword Setup) (block_after Setup) (block_after_again Setup) (setup_begins (is_keyword Setup))

teardown_again : Completes (Maybe (block_behind Teardown)) teardown_at (NotFirst (is_keyword Teardown))
unfolding maybe_block
teardown_again = maybe_again (block_behind Teardown) (is_keyword Teardown) (block_after Teardown) (block_after_again Teardown) (teardown_begins (is_keyword Teardown))

setups_again : Completes (Many (block_behind Setup)) setups_at (λ rest. NotFirst (is_keyword Setup) rest × Any rest)
setups_again = all_again (block_behind Setup) (is_keyword Setup) (λ k. block_after Setup) Any (λ k. block_after_again Setup) (setup_begins (is_keyword Setup)) (first_takes (a_word Setup) (λ _. one a_block)) (λ c xs rest x g. tt)

abbrev step_of : NameAt → PartTree → StepOf NameAt
step_of n b = record { name = n; part = b }

step_end_again : (n : NameAt) → Completes (one a_block ▸ λ b. gives (step_of n b)) (λ r. block_next r >>= λ b. (Ok (step_of n b.0), b.1)) Any
step_end_again n = seq (one a_block) (λ b. gives (step_of n b)) block_next (λ b. (Ok (step_of n b.0), b.1)) Any Any block_again (λ b. gives_again (step_of n b) Any) (λ d x ys rest z f h. tt)

abbrev AfterStep : Grammar (StepOf NameAt)
AfterStep = one a_name ▸ λ n. one a_block ▸ λ b. gives (step_of n b)

named_step_again : (d : Counts) → CompletesOr (λ _. MOST_STEPS ≤ d.steps) AfterStep (λ r. name_within d.steps MOST_STEPS r >>= λ n. block_next n.1 >>= λ b. (Ok (step_of n.0 b.0), b.1)) Any
named_step_again d = seq_or (λ _. MOST_STEPS ≤ d.steps) (λ _. MOST_STEPS ≤ d.steps) (one a_name) (λ n. one a_block ▸ λ b. gives (step_of n b)) (name_within d.steps MOST_STEPS) (λ n. block_next n.1 >>= λ b. (Ok (step_of n.0 b.0), b.1)) Any Any (λ c x ts z h k. k) (name_within_again d.steps MOST_STEPS)
    (λ n. weaken (λ _. MOST_STEPS ≤ d.steps) (one a_block ▸ λ b. gives (step_of n b)) (λ r. block_next r >>= λ b. (Ok (step_of n b.0), b.1)) Any (step_end_again n)) (λ e x ys rest z f h. tt)

step_again : Completes step step_at Any
unfolding step_at
step_again = seq_from Never (λ d _. MOST_STEPS ≤ d.steps) Never (one (a_word Step)) (λ _. AfterStep) (word_at Step what.Item)
    (λ d key. name_within d.steps MOST_STEPS key.1 >>= λ n. block_next n.1 >>= λ b. (Ok (step_of n.0 b.0), b.1)) Any Any (λ c x xs ys z h k. absurd k)
    (λ c x xs ys z w lt. many_steps (omega (arith, lt, ap (λ (d : Counts). d.steps) (word_past Step c xs x w), (grows (past c xs) ys).1)))
    (word_again Step what.Item) (λ d _. named_step_again d) (λ d x ys rest z f h. tt)

step_begins : (p : SpecToken → Bool) → Begins p (p (keyword Step)) step
step_begins p c xs rest x h = begins_word Step (λ _. one a_name ▸ λ n. one a_block ▸ λ b. gives (step_of n b)) p c xs rest x h

steps_again : Completes (some step) steps_at (λ rest. NotFirst (is_keyword Step) rest × Any rest)
steps_again = some_again step what.Step (is_keyword Step) (λ k. step_at) Any (λ k. step_again) (step_begins (is_keyword Step)) (first_takes (a_word Step) (λ _. one a_name ▸ λ n. one a_block ▸ λ b. gives (step_of n b))) (λ c xs rest x g. tt)

-- ---- sessions

abbrev BehindSession : List (At SpecToken) → Type 0
BehindSession rest = NotFirst (is_keyword Step) rest × NotFirst (is_keyword Teardown) rest

abbrev session_of : NameAt → Option PartTree → List (StepOf NameAt) → Option PartTree → SessionOf NameAt
session_of n setup steps teardown = record { name = n; setup = setup; steps = steps; teardown = teardown }

abbrev TornDown : NameAt → Option PartTree → List (StepOf NameAt) → Grammar (SessionOf NameAt)
TornDown n setup steps = Maybe (block_behind Teardown) ▸ λ teardown. gives (session_of n setup steps teardown)

abbrev Stepped : NameAt → Option PartTree → Grammar (SessionOf NameAt)
Stepped n setup = some step ▸ TornDown n setup

abbrev SetUp : NameAt → Grammar (SessionOf NameAt)
SetUp n = Maybe (block_behind Setup) ▸ Stepped n

torn_again : (n : NameAt) (setup : Option PartTree) (steps : List (StepOf NameAt)) → Completes (TornDown n setup steps) (λ r. teardown_at r >>= λ teardown. (Ok (session_of n setup steps teardown.0), teardown.1)) BehindSession
torn_again n setup steps = seq (Maybe (block_behind Teardown)) (λ teardown. gives (session_of n setup steps teardown)) teardown_at (λ teardown. (Ok (session_of n setup steps teardown.0), teardown.1)) (NotFirst (is_keyword Teardown)) BehindSession teardown_again (λ teardown. gives_again (session_of n setup steps teardown) BehindSession)
    (λ d x ys rest z f h. stays (NotFirst (is_keyword Teardown)) ys rest h.0 f.1)

no_step_first : (n : NameAt) (setup : Option PartTree) (steps : List (StepOf NameAt)) (d : Counts) (ys rest : List (At SpecToken)) (z : SessionOf NameAt) → BehindSession rest → TornDown n setup steps d ys z → NotFirst (is_keyword Step) (ys ++ rest)
no_step_first n setup steps d ts rest z f (o, xs, ys, e, m, (nothing, is)) =
    regroup (NotFirst (is_keyword Step)) ts xs ys rest e (maybe_begins (block_behind Teardown) (is_keyword Step) (teardown_begins (is_keyword Step)) d xs (ys ++ rest) o (stays (NotFirst (is_keyword Step)) ys rest nothing f.0) m)

stepped_again : (n : NameAt) (setup : Option PartTree) → Completes (Stepped n setup) (λ r. steps_at r >>= λ steps. teardown_at steps.1 >>= λ teardown. (Ok (session_of n setup steps.0 teardown.0), teardown.1)) BehindSession
stepped_again n setup = seq (some step) (TornDown n setup) steps_at (λ steps. teardown_at steps.1 >>= λ teardown. (Ok (session_of n setup steps.0 teardown.0), teardown.1)) (λ rest. NotFirst (is_keyword Step) rest × Any rest) BehindSession steps_again (torn_again n setup)
    (λ d x ys rest z f h. (no_step_first n setup x d ys rest z f h, tt))

no_setup_first : (n : NameAt) (setup : Option PartTree) (d : Counts) (ys rest : List (At SpecToken)) (z : SessionOf NameAt) → Stepped n setup d ys z → NotFirst (is_keyword Setup) (ys ++ rest)
no_setup_first n setup d ts rest z (ss, xs, ys, e, m, h) = regroup (NotFirst (is_keyword Setup)) ts xs ys rest e (some_begins step (is_keyword Setup) false (step_begins (is_keyword Setup)) d xs (ys ++ rest) ss m)

set_up_again : (n : NameAt) → Completes (SetUp n) (λ r. setup_at r >>= λ setup. steps_at setup.1 >>= λ steps. teardown_at steps.1 >>= λ teardown. (Ok (session_of n setup.0 steps.0 teardown.0), teardown.1)) BehindSession
set_up_again n = seq (Maybe (block_behind Setup)) (Stepped n) setup_at (λ setup. steps_at setup.1 >>= λ steps. teardown_at steps.1 >>= λ teardown. (Ok (session_of n setup.0 steps.0 teardown.0), teardown.1)) (NotFirst (is_keyword Setup)) BehindSession setup_again (stepped_again n)
    (λ d x ys rest z f h. no_setup_first n x d ys rest z h)

named_session_again : (d : Counts) → CompletesOr (λ _. MOST_SESSIONS ≤ d.sessions) (one a_name ▸ SetUp) (λ r. name_within d.sessions MOST_SESSIONS r >>= λ n. setup_at n.1 >>= λ setup. steps_at setup.1 >>= λ steps. teardown_at steps.1 >>= λ teardown. (Ok (session_of n.0 setup.0 steps.0 teardown.0), teardown.1)) BehindSession
named_session_again d = seq_or (λ _. MOST_SESSIONS ≤ d.sessions) (λ _. MOST_SESSIONS ≤ d.sessions) (one a_name) SetUp (name_within d.sessions MOST_SESSIONS) (λ n. setup_at n.1 >>= λ setup. steps_at setup.1 >>= λ steps. teardown_at steps.1 >>= λ teardown. (Ok (session_of n.0 setup.0 steps.0 teardown.0), teardown.1)) Any BehindSession (λ c x ts z h k. k) (name_within_again d.sessions MOST_SESSIONS)
    (λ n. weaken (λ _. MOST_SESSIONS ≤ d.sessions) (SetUp n) (λ r. setup_at r >>= λ setup. steps_at setup.1 >>= λ steps. teardown_at steps.1 >>= λ teardown. (Ok (session_of n setup.0 steps.0 teardown.0), teardown.1)) BehindSession (set_up_again n)) (λ e x ys rest z f h. tt)

session_again : Completes session session_at BehindSession
unfolding session_at
session_again = seq_from Never (λ d _. MOST_SESSIONS ≤ d.sessions) Never (one (a_word Session)) (λ _. one a_name ▸ SetUp) (word_at Session what.Item)
    (λ d key. name_within d.sessions MOST_SESSIONS key.1 >>= λ n. setup_at n.1 >>= λ setup. steps_at setup.1 >>= λ steps. teardown_at steps.1 >>= λ teardown. (Ok (session_of n.0 setup.0 steps.0 teardown.0), teardown.1)) Any BehindSession (λ c x xs ys z h k. absurd k)
    (λ c x xs ys z w lt. many_sessions (omega (arith, lt, ap (λ (d : Counts). d.sessions) (word_past Session c xs x w), (grows (past c xs) ys).0)))
    (word_again Session what.Item) (λ d _. named_session_again d) (λ d x ys rest z f h. tt)

session_begins : (p : SpecToken → Bool) → Begins p (p (keyword Session)) session
session_begins p c xs rest x h = begins_word Session (λ _. one a_name ▸ SetUp) p c xs rest x h

abbrev BehindSessions : List (At SpecToken) → Type 0
BehindSessions rest = NotFirst (is_keyword Session) rest × BehindSession rest

sessions_again : Completes (some session) sessions_at BehindSessions
sessions_again = some_again session what.Session (is_keyword Session) (λ k. session_at) BehindSession (λ k. session_again) (session_begins (is_keyword Session)) (first_takes (a_word Session) (λ _. one a_name ▸ SetUp)) (λ c xs rest x g. (session_begins (is_keyword Step) c xs rest x g, session_begins (is_keyword Teardown) c xs rest x g))

-- ---- markers

abbrev BehindMarker : List (At SpecToken) → Type 0
BehindMarker rest = NotFirst (is_keyword Notices) rest

no_notices_again : (n : NameAt) → Completes (gives (named n)) (no_notices n) BehindMarker
unfolding no_notices
no_notices_again n c xs rest x follows (nothing, is) = rw (nothing, is) (rw follows (whole refl))

star_again : Completes (one (a_sign Star) ▸ λ _. gives star) (λ r. sign_at Star what.Marker r >>= λ key. (Ok star, key.1)) Any
star_again = seq (one (a_sign Star)) (λ _. gives star) (sign_at Star what.Marker) (λ key. (Ok star, key.1)) Any Any (sign_again Star what.Marker) (λ _. gives_again star Any) (λ d x ys rest z f h. tt)

named_again : Completes (one a_name ▸ λ n. gives (named n)) (λ r. name_next what.Marker r >>= λ n. no_notices n.0 n.1) BehindMarker
named_again = seq (one a_name) (λ n. gives (named n)) (name_next what.Marker) (λ n. no_notices n.0 n.1) Any BehindMarker (name_again what.Marker) no_notices_again (λ d x ys rest z f h. tt)

marker_again : Completes marker marker_at BehindMarker
unfolding marker_at
marker_again c xs rest x follows (first h) = rw (begins_sign Star (λ _. gives star) (is_mark Star) c xs rest x h) (star_again c xs rest x tt h)
marker_again c xs rest x follows (second h) = rw (begins_name (λ n. gives (named n)) (is_mark Star) false (λ m. refl) c xs rest x h) (named_again c xs rest x follows h)

abbrev NextMarker : Grammar MarkerTree
NextMarker = one (a_sign Comma) ▸ λ _. marker

next_marker_again : Completes NextMarker next_marker_at BehindMarker
next_marker_again = seq (one (a_sign Comma)) (λ _. marker) (sign_at Comma what.CommaOrClose) (λ comma. marker_at comma.1) Any BehindMarker (sign_again Comma what.CommaOrClose) (λ _. marker_again) (λ d x ys rest z f h. tt)

next_begins : (p : SpecToken → Bool) → Begins p (p (sign Comma)) NextMarker
next_begins p c xs rest x h = begins_sign Comma (λ _. marker) p c xs rest x h

abbrev BehindMarkers : List (At SpecToken) → Type 0
BehindMarkers rest = NotFirst (is_mark Comma) rest × BehindMarker rest

next_markers_again : Completes (Many NextMarker) next_markers_at BehindMarkers
next_markers_again = all_again NextMarker (is_mark Comma) (λ k. next_marker_at) BehindMarker (λ k. next_marker_again) (next_begins (is_mark Comma)) (first_takes (a_sign Comma) (λ _. marker)) (next_begins (is_keyword Notices))

abbrev Closed : MarkerTree → List MarkerTree → Grammar (List MarkerTree)
Closed m others = one (a_sign Close) ▸ λ _. gives (m ∷ others)

abbrev Marked : MarkerTree → Grammar (List MarkerTree)
Marked m = Many NextMarker ▸ Closed m

closed_begins : (m : MarkerTree) (others : List MarkerTree) (p : SpecToken → Bool) → Begins p (p (sign Close)) (Closed m others)
closed_begins m others p c xs rest x h = begins_sign Close (λ _. gives (m ∷ others)) p c xs rest x h

closed_again : (m : MarkerTree) (others : List MarkerTree) → Completes (Closed m others) (λ r. sign_at Close what.CommaOrClose r >>= λ closed. (Ok (m ∷ others), closed.1)) Any
closed_again m others = seq (one (a_sign Close)) (λ _. gives (m ∷ others)) (sign_at Close what.CommaOrClose) (λ closed. (Ok (m ∷ others), closed.1)) Any Any (sign_again Close what.CommaOrClose) (λ _. gives_again (m ∷ others) Any) (λ d x ys rest z f h. tt)

marked_again : (m : MarkerTree) → Completes (Marked m) (λ r. next_markers_at r >>= λ others. sign_at Close what.CommaOrClose others.1 >>= λ closed. (Ok (m ∷ others.0), closed.1)) Any
marked_again m = seq (Many NextMarker) (Closed m) next_markers_at (λ others. sign_at Close what.CommaOrClose others.1 >>= λ closed. (Ok (m ∷ others.0), closed.1)) BehindMarkers Any next_markers_again (closed_again m)
    (λ d x ys rest z f h. (closed_begins m x (is_mark Comma) d ys rest z h, closed_begins m x (is_keyword Notices) d ys rest z h))

no_notices_first : (m : MarkerTree) (d : Counts) (ys rest : List (At SpecToken)) (z : List MarkerTree) → Marked m d ys z → BehindMarker (ys ++ rest)
no_notices_first m d ts rest z (others, xs, ys, e, many, h) = regroup BehindMarker ts xs ys rest e (next_follows NextMarker BehindMarker (next_begins (is_keyword Notices)) d xs (ys ++ rest) others (closed_begins m others (is_keyword Notices) (past d xs) ys rest z h) many)

markers_again : Completes markers markers_at Any
unfolding markers_at
markers_again = seq (one (a_sign Open)) (λ _. marker ▸ Marked) (sign_at Open what.Item)
    (λ opened. marker_at opened.1 >>= λ m. next_markers_at m.1 >>= λ others. sign_at Close what.CommaOrClose others.1 >>= λ closed. (Ok (m.0 ∷ others.0), closed.1)) Any Any (sign_again Open what.Item)
    (λ _. seq marker Marked marker_at (λ m. next_markers_at m.1 >>= λ others. sign_at Close what.CommaOrClose others.1 >>= λ closed. (Ok (m.0 ∷ others.0), closed.1)) BehindMarker Any marker_again marked_again (λ d x ys rest z f h. no_notices_first x d ys rest z h))
    (λ d x ys rest z f h. tt)

markers_begin : (p : SpecToken → Bool) → Begins p (p (sign Open)) markers
markers_begin p c xs rest x h = begins_sign Open (λ _. marker ▸ Marked) p c xs rest x h

some_markers_again : Completes (Maybe markers) some_markers_at (NotFirst (is_mark Open))
some_markers_again = maybe_again markers (is_mark Open) markers_at markers_again (markers_begin (is_mark Open))

-- ---- permutations

abbrev BehindEntry : List (At SpecToken) → Type 0
BehindEntry rest = NotFirst (is_mark Open) rest

abbrev entry_of : NameAt → Option (List MarkerTree) → NamedEntry
entry_of n ms = record { name = n; markers = unwrap_or ms [] }

abbrev Marks : NameAt → Grammar NamedEntry
Marks n = Maybe markers ▸ λ ms. gives (entry_of n ms)

marks_again : (n : NameAt) → Completes (Marks n) (λ r. some_markers_at r >>= λ ms. (Ok (entry_of n ms.0), ms.1)) BehindEntry
marks_again n = seq (Maybe markers) (λ ms. gives (entry_of n ms)) some_markers_at (λ ms. (Ok (entry_of n ms.0), ms.1)) BehindEntry BehindEntry some_markers_again (λ ms. gives_again (entry_of n ms) BehindEntry) (λ d x ys rest z f h. stays BehindEntry ys rest h.0 f)

entry_again : (k : ℕ) → CompletesOr (λ _. MOST_ENTRIES ≤ k) entry (entry_at k) BehindEntry
unfolding entry_at
entry_again k = seq_or (λ _. MOST_ENTRIES ≤ k) (λ _. MOST_ENTRIES ≤ k) (one a_name) Marks (name_within k MOST_ENTRIES) (λ n. some_markers_at n.1 >>= λ ms. (Ok (entry_of n.0 ms.0), ms.1)) Any BehindEntry (λ c x ts z h k. k) (name_within_again k MOST_ENTRIES)
    (λ n. weaken (λ _. MOST_ENTRIES ≤ k) (Marks n) (λ r. some_markers_at r >>= λ ms. (Ok (entry_of n ms.0), ms.1)) BehindEntry (marks_again n)) (λ d x ys rest z f h. tt)

abbrev BehindEntries : List (At SpecToken) → Type 0
BehindEntries rest = NotFirst is_name rest × BehindEntry rest

-- a permutation of more than 1,000 entries
abbrev pub IsLong : List NamedEntry → Type 0
IsLong es = MOST_ENTRIES < length es

entries_again : CompletesOr IsLong (some entry) entries_at BehindEntries
entries_again = reword (λ es. MOST_ENTRIES < 0 + length es) IsLong (some entry) (some_at what.Name starts_name entry_at) BehindEntries (λ es h. omega (arith, h))
    (some_or (λ k _. MOST_ENTRIES ≤ k) (λ k es. MOST_ENTRIES < k + length es) entry what.Name is_name entry_at BehindEntry (λ k x xs h. omega (arith, h)) (λ k x xs h. omega (arith, h)) entry_again
    (begins_name (λ n. Maybe markers ▸ λ ms. gives (entry_of n ms)) is_name true (λ m. refl)) (first_takes a_name (λ n. Maybe markers ▸ λ ms. gives (entry_of n ms))) (begins_name (λ n. Maybe markers ▸ λ ms. gives (entry_of n ms)) (is_mark Open) false (λ m. refl)))

perm_again : CompletesOr IsLong perm perm_at BehindEntries
unfolding perm_at
perm_again = seq_or Never IsLong (one (a_word Permutation)) (λ _. some entry) (word_at Permutation what.Item) (λ key. entries_at key.1) Any BehindEntries (λ c x ts z h k. absurd k) (word_again Permutation what.Item) (λ _. entries_again) (λ d x ys rest z f h. tt)

perm_begins : (p : SpecToken → Bool) → Begins p (p (keyword Permutation)) perm
perm_begins p c xs rest x h = begins_word Permutation (λ _. some entry) p c xs rest x h

abbrev BehindPerms : List (At SpecToken) → Type 0
BehindPerms rest = NotFirst (is_keyword Permutation) rest × BehindEntries rest

-- some permutation is too long
abbrev pub SomeLong : List (List NamedEntry) → Type 0
SomeLong [] = ⊥
SomeLong (es ∷ ps) = IsLong es ⊎ SomeLong ps

perms_again : CompletesOr SomeLong (Many perm) perms_at BehindPerms
perms_again = all_or (λ _. IsLong) (λ _. SomeLong) perm (is_keyword Permutation) (λ k. perm_at) BehindEntries (λ k x xs h. inl h) (λ k x xs h. inr h) (λ k. perm_again) (perm_begins (is_keyword Permutation)) (first_takes (a_word Permutation) (λ _. some entry)) (λ c xs rest x g. (perm_begins is_name c xs rest x g, perm_begins (is_mark Open) c xs rest x g))

-- ---- the file

abbrev AtEnd : List (At SpecToken) → Type 0
AtEnd rest = rest ≡ []

abbrev file_of : List PartTree → Option PartTree → List (SessionOf NameAt) → List (List NamedEntry) → FileTree
file_of setups teardown sessions perms = record { setups = setups; teardown = teardown; sessions = sessions; perms = perms }

abbrev Permuted : List PartTree → Option PartTree → List (SessionOf NameAt) → Grammar FileTree
Permuted setups teardown sessions = Many perm ▸ λ perms. gives (file_of setups teardown sessions perms)

abbrev Held : List PartTree → Option PartTree → Grammar FileTree
Held setups teardown = some session ▸ Permuted setups teardown

abbrev Ended : List PartTree → Grammar FileTree
Ended setups = Maybe (block_behind Teardown) ▸ Held setups

abbrev pub LongFile : FileTree → Type 0
LongFile f = SomeLong f.perms

ended_again : (f : FileTree) → CompletesOr LongFile (gives f) (λ r. end_at r >>= λ ended. (Ok f, ended.1)) AtEnd
unfolding end_at
ended_again f c xs rest x follows (nothing, is) = rw (nothing, is, follows) (whole refl)

ends_so : (F : List (At SpecToken) → Type 0) (ys rest : List (At SpecToken)) → ys ≡ [] → rest ≡ [] → F [] → F (ys ++ rest)
ends_so F ys rest e d h = stays F ys rest e (subst F (sym d) h)

permuted_again : (setups : List PartTree) (teardown : Option PartTree) (sessions : List (SessionOf NameAt)) → CompletesOr LongFile (Permuted setups teardown sessions) (λ r. perms_at r >>= λ perms. end_at perms.1 >>= λ ended. (Ok (file_of setups teardown sessions perms.0), ended.1)) AtEnd
permuted_again setups teardown sessions = seq_or SomeLong LongFile (Many perm) (λ perms. gives (file_of setups teardown sessions perms)) perms_at (λ perms. end_at perms.1 >>= λ ended. (Ok (file_of setups teardown sessions perms.0), ended.1)) BehindPerms AtEnd (λ c ps ts z h k. subst LongFile (sym h.1) k) perms_again (λ perms. ended_again (file_of setups teardown sessions perms))
    (λ d x ys rest z f h. ends_so BehindPerms ys rest h.0 f (refl, (refl, refl)))

behind_sessions : (setups : List PartTree) (teardown : Option PartTree) (sessions : List (SessionOf NameAt)) (d : Counts) (ys rest : List (At SpecToken)) (z : FileTree) → AtEnd rest → Permuted setups teardown sessions d ys z → BehindSessions (ys ++ rest)
behind_sessions setups teardown sessions d ts rest z f (perms, xs, ys, e, many, h) =
    regroup BehindSessions ts xs ys rest e (next_follows perm BehindSessions (λ c us vs x g. (perm_begins (is_keyword Session) c us vs x g, (perm_begins (is_keyword Step) c us vs x g, perm_begins (is_keyword Teardown) c us vs x g))) d xs (ys ++ rest) perms (ends_so BehindSessions ys rest h.0 f (refl, (refl, refl))) many)

held_again : (setups : List PartTree) (teardown : Option PartTree) → CompletesOr LongFile (Held setups teardown) (λ r. sessions_at r >>= λ sessions. perms_at sessions.1 >>= λ perms. end_at perms.1 >>= λ ended. (Ok (file_of setups teardown sessions.0 perms.0), ended.1)) AtEnd
held_again setups teardown = seq_or Never LongFile (some session) (Permuted setups teardown) sessions_at (λ sessions. perms_at sessions.1 >>= λ perms. end_at perms.1 >>= λ ended. (Ok (file_of setups teardown sessions.0 perms.0), ended.1)) BehindSessions AtEnd (λ c x ts z h k. absurd k) sessions_again (permuted_again setups teardown) (λ d x ys rest z f h. behind_sessions setups teardown x d ys rest z f h)

held_begins : (setups : List PartTree) (teardown : Option PartTree) (p : SpecToken → Bool) → Begins p (p (keyword Session)) (Held setups teardown)
held_begins setups teardown p c ts rest z (ss, xs, ys, e, m, h) = ap (first_is p) (ap (λ (r : List (At SpecToken)). r ++ rest) e ∙ append_assoc xs ys rest) ∙ some_begins session p (p (keyword Session)) (session_begins p) c xs (ys ++ rest) ss m

torn_file_again : (setups : List PartTree) → CompletesOr LongFile (Ended setups) (λ r. teardown_at r >>= λ teardown. sessions_at teardown.1 >>= λ sessions. perms_at sessions.1 >>= λ perms. end_at perms.1 >>= λ ended. (Ok (file_of setups teardown.0 sessions.0 perms.0), ended.1)) AtEnd
torn_file_again setups = seq_or Never LongFile (Maybe (block_behind Teardown)) (Held setups) teardown_at (λ teardown. sessions_at teardown.1 >>= λ sessions. perms_at sessions.1 >>= λ perms. end_at perms.1 >>= λ ended. (Ok (file_of setups teardown.0 sessions.0 perms.0), ended.1)) (NotFirst (is_keyword Teardown)) AtEnd (λ c x ts z h k. absurd k) teardown_again (held_again setups) (λ d x ys rest z f h. held_begins setups x (is_keyword Teardown) d ys rest z h)

no_setup_ahead : (setups : List PartTree) (d : Counts) (ys rest : List (At SpecToken)) (z : FileTree) → Ended setups d ys z → NotFirst (is_keyword Setup) (ys ++ rest)
no_setup_ahead setups d ts rest z (o, xs, ys, e, m, h) = regroup (NotFirst (is_keyword Setup)) ts xs ys rest e (maybe_begins (block_behind Teardown) (is_keyword Setup) (teardown_begins (is_keyword Setup)) d xs (ys ++ rest) o (held_begins setups o (is_keyword Setup) (past d xs) ys rest z h) m)

pub file_again : CompletesOr LongFile file file_at AtEnd
unfolding file_at
file_again = seq_or Never LongFile (Many (block_behind Setup)) Ended setups_at (λ setups. teardown_at setups.1 >>= λ teardown. sessions_at teardown.1 >>= λ sessions. perms_at sessions.1 >>= λ perms. end_at perms.1 >>= λ ended. (Ok (file_of setups.0 teardown.0 sessions.0 perms.0), ended.1)) (λ rest. NotFirst (is_keyword Setup) rest × Any rest) AtEnd (λ c x ts z h k. absurd k) setups_again torn_file_again (λ d x ys rest z f h. (no_setup_ahead x d ys rest z h, tt))

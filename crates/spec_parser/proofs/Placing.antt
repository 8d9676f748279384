-- Reading as it is told is reading as the code does it, with the place of a stop put in.
use Rattle.std.proofs.Common.{◌≡◌, ℕ, zero, suc, ◌+◌, Bool, true, false, cond, List, [], ◌∷◌, ◌++◌, length, take, append_assoc, length-append, Option, Some, None, Result, Ok, Err, refl, sym, ap, ◌∙◌, add-one, arith}
use Rattle.std.specs.Prelude.{nat_lt, nat_le, unwrap_or, option_map, find, is_some, map}
use Rattle.std.specs.List.{enumerate_from}
use Rattle.std.proofs.Math.Seq.{take-append_seam}
use Rattle.std.proofs.lemmas.List.Sums.{sum_by-cons}
use Rattle.std.specs.Option.{option_map_or}
use Rattle.iso_lexer.specs.declared.limits.TheConstants.{MOST_ENTRIES, MOST_SESSIONS, MOST_STEPS}
use Rattle.iso_lexer.specs.declared.token.At.{At}
use Rattle.iso_lexer.specs.declared.token.Span.{Span}
use Rattle.iso_lexer.specs.declared.spec_token.Keyword.{Keyword}
use Rattle.iso_lexer.specs.declared.spec_token.Keyword.TheVariants.{Permutation, Session, Setup, Step, Teardown, Notices}
use Rattle.iso_lexer.specs.declared.spec_token.Sign.{Sign}
use Rattle.iso_lexer.specs.declared.spec_token.Sign.TheVariants.{Open, Close, Comma, Star}
use Rattle.iso_lexer.specs.SpecTokens.{SpecToken, keyword, name, sign, block}
use Rattle.iso_lexer.specs.Results.{if_ok, each}
use Rattle.iso_lexer.specs.Readers.{◌>>=◌, gives}
use Rattle.spec_parser.specs.declared.fault.What.{What}
use Rattle.spec_parser.specs.declared.fault.What.TheVariants as what
use Rattle.spec_parser.specs.declared.fault.Stop.TheVariants.{Expected, NoticesLeftOut}
use Rattle.spec_parser.specs.declared.fault.SpecFault.{SpecFault}
use Rattle.spec_parser.specs.declared.fault.SpecFault.TheVariants as faults
use Rattle.spec_parser.specs.Trees.{PartTree, NameAt, StepOf, SessionOf, MarkerTree, star, named, NamedEntry, FileTree, SpecTree}
use Rattle.spec_parser.specs.Counts.{Counts, start, past, past_token}
use Rattle.spec_parser.specs.Reading.{SpecReader, TokenKind, the_word, the_sign, the_name, the_block, count, if_next, many_from, many_of, at_most, expected, one_token, spec_block}
use Rattle.spec_parser.specs.Reading as new
use Rattle.spec_parser.specs.Grammar.{is_keyword, is_mark, is_name, a_name, a_block}
use Rattle.spec_parser.specs.Names.{StepAt, is_named, first_repeated, steps_of, names_resolved, session_tree, known_entry}
use Rattle.spec_parser.specs.Faults.{stopped}
use Rattle.spec_parser.specs.Inner.Known.{first_repeat, known_spec}
use Rattle.spec_parser.specs.Inner.Stopping.{Rest as Left, Read, StoppingReader, and_then, starts, token_at, next_token, name_next, block_next, end_at, name_within, many_at, all_at, some_at, maybe_at, place, block_after, maybe_block, step_at, session_at, no_notices, marker_at, markers_at, entry_at, perm_at, file_at, told, finished}
use Rattle.spec_parser.proofs.Local.{past_twice}
use Rattle.spec_parser.proofs.Passing.{Rest}

-- ---- words of reading

-- what the code has of what is left: the counts of what stands before
abbrev pub seen : Rest → Left
seen r = (past start r.0, r.1)

abbrev pub seen_in : {A : Type 0} → Result (A × Rest) SpecFault → Result (A × Left) SpecFault
seen_in (Ok x) = Ok (x.0, seen x.1)
seen_in (Err e) = Err e

-- what is told, seen so, is what the code reads
abbrev pub Sees : {A : Type 0} → ℕ → Result (A × Rest) SpecFault → Read A → Type 0
Sees last p q = seen_in p ≡ told last q

step_past : (b : List (At SpecToken)) (t : At SpecToken) → past start (b ++ t ∷ []) ≡ past_token t.tok (past start b)
step_past b t = past_twice start b (t ∷ [])

ok_err : {A : Type 0} (x : A × Left) (e : SpecFault) → ◌≡◌ {A = Result (A × Left) SpecFault} (Ok x) (Err e) → ⊥
ok_err x e h = cc

ok_same : {A : Type 0} (x y : A × Left) → ◌≡◌ {A = Result (A × Left) SpecFault} (Ok x) (Ok y) → x ≡ y
ok_same x y h = cc

err_same : {A : Type 0} (x y : SpecFault) → ◌≡◌ {A = Result (A × Left) SpecFault} (Err x) (Err y) → x ≡ y
err_same x y h = cc

-- one thing, and another behind it
seq : {A B : Type 0} (last : ℕ) (p : Result (A × Rest) SpecFault) (q : Read A) (f : A × Left → Read B) (g : A → SpecReader B) → Sees last p q → ((x : A) (m : Rest) → Sees last (g x m) (f (x, seen m)))
    → Sees last (if_ok p (λ x. g x.0 x.1)) (and_then q f)
seq last (Ok x) (Ok y, n) f g e behind = behind x.0 x.1 ∙ ap (λ z. told last (f z)) (ok_same (x.0, seen x.1) (y, n) e)
seq last (Ok x) (Err s, n) f g e behind = absurd (ok_err (x.0, seen x.1) (stopped s (place last n.1)) e)
seq last (Err x) (Ok y, n) f g e behind = absurd (ok_err (y, n) x (sym e))
seq {A} last (Err x) (Err s, n) f g e behind = ap Err (err_same {A = A} x (stopped s (place last n.1)) e)

-- a reader as it is told, and as the code does it
abbrev Same : {A : Type 0} → ℕ → SpecReader A → StoppingReader A → Type 0
Same last p q = (r : Rest) → Sees last (p r) (q (seen r))

then : {A B : Type 0} (last : ℕ) (p : SpecReader A) (q : StoppingReader A) (f : A × Left → Read B) (g : A → SpecReader B) → Same last p q → ((x : A) (m : Rest) → Sees last (g x m) (f (x, seen m)))
    → (r : Rest) → Sees last (if_ok (p r) (λ x. g x.0 x.1)) (and_then (q (seen r)) f)
then last p q f g first behind r = seq last (p r) (q (seen r)) f g (first r) behind

-- ---- what stands before

blocks_at : (tok : SpecToken) (span : Span) (c : Counts) → (past_token tok c).blocks ≡ c.blocks + cond (is_some (the_block 0 (record { tok = tok; span = span }))) 1 0
blocks_at (block n b) span c = refl
blocks_at (keyword Session) span c = omega arith
blocks_at (keyword Step) span c = omega arith
blocks_at _ span c = omega arith

steps_at : (tok : SpecToken) (span : Span) (c : Counts) → (past_token tok c).steps ≡ c.steps + cond (is_some (the_word Step (record { tok = tok; span = span }))) 1 0
steps_at (keyword Step) span c = refl
steps_at (keyword Session) span c = omega arith
steps_at (block n b) span c = omega arith
steps_at _ span c = omega arith

sessions_at : (tok : SpecToken) (span : Span) (c : Counts) → (past_token tok c).sessions ≡ c.sessions + cond (is_some (the_word Session (record { tok = tok; span = span }))) 1 0
sessions_at (keyword Session) span c = refl
sessions_at (keyword Step) span c = omega arith
sessions_at (block n b) span c = omega arith
sessions_at _ span c = omega arith

-- what is counted of these tokens is how many of them are of the kind
counted : {A : Type 0} (kind : TokenKind A) (of : Counts → ℕ) → ((t : At SpecToken) (c : Counts) → of (past_token t.tok c) ≡ of c + cond (is_some (kind t)) 1 0) → (c : Counts) (ts : List (At SpecToken)) → of (past c ts) ≡ of c + count kind ts
counted kind of one c [] = omega arith
counted kind of one c (t ∷ ts) = let here = one t c in let later = counted kind of one (past_token t.tok c) ts in let more = sum_by-cons (λ u. cond (is_some (kind u)) 1 0) t ts in omega arith

steps_counted : (b : List (At SpecToken)) → (past start b).steps ≡ count (the_word Step) b
steps_counted b = let all = counted (the_word Step) (λ c. c.steps) (λ t c. steps_at t.tok t.span c) start b in omega arith

sessions_counted : (b : List (At SpecToken)) → (past start b).sessions ≡ count (the_word Session) b
sessions_counted b = let all = counted (the_word Session) (λ c. c.sessions) (λ t c. sessions_at t.tok t.span c) start b in omega arith

blocks_counted : (b : List (At SpecToken)) → (past start b).blocks ≡ count (the_block 0) b
blocks_counted b = let all = counted (the_block 0) (λ c. c.blocks) (λ t c. blocks_at t.tok t.span c) start b in omega arith

-- ---- one token

one_of : {A : Type 0} (last : ℕ) (w : What) (o : Option A) (b : List (At SpecToken)) (t : At SpecToken) (ts : List (At SpecToken))
    → Sees last (option_map_or (λ x. gives x (b ++ t ∷ [], ts)) o (expected last w (b, t ∷ ts))) (option_map_or (λ x. (Ok x, (past_token t.tok (past start b), ts))) o (Err (Expected w), (past start b, t ∷ ts)))
one_of last w (Some x) b t ts = ap (λ c. Ok (x, (c, ts))) (step_past b t)
one_of last w None b t ts = refl

one_same : {A : Type 0} (last : ℕ) (kind : TokenKind A) (says : Counts → At SpecToken → Option A) (w : What) (r : Rest) → ((t : At SpecToken) → kind t ≡ says (past start r.0) t) → Sees last (one_token last kind w r) (token_at says w (seen r))
one_same last kind says w (b, []) same = refl
one_same {A} last kind says w (b, t ∷ ts) same =
    one_of last w (kind t) b t ts ∙ ap (λ (o : Option A). told last (option_map_or (λ x. (Ok x, (past_token t.tok (past start b), ts))) o (Err (Expected w), (past start b, t ∷ ts)))) (same t)

block_same : (last : ℕ) → Same last (spec_block last) block_next
unfolding block_next
block_same last r = one_same last (the_block (count (the_block 0) r.0)) a_block what.Block r (λ t. ap (λ n. the_block n t) (sym (blocks_counted r.0)))

name_same : (last : ℕ) (w : What) → Same last (one_token last the_name w) (name_next w)
unfolding name_next
name_same last w r = one_same last the_name a_name w r (λ t. refl)

-- the token that is taken, and what is left behind it
taken : {A : Type 0} → TokenKind A → Rest → Option (A × Rest)
taken kind (b, []) = None
taken kind (b, t ∷ ts) = option_map (λ x. (x, (b ++ t ∷ [], ts))) (kind t)

taken_of : {A B : Type 0} (behind : A → SpecReader B) (o : Option A) (m : Rest) (other : Result (B × Rest) SpecFault) → option_map_or (λ x. behind x m) o other ≡ option_map_or (λ (x : A × Rest). behind x.0 x.1) (option_map (λ (x : A). (x, m)) o) other
taken_of behind (Some x) m other = refl
taken_of behind None m other = refl

by_taken : {A B : Type 0} (kind : TokenKind A) (behind : A → SpecReader B) (others : SpecReader B) (r : Rest) → if_next kind behind others r ≡ option_map_or (λ (x : A × Rest). behind x.0 x.1) (taken kind r) (others r)
unfolding taken
by_taken kind behind others (b, []) = refl
by_taken kind behind others (b, t ∷ ts) = taken_of behind (kind t) (b ++ t ∷ [], ts) (others (b, t ∷ ts))

-- no token of the kind stands next; or one does, and behind it the one reads as the other reads with it
data Begins {A B : Type 0} (last : ℕ) (kind : TokenKind A) (begins : Left → Bool) (item : A → SpecReader B) (old : StoppingReader B) (r : Rest) : Type 0 where
  no : taken kind r ≡ None → begins (seen r) ≡ false → Begins last kind begins item old r
  yes : (x : A) (m : Rest) → taken kind r ≡ Some (x, m) → begins (seen r) ≡ true → Sees last (item x m) (old (seen r)) → Begins last kind begins item old r

choice_by : {A B : Type 0} (last : ℕ) (kind : TokenKind A) (begins : Left → Bool) (item : A → SpecReader B) (old : StoppingReader B) (others : SpecReader B) (old_others : StoppingReader B) (r : Rest)
    → Begins last kind begins item old r → Sees last (others r) (old_others (seen r)) → Sees last (if_next kind item others r) (cond (begins (seen r)) (old (seen r)) (old_others (seen r)))
choice_by last kind begins item old others old_others r (no t b) same = ap seen_in (by_taken kind item others r) ∙ rw (t, b) same
choice_by last kind begins item old others old_others r (yes x m t b is) same = ap seen_in (by_taken kind item others r) ∙ rw (t, b) is

begins_then : {A B C : Type 0} (last : ℕ) (kind : TokenKind A) (begins : Left → Bool) (item : A → SpecReader B) (old : StoppingReader B) (f : B × Left → Read C) (g : B → SpecReader C) → ((y : B) (m : Rest) → Sees last (g y m) (f (y, seen m))) → (r : Rest)
    → Begins last kind begins item old r → Begins last kind begins (λ x. item x >>= g) (λ m. and_then (old m) f) r
begins_then last kind begins item old f g same r (no t b) = no t b
begins_then last kind begins item old f g same r (yes x m t b is) = yes x m t b (seq last (item x m) (old (seen r)) f g is same)

-- ---- several things

many_same : {A B : Type 0} (last : ℕ) (kind : TokenKind A) (begins : Left → Bool) (item : ℕ → A → SpecReader B) (old : ℕ → StoppingReader B) → ((k : ℕ) (r : Rest) → Begins last kind begins (item (k + 1)) (old k) r)
    → (k n : ℕ) → Same last (many_from kind item (k + 1) n (gives [])) (many_at begins old k n)
unfolding many_from many_at
many_same last kind begins item old each k zero r = refl
many_same {A} {B} last kind begins item old each k (suc n) r =
    let others : B → SpecReader (List B) = λ y. many_from kind item (k + 1 + 1) n (gives []) >>= λ ys. gives (y ∷ ys) in
    let old_others : B × Left → Read (List B) = λ x. and_then (many_at begins old (k + 1) n x.1) (λ xs. (Ok (x.0 ∷ xs.0), xs.1)) in
    let behind = λ (y : B) (m : Rest). then last (many_from kind item (k + 1 + 1) n (gives [])) (many_at begins old (k + 1) n) (λ xs. (Ok (y ∷ xs.0), xs.1)) (λ ys. gives (y ∷ ys)) (many_same last kind begins item old each (k + 1) n) (λ ys l. refl) m in
    choice_by last kind begins (λ x. item (k + 1) x >>= others) (λ m. and_then (old k m) old_others) (gives []) (λ m. (Ok [], m)) r (begins_then last kind begins (item (k + 1)) (old k) old_others others behind r (each k r)) refl

all_same : {A B : Type 0} (last : ℕ) (kind : TokenKind A) (begins : Left → Bool) (item : ℕ → A → SpecReader B) (old : ℕ → StoppingReader B) → ((k : ℕ) (r : Rest) → Begins last kind begins (item (k + 1)) (old k) r)
    → Same last (many_of kind item (gives [])) (all_at begins old)
unfolding all_at
all_same last kind begins item old each r = many_same last kind begins item old each 0 (length r.1) r

twice : {A : Type 0} (b : Bool) (x y z : A) → cond b x z ≡ cond b (cond b x y) z
twice true x y z = refl
twice false x y z = refl

none_starts : {A B : Type 0} (last : ℕ) (kind : TokenKind A) (begins : Left → Bool) (item : A → SpecReader B) (old : StoppingReader B) (b : List (At SpecToken)) → Begins last kind begins item old (b, []) → begins (seen (b, [])) ≡ false
unfolding taken
none_starts last kind begins item old b (no t e) = e
none_starts {A} last kind begins item old b (yes x m t e is) = let wrong : ◌≡◌ {A = Option (A × Rest)} None (Some (x, m)) = t in absurd cc

some_by : {A B : Type 0} (last : ℕ) (kind : TokenKind A) (begins : Left → Bool) (item : ℕ → A → SpecReader B) (old : ℕ → StoppingReader B) → ((k : ℕ) (r : Rest) → Begins last kind begins (item (k + 1)) (old k) r)
    → (w : What) (b : List (At SpecToken)) (ts : List (At SpecToken)) → Sees last (many_of kind item (expected last w) (b, ts)) (some_at w begins old (seen (b, ts)))
unfolding many_from many_at some_at all_at
some_by last kind begins item old each w b [] = rw (none_starts last kind begins (item 1) (old 0) b (each 0 (b, []))) refl
some_by {A} {B} last kind begins item old each w b (t ∷ ts) =
    let n = length ts in
    let r : Rest = (b, t ∷ ts) in
    let others : B → SpecReader (List B) = λ y. many_from kind item (1 + 1) n (gives []) >>= λ ys. gives (y ∷ ys) in
    let old_others : B × Left → Read (List B) = λ x. and_then (many_at begins old (0 + 1) n x.1) (λ xs. (Ok (x.0 ∷ xs.0), xs.1)) in
    let behind = λ (y : B) (m : Rest). then last (many_from kind item (1 + 1) n (gives [])) (many_at begins old 1 n) (λ xs. (Ok (y ∷ xs.0), xs.1)) (λ ys. gives (y ∷ ys)) (many_same last kind begins item old each 1 n) (λ ys l. refl) m in
    choice_by last kind begins (λ x. item 1 x >>= others) (λ m. and_then (old 0 m) old_others) (expected last w) (λ m. (Err (Expected w), m)) r (begins_then last kind begins (item 1) (old 0) old_others others behind r (each 0 r)) refl
    ∙ ap (told last) (twice (begins (seen r)) (and_then (old 0 (seen r)) old_others) (Ok [], seen r) (Err (Expected w), seen r))

some_same : {A B : Type 0} (last : ℕ) (kind : TokenKind A) (begins : Left → Bool) (item : ℕ → A → SpecReader B) (old : ℕ → StoppingReader B) → ((k : ℕ) (r : Rest) → Begins last kind begins (item (k + 1)) (old k) r)
    → (w : What) → Same last (many_of kind item (expected last w)) (some_at w begins old)
some_same last kind begins item old each w r = some_by last kind begins item old each w r.0 r.1

-- ---- what begins with a word or a sign

-- a kind of which there is one of these tokens, told by where it stands
abbrev IsPlace : TokenKind ℕ → (SpecToken → Bool) → Type 0
IsPlace kind p = (t : At SpecToken) → kind t ≡ cond (p t.tok) (Some t.span.start) None

place_by : {B : Type 0} (last : ℕ) (kind : TokenKind ℕ) (p : SpecToken → Bool) (w : What) (behind : ℕ → SpecReader B) (item : StoppingReader B) → ((at : ℕ) → Same last (behind at) item) → (b : List (At SpecToken)) (t : At SpecToken) (ts : List (At SpecToken)) (is : Bool) → p t.tok ≡ is
    → kind t ≡ cond is (Some t.span.start) None → Begins last kind (starts p) behind (λ r. and_then (next_token p w r) (λ x. item x.1)) (b, t ∷ ts)
unfolding taken next_token
place_by last kind p w behind item same b t ts true e says = yes t.span.start (b ++ t ∷ [], ts) (rw says refl) e (rw e (same t.span.start (b ++ t ∷ [], ts) ∙ ap (λ c. told last (item (c, ts))) (step_past b t)))
place_by last kind p w behind item same b t ts false e says = no (rw says refl) e

place_begins : {B : Type 0} (last : ℕ) (kind : TokenKind ℕ) (p : SpecToken → Bool) → IsPlace kind p → (w : What) (behind : ℕ → SpecReader B) (item : StoppingReader B) → ((at : ℕ) → Same last (behind at) item) → (r : Rest) → Begins last kind (starts p) behind (λ r. and_then (next_token p w r) (λ x. item x.1)) r
unfolding taken
place_begins last kind p says w behind item same (b, []) = no refl refl
place_begins last kind p says w behind item same (b, t ∷ ts) = place_by last kind p w behind item same b t ts (p t.tok) refl (says t)

word_says : (k : Keyword) (tok : SpecToken) (span : Span) → the_word k (record { tok = tok; span = span }) ≡ cond (is_keyword k tok) (Some span.start) None
word_says k (keyword j) span = refl
word_says k _ span = refl

word_begins : {B : Type 0} (last : ℕ) (k : Keyword) (w : What) (behind : ℕ → SpecReader B) (item : StoppingReader B) → ((at : ℕ) → Same last (behind at) item) → (r : Rest) → Begins last (the_word k) (starts (is_keyword k)) behind (λ r. and_then (next_token (is_keyword k) w r) (λ x. item x.1)) r
word_begins last k = place_begins last (the_word k) (is_keyword k) (λ t. word_says k t.tok t.span)

sign_says : (g : Sign) (tok : SpecToken) (span : Span) → the_sign g (record { tok = tok; span = span }) ≡ cond (is_mark g tok) (Some span.start) None
sign_says g (sign h) span = refl
sign_says g _ span = refl

sign_begins : {B : Type 0} (last : ℕ) (g : Sign) (w : What) (behind : ℕ → SpecReader B) (item : StoppingReader B) → ((at : ℕ) → Same last (behind at) item) → (r : Rest) → Begins last (the_sign g) (starts (is_mark g)) behind (λ r. and_then (next_token (is_mark g) w r) (λ x. item x.1)) r
sign_begins last g = place_begins last (the_sign g) (is_mark g) (λ t. sign_says g t.tok t.span)

-- a sign that has to stand here
mark_by : {B : Type 0} (last : ℕ) (g : Sign) (w : What) (v : B) (b : List (At SpecToken)) (t : At SpecToken) (ts : List (At SpecToken)) (is : Bool) → is_mark g t.tok ≡ is → the_sign g t ≡ cond is (Some t.span.start) None
    → Sees last (if_ok (one_token last (the_sign g) w (b, t ∷ ts)) (λ x. gives v x.1)) (and_then (next_token (is_mark g) w (seen (b, t ∷ ts))) (λ x. (Ok v, x.1)))
unfolding next_token
mark_by last g w v b t ts true e says = rw (says, e) (ap (λ c. Ok (v, (c, ts))) (step_past b t))
mark_by last g w v b t ts false e says = rw (says, e) refl

mark_same : {B : Type 0} (last : ℕ) (g : Sign) (w : What) (v : B) (r : Rest) → Sees last (if_ok (one_token last (the_sign g) w r) (λ x. gives v x.1)) (and_then (next_token (is_mark g) w (seen r)) (λ x. (Ok v, x.1)))
unfolding next_token
mark_same last g w v (b, []) = refl
mark_same last g w v (b, t ∷ ts) = mark_by last g w v b t ts (is_mark g t.tok) refl (sign_says g t.tok t.span)

-- ---- the parts of a file

maybe_block_same : (last : ℕ) (k : Keyword) → Same last (new.maybe_block last k) (maybe_block k)
unfolding new.maybe_block maybe_block maybe_at block_after
maybe_block_same last k r =
    choice_by last (the_word k) (starts (is_keyword k)) (λ at. spec_block last >>= λ b. gives (Some b)) (λ m. and_then (block_after k m) (λ b. (Ok (Some b.0), b.1))) (gives None) (λ m. (Ok None, m)) r
    (begins_then last (the_word k) (starts (is_keyword k)) (λ at. spec_block last) (block_after k) (λ b. (Ok (Some b.0), b.1)) (λ b. gives (Some b)) (λ b m. refl) r
    (word_begins last k what.Item (λ at. spec_block last) block_next (λ at. block_same last) r)) refl

next_number : (number k most : ℕ) → number ≡ k + 1 → nat_le number most ≡ nat_lt k most
next_number number k most e = ap (λ j. nat_le j most) (e ∙ add-one k)

within_at : (last before number most : ℕ) (b : Bool) → nat_lt before most ≡ b → nat_le number most ≡ b → (front : List (At SpecToken)) (tok : SpecToken) (span : Span) (ts : List (At SpecToken))
    → let r : Rest = (front, record { tok = tok; span = span } ∷ ts) in Sees last (if_ok (one_token last the_name what.Name r) (λ n. at_most most number n.0 n.1)) (name_within before most (seen r))
unfolding name_within name_next
within_at last before number most true e d front (name n) span ts = rw (e, d) (ap (λ c. Ok (record { name = n; at = span.start }, (c, ts))) (step_past front (record { tok = name n; span = span })))
within_at last before number most false e d front (name n) span ts = rw (e, d) refl
within_at last before number most true e d front _ span ts = rw e refl
within_at last before number most false e d front _ span ts = rw e refl

within_none : (last before most : ℕ) (b : Bool) → nat_lt before most ≡ b → (c : Counts) → told last (name_within before most (c, [])) ≡ Err (faults.Expected what.Name last)
unfolding name_within name_next
within_none last before most true e c = rw e refl
within_none last before most false e c = rw e refl

within_same : (last number before most : ℕ) → number ≡ before + 1 → (r : Rest) → Sees last (if_ok (one_token last the_name what.Name r) (λ n. at_most most number n.0 n.1)) (name_within before most (seen r))
within_same last number before most e (b, []) = sym (within_none last before most (nat_lt before most) refl (past start b))
within_same last number before most e (b, t ∷ ts) = within_at last before number most (nat_lt before most) refl (next_number number before most e) b t.tok t.span ts

abbrev step_of : NameAt → PartTree → StepOf NameAt
step_of n b = record { name = n; part = b }

-- what is read behind the word of a step, and of a session
abbrev behind_step : ℕ → StoppingReader (StepOf NameAt)
behind_step before m = and_then (name_within before MOST_STEPS m) (λ n. and_then (block_next n.1) (λ b. (Ok (step_of n.0 b.0), b.1)))

step_body : (last before : ℕ) (m : Rest) → count (the_word Step) m.0 ≡ before + 1 → Sees last (new.step_at last m) (behind_step before (seen m))
unfolding new.step_at
step_body last before m is = then last (one_token last the_name what.Name >>= at_most MOST_STEPS (count (the_word Step) m.0)) (name_within before MOST_STEPS) _ (λ n. spec_block last >>= λ b. gives (step_of n b)) (within_same last (count (the_word Step) m.0) before MOST_STEPS is)
    (λ n l. then last (spec_block last) block_next _ (λ b. gives (step_of n b)) (block_same last) (λ b o. refl) l) m

step_at_token : (last : ℕ) (b : List (At SpecToken)) (tok : SpecToken) (span : Span) (ts : List (At SpecToken)) → Begins last (the_word Step) (starts (is_keyword Step)) (λ at. new.step_at last) step_at (b, record { tok = tok; span = span } ∷ ts)
unfolding taken next_token step_at
step_at_token last b (keyword Step) span ts =
    let t : At SpecToken = record { tok = keyword Step; span = span } in
    yes span.start (b ++ t ∷ [], ts) refl refl
    (step_body last (past start b).steps (b ++ t ∷ [], ts) (sym (steps_counted (b ++ t ∷ [])) ∙ ap (λ (c : Counts). c.steps) (step_past b t)) ∙ ap (λ c. told last (behind_step (past start b).steps (c, ts))) (step_past b t))
step_at_token last b _ span ts = no refl refl

step_begins : (last : ℕ) (r : Rest) → Begins last (the_word Step) (starts (is_keyword Step)) (λ at. new.step_at last) step_at r
unfolding taken
step_begins last (b, []) = no refl refl
step_begins last (b, t ∷ ts) = step_at_token last b t.tok t.span ts

abbrev session_of : NameAt → Option PartTree → List (StepOf NameAt) → Option PartTree → SessionOf NameAt
session_of n setup ss teardown = record { name = n; setup = setup; steps = ss; teardown = teardown }

abbrev behind_session : ℕ → StoppingReader (SessionOf NameAt)
behind_session before m = and_then (name_within before MOST_SESSIONS m) (λ n. and_then (maybe_block Setup n.1) (λ setup. and_then (some_at what.Step (starts (is_keyword Step)) (λ k. step_at) setup.1)
    (λ ss. and_then (maybe_block Teardown ss.1) (λ teardown. (Ok (session_of n.0 setup.0 ss.0 teardown.0), teardown.1)))))

session_body : (last before : ℕ) (m : Rest) → count (the_word Session) m.0 ≡ before + 1 → Sees last (new.session_at last m) (behind_session before (seen m))
unfolding new.session_at
session_body last before m is =
    let steps = many_of (the_word Step) (λ k at. new.step_at last) (expected last what.Step) in
    let fourth : NameAt → Option PartTree → List (StepOf NameAt) → SpecReader (SessionOf NameAt) = λ n setup ss. new.maybe_block last Teardown >>= λ teardown. gives (session_of n setup ss teardown) in
    let third : NameAt → Option PartTree → SpecReader (SessionOf NameAt) = λ n setup. steps >>= fourth n setup in
    let second : NameAt → SpecReader (SessionOf NameAt) = λ n. new.maybe_block last Setup >>= third n in
    then last (one_token last the_name what.Name >>= at_most MOST_SESSIONS (count (the_word Session) m.0)) (name_within before MOST_SESSIONS) _ second (within_same last (count (the_word Session) m.0) before MOST_SESSIONS is)
    (λ n. then last (new.maybe_block last Setup) (maybe_block Setup) _ (third n) (maybe_block_same last Setup)
    (λ setup. then last steps (some_at what.Step (starts (is_keyword Step)) (λ k. step_at)) _ (fourth n setup) (some_same last (the_word Step) (starts (is_keyword Step)) (λ k at. new.step_at last) (λ k. step_at) (λ k. step_begins last) what.Step)
    (λ ss. then last (new.maybe_block last Teardown) (maybe_block Teardown) _ (λ teardown. gives (session_of n setup ss teardown)) (maybe_block_same last Teardown) (λ teardown o. refl)))) m

session_at_token : (last : ℕ) (b : List (At SpecToken)) (tok : SpecToken) (span : Span) (ts : List (At SpecToken)) → Begins last (the_word Session) (starts (is_keyword Session)) (λ at. new.session_at last) session_at (b, record { tok = tok; span = span } ∷ ts)
unfolding taken next_token session_at
session_at_token last b (keyword Session) span ts =
    let t : At SpecToken = record { tok = keyword Session; span = span } in
    yes span.start (b ++ t ∷ [], ts) refl refl
    (session_body last (past start b).sessions (b ++ t ∷ [], ts) (sym (sessions_counted (b ++ t ∷ [])) ∙ ap (λ (c : Counts). c.sessions) (step_past b t)) ∙ ap (λ c. told last (behind_session (past start b).sessions (c, ts))) (step_past b t))
session_at_token last b _ span ts = no refl refl

session_begins : (last : ℕ) (r : Rest) → Begins last (the_word Session) (starts (is_keyword Session)) (λ at. new.session_at last) session_at r
unfolding taken
session_begins last (b, []) = no refl refl
session_begins last (b, t ∷ ts) = session_at_token last b t.tok t.span ts

notices_by : (last : ℕ) (n : NameAt) (b : List (At SpecToken)) (t : At SpecToken) (ts : List (At SpecToken)) (is : Bool) → is_keyword Notices t.tok ≡ is → the_word Notices t ≡ cond is (Some t.span.start) None
    → Sees last (if_next (the_word Notices) (λ at r. Err (faults.NoticesLeftOut at)) (gives (named n)) (b, t ∷ ts)) (no_notices n (seen (b, t ∷ ts)))
unfolding no_notices
notices_by last n b t ts true e says = rw (says, e) refl
notices_by last n b t ts false e says = rw (says, e) refl

notices_same : (last : ℕ) (n : NameAt) (r : Rest) → Sees last (if_next (the_word Notices) (λ at r. Err (faults.NoticesLeftOut at)) (gives (named n)) r) (no_notices n (seen r))
unfolding no_notices
notices_same last n (b, []) = refl
notices_same last n (b, t ∷ ts) = notices_by last n b t ts (is_keyword Notices t.tok) refl (word_says Notices t.tok t.span)

marker_same : (last : ℕ) → Same last (new.marker_at last) marker_at
unfolding new.marker_at marker_at
marker_same last r =
    choice_by last (the_sign Star) (starts (is_mark Star)) (λ at. gives star) (λ m. and_then (next_token (is_mark Star) what.Marker m) (λ x. (Ok star, x.1)))
    (one_token last the_name what.Marker >>= λ n. if_next (the_word Notices) (λ at r. Err (faults.NoticesLeftOut at)) (gives (named n))) (λ m. and_then (name_next what.Marker m) (λ n. no_notices n.0 n.1)) r
    (sign_begins last Star what.Marker (λ at. gives star) (λ m. (Ok star, m)) (λ at m. refl) r)
    (then last (one_token last the_name what.Marker) (name_next what.Marker) _ (λ n. if_next (the_word Notices) (λ at r. Err (faults.NoticesLeftOut at)) (gives (named n))) (name_same last what.Marker) (notices_same last) r)

-- one more marker, as the code reads it
abbrev next_marker : StoppingReader MarkerTree
next_marker r = and_then (next_token (is_mark Comma) what.CommaOrClose r) (λ x. marker_at x.1)

next_marker_begins : (last : ℕ) (r : Rest) → Begins last (the_sign Comma) (starts (is_mark Comma)) (λ at. new.marker_at last) next_marker r
next_marker_begins last r = sign_begins last Comma what.CommaOrClose (λ at. new.marker_at last) marker_at (λ at. marker_same last) r

markers_behind : (last : ℕ) (r : Rest) → Sees last (new.markers_at last r) (and_then (marker_at (seen r)) (λ m. and_then (all_at (starts (is_mark Comma)) (λ k. next_marker) m.1)
    (λ others. and_then (next_token (is_mark Close) what.CommaOrClose others.1) (λ x. (Ok (m.0 ∷ others.0), x.1)))))
unfolding new.markers_at
markers_behind last r =
    let others = many_of (the_sign Comma) (λ k at. new.marker_at last) (gives []) in
    let third : MarkerTree → List MarkerTree → SpecReader (List MarkerTree) = λ m ms. one_token last (the_sign Close) what.CommaOrClose >>= λ closed. gives (m ∷ ms) in
    let second : MarkerTree → SpecReader (List MarkerTree) = λ m. others >>= third m in
    then last (new.marker_at last) marker_at _ second (marker_same last)
    (λ m. then last others (all_at (starts (is_mark Comma)) (λ k. next_marker)) _ (third m)
    (all_same last (the_sign Comma) (starts (is_mark Comma)) (λ k at. new.marker_at last) (λ k. next_marker) (λ k. next_marker_begins last))
    (λ ms. mark_same last Close what.CommaOrClose (m ∷ ms))) r

markers_begin : (last : ℕ) (r : Rest) → Begins last (the_sign Open) (starts (is_mark Open)) (λ at. new.markers_at last) markers_at r
unfolding markers_at
markers_begin last r = sign_begins last Open what.Item (λ at. new.markers_at last) _ (λ at. markers_behind last) r

abbrev entry_of : NameAt → List MarkerTree → NamedEntry
entry_of n ms = record { name = n; markers = ms }

-- the rest of an entry, as it is told, and as the code reads it
abbrev entry_told : ℕ → NameAt → SpecReader NamedEntry
entry_told last n = if_next (the_sign Open) (λ at. new.markers_at last) (gives []) >>= λ ms. gives (entry_of n ms)

abbrev entry_read : NameAt → StoppingReader NamedEntry
entry_read n r = and_then (maybe_at (starts (is_mark Open)) markers_at r) (λ ms. (Ok (entry_of n (unwrap_or ms.0 [])), ms.1))

made_some : (last : ℕ) (n : NameAt) (q : Read (List MarkerTree)) → told last (and_then q (λ ms. (Ok (entry_of n ms.0), ms.1))) ≡ told last (and_then (and_then q (λ ms. (Ok (Some ms.0), ms.1))) (λ ms. (Ok (entry_of n (unwrap_or ms.0 [])), ms.1)))
made_some last n (Ok ms, m) = refl
made_some last n (Err s, m) = refl

maybe_by : (last : ℕ) (n : NameAt) (r : Rest) → Begins last (the_sign Open) (starts (is_mark Open)) (λ at. new.markers_at last) markers_at r → Sees last (entry_told last n r) (entry_read n (seen r))
unfolding maybe_at
maybe_by last n r (no t b) = ap (λ o. seen_in (if_ok o (λ ms. gives (entry_of n ms.0) ms.1))) (by_taken (the_sign Open) (λ at. new.markers_at last) (gives []) r) ∙ rw (t, b) refl
maybe_by last n r (yes x m t b is) = ap (λ o. seen_in (if_ok o (λ ms. gives (entry_of n ms.0) ms.1))) (by_taken (the_sign Open) (λ at. new.markers_at last) (gives []) r)
    ∙ rw (t, b) (seq last (new.markers_at last m) (markers_at (seen r)) (λ ms. (Ok (entry_of n ms.0), ms.1)) (λ ms. gives (entry_of n ms)) is (λ ms l. refl) ∙ made_some last n (markers_at (seen r)))

entry_at_token : (last k : ℕ) (b : List (At SpecToken)) (tok : SpecToken) (span : Span) (ts : List (At SpecToken)) → Begins last the_name (starts is_name) (new.entry_at last (k + 1)) (entry_at k) (b, record { tok = tok; span = span } ∷ ts)
unfolding taken new.entry_at entry_at
entry_at_token last k b (name w) span ts =
    let t : At SpecToken = record { tok = name w; span = span } in
    let n : NameAt = record { name = w; at = span.start } in
    yes n (b ++ t ∷ [], ts) refl refl
    (seq last (at_most MOST_ENTRIES (k + 1) n (b ++ t ∷ [], ts)) (name_within k MOST_ENTRIES (seen (b, t ∷ ts))) (λ x. entry_read x.0 x.1) (entry_told last) (within_at last k (k + 1) MOST_ENTRIES (nat_lt k MOST_ENTRIES) refl (next_number (k + 1) k MOST_ENTRIES refl) b (name w) span ts)
    (λ n m. maybe_by last n m (markers_begin last m)))
entry_at_token last k b _ span ts = no refl refl

entry_begins : (last k : ℕ) (r : Rest) → Begins last the_name (starts is_name) (new.entry_at last (k + 1)) (entry_at k) r
unfolding taken
entry_begins last k (b, []) = no refl refl
entry_begins last k (b, t ∷ ts) = entry_at_token last k b t.tok t.span ts

perm_begins : (last : ℕ) (r : Rest) → Begins last (the_word Permutation) (starts (is_keyword Permutation)) (λ at. many_of the_name (new.entry_at last) (expected last what.Name)) perm_at r
unfolding perm_at
perm_begins last r =
    word_begins last Permutation what.Item (λ at. many_of the_name (new.entry_at last) (expected last what.Name)) (some_at what.Name (starts is_name) entry_at) (λ at. some_same last the_name (starts is_name) (new.entry_at last) entry_at (entry_begins last) what.Name) r

end_same : (last : ℕ) (f : FileTree) (r : Rest) → Sees last (if_next Some (λ t r. Err (faults.Expected what.Item t.span.start)) (gives f) r) (and_then (end_at (seen r)) (λ e. (Ok f, e.1)))
unfolding end_at
end_same last f (b, []) = refl
end_same last f (b, t ∷ ts) = refl

abbrev file_of : List PartTree → Option PartTree → List (SessionOf NameAt) → List (List NamedEntry) → FileTree
file_of setups teardown ss perms = record { setups = setups; teardown = teardown; sessions = ss; perms = perms }

setups_same : (last : ℕ) → Same last (many_of (the_word Setup) (λ k at. spec_block last) (gives [])) (all_at (starts (is_keyword Setup)) (λ k. block_after Setup))
unfolding block_after
setups_same last = all_same last (the_word Setup) (starts (is_keyword Setup)) (λ k at. spec_block last) (λ k. block_after Setup) (λ k. word_begins last Setup what.Item (λ at. spec_block last) block_next (λ at. block_same last))

-- what the code reads as a fault is told as that fault
pub fault_is : (p : Result (FileTree × Rest) SpecFault) (x : SpecFault) → seen_in p ≡ Err x → p ≡ Err x
fault_is (Ok y) x e = absurd (ok_err (y.0, seen y.1) x e)
fault_is (Err y) x e = ap Err (err_same {A = FileTree} y x e)

pub file_same : (last : ℕ) → Same last (new.file_at last) file_at
unfolding new.file_at file_at
file_same last r =
    let setups = many_of (the_word Setup) (λ k at. spec_block last) (gives []) in
    let sessions = many_of (the_word Session) (λ k at. new.session_at last) (expected last what.Session) in
    let perms = many_of (the_word Permutation) (λ k at. many_of the_name (new.entry_at last) (expected last what.Name)) (gives []) in
    let ending : FileTree → SpecReader FileTree = λ f. if_next Some (λ t r. Err (faults.Expected what.Item t.span.start)) (gives f) in
    let fourth : List PartTree → Option PartTree → List (SessionOf NameAt) → SpecReader FileTree = λ us t ss. perms >>= λ ps. ending (file_of us t ss ps) in
    let third : List PartTree → Option PartTree → SpecReader FileTree = λ us t. sessions >>= fourth us t in
    let second : List PartTree → SpecReader FileTree = λ us. new.maybe_block last Teardown >>= third us in
    then last setups (all_at (starts (is_keyword Setup)) (λ k. block_after Setup)) _ second (setups_same last)
    (λ us. then last (new.maybe_block last Teardown) (maybe_block Teardown) _ (third us) (maybe_block_same last Teardown)
    (λ t. then last sessions (some_at what.Session (starts (is_keyword Session)) (λ k. session_at)) _ (fourth us t) (some_same last (the_word Session) (starts (is_keyword Session)) (λ k at. new.session_at last) (λ k. session_at) (λ k. session_begins last) what.Session)
    (λ ss. then last perms (all_at (starts (is_keyword Permutation)) (λ k. perm_at)) _ (λ ps. ending (file_of us t ss ps)) (all_same last (the_word Permutation) (starts (is_keyword Permutation)) (λ k at. many_of the_name (new.entry_at last) (expected last what.Name)) (λ k. perm_at) (λ k. perm_begins last))
    (λ ps. end_same last (file_of us t ss ps))))) r

-- ---- names

abbrev place_in : Option (ℕ × StepAt) → Option ℕ
place_in o = option_map (λ (s : ℕ × StepAt). s.1.name.at) o

-- a name that one of those before it has
abbrev again : List StepAt → ℕ × StepAt → Bool
again steps s = is_some (find (is_named s.1.name.name) (take s.0 steps))

repeat_by : (s : StepAt) (b : Bool) (k : ℕ) (o : Option (ℕ × StepAt)) (p : Option ℕ) → place_in o ≡ p → place_in (cond b (Some (k, s)) o) ≡ cond b (Some s.name.at) p
repeat_by s true k o p e = refl
repeat_by s false k o p e = e

repeat_same : (before ss : List StepAt) → place_in (find (again (before ++ ss)) (enumerate_from (length before) ss)) ≡ first_repeat before ss
repeat_same before [] = refl
repeat_same before (s ∷ ss) =
    let longer : length (before ++ s ∷ []) ≡ length before + 1 = length-append before (s ∷ []) in
    let others : place_in (find (again (before ++ s ∷ ss)) (enumerate_from (length before + 1) ss)) ≡ first_repeat (before ++ s ∷ []) ss
    = ap (λ k. place_in (find (again (before ++ s ∷ ss)) (enumerate_from k ss))) (sym longer) ∙ ap (λ l. place_in (find (again l) (enumerate_from (length (before ++ s ∷ [])) ss))) (sym (append_assoc before (s ∷ []) ss)) ∙ repeat_same (before ++ s ∷ []) ss in
    rw (take-append_seam before (s ∷ ss)) (repeat_by s (is_some (find (is_named s.name.name) before)) (length before) (find (again (before ++ s ∷ ss)) (enumerate_from (length before + 1) ss)) (first_repeat (before ++ s ∷ []) ss) others)

by_repeat : (o : Option (ℕ × StepAt)) (r : Result SpecTree SpecFault) → option_map_or (λ (s : ℕ × StepAt). Err (faults.DuplicateStep s.1.name.at)) o r ≡ option_map_or (λ at. Err (faults.DuplicateStep at)) (place_in o) r
by_repeat (Some s) r = refl
by_repeat None r = refl

resolved_same : (f : FileTree) → names_resolved f ≡ known_spec f
resolved_same f =
    let others : Result SpecTree SpecFault = if_ok (each (each (known_entry (steps_of f))) f.perms) (λ perms. Ok (record { setups = f.setups; teardown = f.teardown; sessions = map session_tree f.sessions; perms = perms })) in
    by_repeat (first_repeated (steps_of f)) others ∙ ap (λ (o : Option ℕ). option_map_or (λ at. Err (faults.DuplicateStep at)) o others) (repeat_same [] (steps_of f))

through : (p : Result (FileTree × Rest) SpecFault) → if_ok p (λ x. names_resolved x.0) ≡ if_ok (seen_in p) (λ x. names_resolved x.0)
through (Ok x) = refl
through (Err e) = refl

finished_by : (last : ℕ) (q : Read FileTree) → if_ok (told last q) (λ x. names_resolved x.0) ≡ finished last q
finished_by last (Ok f, rest) = resolved_same f
finished_by last (Err s, rest) = refl

-- what a file says, as it is told and as the code does it
pub reads_as : (last : ℕ) (ts : List (At SpecToken)) → if_ok (new.file_at last ([], ts)) (λ x. names_resolved x.0) ≡ finished last (file_at (start, ts))
reads_as last ts = through (new.file_at last ([], ts)) ∙ ap (λ o. if_ok o (λ x. names_resolved x.0)) (file_same last ([], ts)) ∙ finished_by last (file_at (start, ts))

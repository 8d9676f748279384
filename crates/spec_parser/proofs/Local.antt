-- Where reading stops depends on the tokens up to there alone: the laws of the forms that readings are made of.
use Rattle.std.proofs.Common.{◌≡◌, ◌<◌, ◌≤◌, ◌+◌, arith, length, ℕ, zero, suc, Bool, true, false, cond, List, [], ◌∷◌, ◌++◌, Option, Some, None, Result, Ok, Err, refl, sym, ap, subst, ◌∙◌, append_assoc, length-append}
use Rattle.std.specs.Option.{option_map_or}
use Rattle.std.proofs.lemmas.List.{append-nil}
use Rattle.iso_lexer.specs.declared.token.At.{At}
use Rattle.iso_lexer.specs.SpecTokens.{SpecToken}
use Rattle.spec_parser.specs.declared.fault.What.{What}
use Rattle.spec_parser.specs.declared.fault.Stop.{Stop}
use Rattle.spec_parser.specs.declared.fault.Stop.TheVariants.{Expected, NoticesLeftOut, OverLimit}
use Rattle.spec_parser.specs.Counts.{Counts, past, past_token}
use Rattle.spec_parser.specs.Inner.Stopping.{Rest, Read, and_then, token_at, many_at, all_at, some_at, maybe_at}
use Rattle.spec_parser.specs.Grammar.{Grammar, gives, one, Maybe, left_out, given, Many, none, more, some}
use Rattle.spec_parser.specs.Grammar.{◌>>=◌ as ◌▸◌}
use Rattle.spec_parser.specs.Laws.{head, names_token}

infixl 10 ◌>>=◌
-- what was read, and what is read behind it
abbrev pub ◌>>=◌ : {A B : Type 0} → Read A → (A × Rest → Read B) → Read B
◌>>=◌ read f = and_then read f

-- a token of this kind stands first
abbrev pub first_is : (SpecToken → Bool) → List (At SpecToken) → Bool
first_is p [] = false
first_is p (t ∷ ts) = p t.tok

-- what is read at a token that says this
abbrev pub taken : {A : Type 0} → Option A → What → Counts → At SpecToken → List (At SpecToken) → Read A
taken o w c t ts = option_map_or (λ x. (Ok x, (past_token t.tok c, ts))) o (Err (Expected w), (c, t ∷ ts))

some_none : (t : At SpecToken) → ◌≡◌ {A = Option (At SpecToken)} (Some t) None → ⊥
some_none t e = cc

none_some : (t : At SpecToken) → ◌≡◌ {A = Option (At SpecToken)} None (Some t) → ⊥
none_some t e = cc

some_same : (s t : At SpecToken) → ◌≡◌ {A = Option (At SpecToken)} (Some s) (Some t) → s ≡ t
some_same s t e = cc

-- the first of what follows a front is that of the front, or of the rest
pub head_after : (front xs ys : List (At SpecToken)) → head xs ≡ head ys → head (front ++ xs) ≡ head (front ++ ys)
head_after [] xs ys e = e
head_after (t ∷ front) xs ys e = refl

pub past_twice : (c : Counts) (xs ys : List (At SpecToken)) → past c (xs ++ ys) ≡ past (past c xs) ys
past_twice c [] ys = refl
past_twice c (t ∷ xs) ys = past_twice (past_token t.tok c) xs ys

-- the first of these tokens is one that the stop tells as expected
abbrev pub Wants : Stop → List (At SpecToken) → Type 0
Wants (Expected w) ts = first_is (names_token w) ts ≡ true
Wants NoticesLeftOut ts = Unit {0}
Wants OverLimit ts = Unit {0}

wants_more : (s : Stop) (ts others : List (At SpecToken)) → Wants s ts → Wants s (ts ++ others)
wants_more (Expected w) [] others e = let wrong : ◌≡◌ {A = Bool} false true = e in absurd cc
wants_more (Expected w) (t ∷ ts) others e = e
wants_more NoticesLeftOut ts others e = tt
wants_more OverLimit ts others e = tt

-- what is read is in the grammar; where reading stops, the tokens so far and then what is expected begin something that is
abbrev pub Means : {A : Type 0} → Grammar A → Result A Stop → Counts → List (At SpecToken) → Type 0
Means G (Ok x) c front = G c front x
Means {A} G (Err s) c front = (more : List (At SpecToken)) × (x : A) × G c (front ++ more) x × Wants s more

-- a reading takes the front of the tokens, and answers the same for each list that has this front and the same token behind it
pub record Local {A : Type 0} (G : Grammar A) (p : Rest → Read A) (c : Counts) (ts : List (At SpecToken)) : Type 0 where
  pub out : Result A Stop
  pub front : List (At SpecToken)
  pub rest : List (At SpecToken)
  pub split : ts ≡ front ++ rest
  pub local : (others : List (At SpecToken)) → head others ≡ head rest → p (c, front ++ others) ≡ (out, (past c front, others))
  pub means : Means G out c front

abbrev pub AreLocal : {A : Type 0} → Grammar A → (Rest → Read A) → Type 0
AreLocal G p = (c : Counts) (ts : List (At SpecToken)) → Local G p c ts

-- it is so where this starts
abbrev pub LocalFrom : {A : Type 0} → (Rest → Bool) → Grammar A → (Rest → Read A) → Type 0
LocalFrom starts G p = (c : Counts) (ts : List (At SpecToken)) → starts (c, ts) ≡ true → Local G p c ts

-- it is so where something is read
abbrev pub LocalRead : {A : Type 0} → Grammar A → (Rest → Read A) → Type 0
LocalRead {A} G p = (r after : Rest) (x : A) → p r ≡ (Ok x, after) → Local G p r.0 r.1

pub local_read : {A : Type 0} {G : Grammar A} {p : Rest → Read A} → AreLocal G p → LocalRead G p
local_read local r after x e = local r.0 r.1

-- something is in the grammar
abbrev pub Inhabited : {A : Type 0} → Grammar A → Type 0
Inhabited {A} G = (c : Counts) → (ts : List (At SpecToken)) × (x : A) × G c ts x

-- something is in the grammar, and its first token is one that is told as expected
abbrev pub Begins : {A : Type 0} → What → Grammar A → Type 0
Begins {A} w G = (c : Counts) → Means {A = A} G (Err (Expected w)) c []

pub inhabited : {A : Type 0} (w : What) (G : Grammar A) → Begins w G → Inhabited G
inhabited w G g c = let a = g c in (a.0, a.1, a.2)

pub is_read : {A : Type 0} (G : Grammar A) (p : Rest → Read A) (c : Counts) (ts : List (At SpecToken)) (l : Local G p c ts) → p (c, ts) ≡ (l.out, (past c l.front, l.rest))
is_read G p c ts l = ap (λ (us : List (At SpecToken)). p (c, us)) l.split ∙ l.local l.rest refl

-- what answers at once, whatever comes
pub at_once : {A : Type 0} (G : Grammar A) (out : Result A Stop) (c : Counts) (ts : List (At SpecToken)) → Means G out c [] → Local G (λ r. (out, r)) c ts
at_once G out c ts m = record { out = out; front = []; rest = ts; split = refl; local = λ others e. refl; means = m }

-- ---- one token

fails_there : {A : Type 0} (f : Counts → At SpecToken → Option A) (w : What) (c : Counts) (t : At SpecToken) (others : List (At SpecToken)) → f c t ≡ None → head others ≡ Some t → token_at f w (c, others) ≡ (Err (Expected w), (c, others))
fails_there f w c t [] e h = absurd (none_some t h)
fails_there f w c t (s ∷ others) e h = rw (some_same s t h, e) refl

token_case : {A : Type 0} (f : Counts → At SpecToken → Option A) (w : What) → Begins w (one f) → (c : Counts) (t : At SpecToken) (ts : List (At SpecToken)) (o : Option A) → f c t ≡ o → Local (one f) (token_at f w) c (t ∷ ts)
token_case f w some c t ts (Some x) e = record { out = Ok x; rest = ts; front = t ∷ []; split = refl; local = λ others h. rw e refl; means = (t, refl, e) }
token_case f w some c t ts None e = record { out = Err (Expected w); rest = t ∷ ts; front = []; split = refl; local = λ others h. fails_there f w c t others e h; means = some c }

at_end : {A : Type 0} (f : Counts → At SpecToken → Option A) (w : What) (c : Counts) (others : List (At SpecToken)) → head others ≡ None → token_at f w (c, others) ≡ (Err (Expected w), (c, others))
at_end f w c [] h = refl
at_end f w c (t ∷ others) h = absurd (some_none t h)

pub token_local : {A : Type 0} (f : Counts → At SpecToken → Option A) (w : What) → Begins w (one f) → AreLocal (one f) (token_at f w)
token_local f w some c [] = record { out = Err (Expected w); rest = []; front = []; split = refl; local = λ others h. at_end f w c others h; means = some c }
token_local f w some c (t ∷ ts) = token_case f w some c t ts (f c t) refl

-- a token that says nothing but that it is there
abbrev pub is_there : (SpecToken → Bool) → Counts → At SpecToken → Option (Unit {0})
is_there p c t = cond (p t.tok) (Some tt) None

pub there_local : (p : SpecToken → Bool) (w : What) → LocalFrom (λ r. first_is p r.1) (one (is_there p)) (token_at (is_there p) w)
there_local p w c [] e = let wrong : ◌≡◌ {A = Bool} false true = e in absurd cc
there_local p w c (t ∷ ts) e = record { out = Ok tt; rest = ts; front = t ∷ []; split = refl; local = λ others h. rw e refl; means = (t, refl, rw e refl) }

pub no_value : {A : Type 0} (s : Stop) (x : A) → ◌≡◌ {A = Result A Stop} (Err s) (Ok x) → ⊥
no_value s x e = cc

there_by : (p : SpecToken → Bool) (w : What) (c : Counts) (t : At SpecToken) (ts : List (At SpecToken)) (after : Rest) (u : Unit {0}) (b : Bool) → p t.tok ≡ b → taken (cond b (Some tt) None) w c t ts ≡ (Ok u, after) → p t.tok ≡ true
there_by p w c t ts after u true is e = is
there_by p w c t ts after u false is e = absurd (no_value (Expected w) u (ap (λ (q : Read (Unit {0})). q.0) e))

pub was_there : (p : SpecToken → Bool) (w : What) (r after : Rest) (u : Unit {0}) → token_at (is_there p) w r ≡ (Ok u, after) → first_is p r.1 ≡ true
was_there p w (c, []) after u e = absurd (no_value (Expected w) u (ap (λ (q : Read (Unit {0})). q.0) e))
was_there p w (c, t ∷ ts) after u e = there_by p w c t ts after u (p t.tok) refl e

-- ---- one after another

seq_means : {A B : Type 0} (G : Grammar A) (H : A → Grammar B) (x : A) (c : Counts) (front next : List (At SpecToken)) (out : Result B Stop) → G c front x → Means (H x) out (past c front) next → Means (G ▸ H) out c (front ++ next)
seq_means G H x c front next (Ok z) g h = (x, front, next, refl, g, h)
seq_means G H x c front next (Err s) g h = (h.0, h.1, (x, front, next ++ h.0, append_assoc front next h.0, g, h.2), h.3)

seq_stop : {A B : Type 0} (G : Grammar A) (H : A → Grammar B) (c : Counts) (front : List (At SpecToken)) (s : Stop) → ((x : A) → Inhabited (H x)) → Means {A = A} G (Err s) c front → Means {A = B} (G ▸ H) (Err s) c front
seq_stop G H c front s some g =
    let h = some g.1 (past c (front ++ g.0)) in
    (g.0 ++ h.0, h.1, (g.1, front ++ g.0, h.0, sym (append_assoc front g.0 h.0), g.2, h.2), wants_more s g.0 h.0 g.3)

then_case : {A B : Type 0} (G : Grammar A) (H : A → Grammar B) (p : Rest → Read A) (f : A × Rest → Read B) (c : Counts) (ts : List (At SpecToken)) (out : Result A Stop) (rest front : List (At SpecToken)) → ts ≡ front ++ rest
    → ((others : List (At SpecToken)) → head others ≡ head rest → p (c, front ++ others) ≡ (out, (past c front, others)))
    → Means G out c front → ((x : A) → Inhabited (H x))
    → ((x : A) → AreLocal (H x) (λ r. f (x, r))) → Local (G ▸ H) (λ r. p r >>= f) c ts
then_case G H p f c ts (Err s) rest front split local means some next = record {
  out = Err s;
  rest = rest;
  front = front;
  split = split;
  local = λ others h. ap (λ r. r >>= f) (local others h);
  means = seq_stop G H c front s some means;
}
then_case G H p f c ts (Ok x) rest front split local means some next =
    let n = next x (past c front) rest in
    record {
      out = n.out;
      rest = n.rest;
      front = front ++ n.front;
      split = split ∙ ap (λ (r : List (At SpecToken)). front ++ r) n.split ∙ sym (append_assoc front n.front n.rest);
      local = λ others h.
          let behind : head (n.front ++ others) ≡ head rest = head_after n.front others n.rest h ∙ ap head (sym n.split) in
          ap (λ us. p (c, us) >>= f) (append_assoc front n.front others) ∙ ap (λ r. r >>= f) (local (n.front ++ others) behind) ∙ n.local others h ∙ ap (λ d. (n.out, (d, others))) (sym (past_twice c front n.front));
      means = seq_means G H x c front n.front n.out means n.means;
    }

then_at : {A B : Type 0} {G : Grammar A} {H : A → Grammar B} (p : Rest → Read A) (f : A × Rest → Read B) (c : Counts) (ts : List (At SpecToken)) → Local G p c ts → ((x : A) → Inhabited (H x)) → ((x : A) → AreLocal (H x) (λ r. f (x, r))) → Local (G ▸ H) (λ r. p r >>= f) c ts
then_at {G = G} {H = H} p f c ts l some next = then_case G H p f c ts l.out l.rest l.front l.split l.local l.means some next

pub then : {A B : Type 0} {G : Grammar A} {H : A → Grammar B} (p : Rest → Read A) (f : A × Rest → Read B) → AreLocal G p → ((x : A) → Inhabited (H x)) → ((x : A) → AreLocal (H x) (λ r. f (x, r))) → AreLocal (G ▸ H) (λ r. p r >>= f)
then {G = G} {H = H} p f first some next c ts = then_at {G = G} {H = H} p f c ts (first c ts) some next

pub start_then : {A B : Type 0} {G : Grammar A} {H : A → Grammar B} (starts : Rest → Bool) (p : Rest → Read A) (f : A × Rest → Read B) → LocalFrom starts G p → ((x : A) → Inhabited (H x)) → ((x : A) → AreLocal (H x) (λ r. f (x, r))) → LocalFrom starts (G ▸ H) (λ r. p r >>= f)
start_then {G = G} {H = H} starts p f first some next c ts e = then_at {G = G} {H = H} p f c ts (first c ts e) some next

-- both parts of a reading that gives a value
pub in_two : {A B : Type 0} (q : Read A) (f : A × Rest → Read B) (z : B) (after : Rest) → (q >>= f) ≡ (Ok z, after) → (x : A) × (mid : Rest) × (q ≡ (Ok x, mid)) × (f (x, mid) ≡ (Ok z, after))
in_two (Ok x, mid) f z after e = (x, mid, refl, e)
in_two {B = B} (Err s, mid) f z after e = absurd (no_value s z (ap (λ (r : Read B). r.0) e))

-- a reading that gives a value stands where its first token is
pub was_first : {B : Type 0} (p : SpecToken → Bool) (w : What) (f : Unit {0} × Rest → Read B) (r after : Rest) (z : B) → (token_at (is_there p) w r >>= f) ≡ (Ok z, after) → first_is p r.1 ≡ true
was_first p w f r after z e = let b = in_two (token_at (is_there p) w r) f z after e in was_there p w r b.1 b.0 b.2

pub seq_inhabited : {A B : Type 0} (G : Grammar A) (H : A → Grammar B) → Inhabited G → ((x : A) → Inhabited (H x)) → Inhabited (G ▸ H)
seq_inhabited G H g h c =
    let a = g c in
    let k = h a.1 (past c a.0) in
    (a.0 ++ k.0, k.1, (a.1, a.0, k.0, refl, a.2, k.2))

pub seq_begins : {A B : Type 0} (w : What) (G : Grammar A) (H : A → Grammar B) → Begins w G → ((x : A) → Inhabited (H x)) → Begins w (G ▸ H)
seq_begins w G H g h c = seq_stop G H c [] (Expected w) h (g c)

pub gives_inhabited : {A : Type 0} (v : A) → Inhabited (gives v)
gives_inhabited v c = ([], v, (refl, refl))

pub gives_local : {A : Type 0} (v : A) → AreLocal (gives v) (λ r. (Ok v, r))
gives_local v c ts = at_once (gives v) (Ok v) c ts (refl, refl)

-- ---- a choice by the first token

abbrev pub ByHead : (Rest → Bool) → Type 0
ByHead test = (c d : Counts) (xs ys : List (At SpecToken)) → head xs ≡ head ys → test (c, xs) ≡ test (d, ys)

pub by_head : (p : SpecToken → Bool) → ByHead (λ r. first_is p r.1)
by_head p c d [] [] e = refl
by_head p c d [] (t ∷ ys) e = absurd (none_some t e)
by_head p c d (s ∷ xs) [] e = absurd (some_none s e)
by_head p c d (s ∷ xs) (t ∷ ys) e = ap (λ (u : At SpecToken). p u.tok) (some_same s t e)

choice_true : {A : Type 0} {G : Grammar A} (test : Rest → Bool) (p q : Rest → Read A) (c : Counts) (ts : List (At SpecToken)) → test (c, ts) ≡ true → ByHead test → Local G p c ts → Local G (λ r. cond (test r) (p r) (q r)) c ts
choice_true test p q c ts e heads l = record {
  out = l.out;
  rest = l.rest;
  front = l.front;
  split = l.split;
  means = l.means;
  local = λ others h.
      let same : test (c, l.front ++ others) ≡ true = heads c c (l.front ++ others) ts (head_after l.front others l.rest h ∙ ap head (sym l.split)) ∙ e in
      rw same (l.local others h);
}

choice_false : {A : Type 0} {G : Grammar A} (test : Rest → Bool) (p q : Rest → Read A) (c : Counts) (ts : List (At SpecToken)) → test (c, ts) ≡ false → ByHead test → Local G q c ts → Local G (λ r. cond (test r) (p r) (q r)) c ts
choice_false test p q c ts e heads l = record {
  out = l.out;
  rest = l.rest;
  front = l.front;
  split = l.split;
  means = l.means;
  local = λ others h.
      let same : test (c, l.front ++ others) ≡ false = heads c c (l.front ++ others) ts (head_after l.front others l.rest h ∙ ap head (sym l.split)) ∙ e in
      rw same (l.local others h);
}

choice_case : {A : Type 0} {G : Grammar A} (test : Rest → Bool) (p q : Rest → Read A) (c : Counts) (ts : List (At SpecToken)) (b : Bool) → test (c, ts) ≡ b → ByHead test → (test (c, ts) ≡ true → Local G p c ts) → Local G q c ts → Local G (λ r. cond (test r) (p r) (q r)) c ts
choice_case test p q c ts true e heads lp lq = choice_true test p q c ts e heads (lp e)
choice_case test p q c ts false e heads lp lq = choice_false test p q c ts e heads lq

pub choice : {A : Type 0} {G : Grammar A} (test : Rest → Bool) (p q : Rest → Read A) → ByHead test → LocalFrom test G p → AreLocal G q → AreLocal G (λ r. cond (test r) (p r) (q r))
choice test p q heads lp lq c ts = choice_case test p q c ts (test (c, ts)) refl heads (lp c ts) (lq c ts)

-- ---- what has a wider grammar

abbrev pub Within : {A : Type 0} → Grammar A → Grammar A → Type 0
Within {A} G K = (c : Counts) (ts : List (At SpecToken)) (x : A) → G c ts x → K c ts x

wider_means : {A : Type 0} (G K : Grammar A) (out : Result A Stop) (c : Counts) (front : List (At SpecToken)) → Within G K → Means G out c front → Means K out c front
wider_means G K (Ok x) c front h m = h c front x m
wider_means G K (Err s) c front h m = (m.0, m.1, h c (front ++ m.0) m.1 m.2, m.3)

wider_at : {A : Type 0} {G K : Grammar A} (p : Rest → Read A) (c : Counts) (ts : List (At SpecToken)) → Within G K → Local G p c ts → Local K p c ts
wider_at {G = G} {K = K} p c ts h l = record { out = l.out; rest = l.rest; front = l.front; split = l.split; local = l.local; means = wider_means G K l.out c l.front h l.means }

pub wider : {A : Type 0} {G K : Grammar A} (p : Rest → Read A) → Within G K → AreLocal G p → AreLocal K p
wider {G = G} {K = K} p h first c ts = wider_at {G = G} {K = K} p c ts h (first c ts)

pub start_wider : {A : Type 0} {G K : Grammar A} (starts : Rest → Bool) (p : Rest → Read A) → Within G K → LocalFrom starts G p → LocalFrom starts K p
start_wider {G = G} {K = K} starts p h first c ts e = wider_at {G = G} {K = K} p c ts h (first c ts e)

-- ---- one, if it starts here

abbrev Given : {A : Type 0} → Grammar A → Grammar (Option A)
Given G = G ▸ λ x. gives (Some x)

given_is : {A : Type 0} (G : Grammar A) → Within (Given G) (Maybe G)
given_is G c ts o (x, xs, ys, e, g, (nothing, is)) =
    let whole : ts ≡ xs = e ∙ ap (λ (r : List (At SpecToken)). xs ++ r) nothing ∙ append-nil xs in
    rw (whole, is) (given g)

pub maybe_local : {A : Type 0} (G : Grammar A) (starts : Rest → Bool) (p : Rest → Read A) → ByHead starts → LocalFrom starts G p → AreLocal (Maybe G) (maybe_at starts p)
unfolding maybe_at
maybe_local {A} G starts p heads first = choice {A = Option A} {G = Maybe G} starts (λ r. p r >>= λ one. (Ok (Some one.0), one.1)) (λ r. (Ok None, r)) heads
    (start_wider {G = Given G} {K = Maybe G} starts (λ r. p r >>= λ one. (Ok (Some one.0), one.1)) (given_is G) (start_then {G = G} {H = λ x. gives (Some x)} starts p (λ one. (Ok (Some one.0), one.1)) first (λ x. gives_inhabited (Some x)) (λ x. gives_local (Some x))))
    (λ c ts. at_once (Maybe G) (Ok None) c ts left_out)

pub maybe_inhabited : {A : Type 0} (G : Grammar A) → Inhabited (Maybe G)
maybe_inhabited G c = ([], None, left_out)

-- ---- many

-- whatever is in the grammar has a token
abbrev pub TakesOne : {A : Type 0} → Grammar A → Type 0
TakesOne {A} G = (c : Counts) (ts : List (At SpecToken)) (x : A) → G c ts x → 0 < length ts

abbrev pub StartsSome : (Rest → Bool) → Type 0
StartsSome starts = (c : Counts) → starts (c, []) ≡ false

-- as `Local`, for each number that may be read, if that is no less than there are tokens
pub record LocalMany {A : Type 0} (G : Grammar A) (starts : Rest → Bool) (p : ℕ → ℕ → Rest → Read (List A)) (k : ℕ) (c : Counts) (ts : List (At SpecToken)) : Type 0 where
  pub out : Result (List A) Stop
  pub front : List (At SpecToken)
  pub rest : List (At SpecToken)
  pub split : ts ≡ front ++ rest
  pub local : (others : List (At SpecToken)) (m : ℕ) → length (front ++ others) ≤ m → head others ≡ head rest → p k m (c, front ++ others) ≡ (out, (past c front, others))
  pub means : Means (Many G) out c front
  pub some_means : starts (c, ts) ≡ true → Means (some G) out c front

pub stops_at : {A : Type 0} (starts : Rest → Bool) (item : ℕ → Rest → Read A) (k m : ℕ) (c : Counts) (ts : List (At SpecToken)) → starts (c, ts) ≡ false → many_at starts item k m (c, ts) ≡ (Ok [], (c, ts))
unfolding many_at
stops_at starts item k zero c ts e = refl
stops_at starts item k (suc m) c ts e = rw e refl

abbrev pub goes : {A : Type 0} → (Rest → Bool) → (ℕ → Rest → Read A) → ℕ → ℕ → A × Rest → Read (List A)
goes starts item k m first = many_at starts item (k + 1) m first.1 >>= λ others. (Ok (first.0 ∷ others.0), others.1)

pub goes_on : {A : Type 0} (starts : Rest → Bool) (item : ℕ → Rest → Read A) (k m : ℕ) (c : Counts) (ts : List (At SpecToken)) → starts (c, ts) ≡ true → many_at starts item k (suc m) (c, ts) ≡ (item k (c, ts) >>= goes starts item k m)
unfolding many_at
goes_on starts item k m c ts e = rw e refl

pub no_start : (starts : Rest → Bool) (c : Counts) (ts : List (At SpecToken)) → StartsSome starts → starts (c, ts) ≡ true → 0 < length ts
no_start starts c [] some e = let wrong : ◌≡◌ {A = Bool} true false = sym e ∙ some c in absurd cc
no_start starts c (t ∷ ts) some e = omega arith

pub one_less : (n : ℕ) → 0 < n → (m : ℕ) × (n ≡ suc m)
one_less zero lt = absurd (omega arith)
one_less (suc m) lt = (m, refl)

none_local : {A : Type 0} (G : Grammar A) (starts : Rest → Bool) (item : ℕ → Rest → Read A) → ByHead starts → (k : ℕ) (c : Counts) (ts : List (At SpecToken)) → starts (c, ts) ≡ false → LocalMany G starts (many_at starts item) k c ts
none_local G starts item heads k c ts e = record {
  out = Ok [];
  front = [];
  rest = ts;
  split = refl;
  local = λ others m le h. stops_at starts item k m c others (heads c c others ts h ∙ e);
  means = none;
  some_means = λ h. let wrong : ◌≡◌ {A = Bool} true false = sym h ∙ e in absurd cc;
}

one_many : {A : Type 0} (G : Grammar A) (c : Counts) (ts : List (At SpecToken)) (x : A) → G c ts x → Many G c ts (x ∷ [])
one_many G c ts x g = more ts [] (sym (append-nil ts)) g none

-- the first stops
first_stops : {A : Type 0} (G : Grammar A) (starts : Rest → Bool) (item : ℕ → Rest → Read A) → ByHead starts → StartsSome starts → (k : ℕ) (c : Counts) (ts front rest : List (At SpecToken)) (s : Stop) → starts (c, ts) ≡ true → ts ≡ front ++ rest
    → ((others : List (At SpecToken)) → head others ≡ head rest → item k (c, front ++ others) ≡ (Err s, (past c front, others)))
    → Means {A = A} G (Err s) c front → LocalMany G starts (many_at starts item) k c ts
first_stops {A} G starts item heads nonempty k c ts front rest s e split local means = record {
  out = Err s;
  front = front;
  rest = rest;
  split = split;
  local = λ others m le h.
      let same : starts (c, front ++ others) ≡ true = heads c c (front ++ others) ts (head_after front others rest h ∙ ap head (sym split)) ∙ e in
      let less = one_less m (omega (arith, le, no_start starts c (front ++ others) nonempty same)) in
      ap (λ n. many_at starts item k n (c, front ++ others)) less.1 ∙ goes_on starts item k less.0 c (front ++ others) same ∙ ap (λ (r : Read A). r >>= goes starts item k less.0) (local others h);
  means = (means.0, means.1 ∷ [], one_many G c (front ++ means.0) means.1 means.2, means.3);
  some_means = λ h. (means.0, means.1 ∷ [], (one_many G c (front ++ means.0) means.1 means.2, omega arith), means.3);
}

abbrev joined : {A : Type 0} → A → Result (List A) Stop → Result (List A) Stop
joined x (Ok xs) = Ok (x ∷ xs)
joined x (Err s) = Err s

joins : {A : Type 0} (x : A) (out : Result (List A) Stop) (rest : Rest) → ((out, rest) >>= λ others. (Ok (x ∷ others.0), others.1)) ≡ (joined x out, rest)
joins x (Ok xs) rest = refl
joins x (Err s) rest = refl

some_many : {A : Type 0} (G : Grammar A) → Within (some G) (Many G)
some_many G c ts xs h = h.0

many_means : {A : Type 0} (G : Grammar A) (c : Counts) (front next : List (At SpecToken)) (x : A) (out : Result (List A) Stop) → G c front x → Means (Many G) out (past c front) next → Means (some G) (joined x out) c (front ++ next)
many_means G c front next x (Ok xs) g m = (more front next refl g m, omega arith)
many_means G c front next x (Err s) g m = (m.0, x ∷ m.1, (more front (next ++ m.0) (append_assoc front next m.0) g m.2, omega arith), m.3)

-- the first is read, and then the others
first_read : {A : Type 0} (G : Grammar A) (starts : Rest → Bool) (item : ℕ → Rest → Read A) → ByHead starts → StartsSome starts → TakesOne G → (k : ℕ) (c : Counts) (ts front rest : List (At SpecToken)) (x : A) → starts (c, ts) ≡ true → ts ≡ front ++ rest
    → ((others : List (At SpecToken)) → head others ≡ head rest → item k (c, front ++ others) ≡ (Ok x, (past c front, others)))
    → G c front x → LocalMany G starts (many_at starts item) (k + 1) (past c front) rest → LocalMany G starts (many_at starts item) k c ts
first_read {A} G starts item heads nonempty takes k c ts front rest x e split local g l = record {
  out = joined x l.out;
  front = front ++ l.front;
  rest = l.rest;
  split = split ∙ ap (λ (r : List (At SpecToken)). front ++ r) l.split ∙ sym (append_assoc front l.front l.rest);
  local = λ others m le h.
      let grouped = append_assoc front l.front others in
      let behind : head (l.front ++ others) ≡ head rest = head_after l.front others l.rest h ∙ ap head (sym l.split) in
      let same : starts (c, front ++ (l.front ++ others)) ≡ true = heads c c (front ++ (l.front ++ others)) ts (head_after front (l.front ++ others) rest behind ∙ ap head (sym split)) ∙ e in
      let whole : length (front ++ (l.front ++ others)) ≤ m = subst (λ us. length us ≤ m) grouped le in
      let less = one_less m (omega (arith, whole, no_start starts c (front ++ (l.front ++ others)) nonempty same)) in
      let room : length (l.front ++ others) ≤ less.0 = omega (arith, whole, less.1, takes c front x g, length-append front (l.front ++ others)) in
      ap (λ us. many_at starts item k m (c, us)) grouped ∙ ap (λ n. many_at starts item k n (c, front ++ (l.front ++ others))) less.1
      ∙ goes_on starts item k less.0 c (front ++ (l.front ++ others)) same ∙ ap (λ (r : Read A). r >>= goes starts item k less.0) (local (l.front ++ others) behind)
      ∙ ap (λ (r : Read (List A)). r >>= λ others. (Ok (x ∷ others.0), others.1)) (l.local others less.0 room h) ∙ joins x l.out (past (past c front) l.front, others)
      ∙ ap (λ d. (joined x l.out, (d, others))) (sym (past_twice c front l.front));
  means = wider_means (some G) (Many G) (joined x l.out) c (front ++ l.front) (some_many G) (many_means G c front l.front x l.out g l.means);
  some_means = λ h. many_means G c front l.front x l.out g l.means;
}

many_case : {A : Type 0} (G : Grammar A) (starts : Rest → Bool) (item : ℕ → Rest → Read A) → ByHead starts → StartsSome starts → TakesOne G → (k : ℕ) (c : Counts) (ts front rest : List (At SpecToken)) (out : Result A Stop) → starts (c, ts) ≡ true → ts ≡ front ++ rest
    → ((others : List (At SpecToken)) → head others ≡ head rest → item k (c, front ++ others) ≡ (out, (past c front, others)))
    → Means G out c front → ((d : Counts) → length rest < length ts → LocalMany G starts (many_at starts item) (k + 1) d rest) → LocalMany G starts (many_at starts item) k c ts
many_case G starts item heads nonempty takes k c ts front rest (Err s) e split local means later = first_stops G starts item heads nonempty k c ts front rest s e split local means
many_case G starts item heads nonempty takes k c ts front rest (Ok x) e split local means later =
    let shorter : length rest < length ts = omega (arith, ap (λ (us : List (At SpecToken)). length us) split, length-append front rest, takes c front x means) in
    first_read G starts item heads nonempty takes k c ts front rest x e split local means (later (past c front) shorter)

many_by : {A : Type 0} (G : Grammar A) (starts : Rest → Bool) (item : ℕ → Rest → Read A) → ByHead starts → StartsSome starts → TakesOne G → ((k : ℕ) → LocalFrom starts G (item k)) → (n k : ℕ) (c : Counts) (ts : List (At SpecToken)) (b : Bool) → starts (c, ts) ≡ b → length ts ≤ n → LocalMany G starts (many_at starts item) k c ts
many_by G starts item heads nonempty takes items n k c ts false e le = none_local G starts item heads k c ts e
many_by G starts item heads nonempty takes items zero k c ts true e le = absurd (omega (arith, le, no_start starts c ts nonempty e))
many_by G starts item heads nonempty takes items (suc n) k c ts true e le =
    let l = items k c ts e in
    many_case G starts item heads nonempty takes k c ts l.front l.rest l.out e l.split l.local l.means (λ d lt. many_by G starts item heads nonempty takes items n (k + 1) d l.rest (starts (d, l.rest)) refl (omega (arith, le, lt)))

pub many_local : {A : Type 0} (G : Grammar A) (starts : Rest → Bool) (item : ℕ → Rest → Read A) → ByHead starts → StartsSome starts → TakesOne G → ((k : ℕ) → LocalFrom starts G (item k)) → AreLocal (Many G) (all_at starts item)
unfolding all_at
many_local G starts item heads nonempty takes items c ts =
    let l = many_by G starts item heads nonempty takes items (length ts) 0 c ts (starts (c, ts)) refl (omega arith) in
    record { out = l.out; front = l.front; rest = l.rest; split = l.split; local = λ others h. l.local others (length (l.front ++ others)) (omega arith) h; means = l.means }

pub many_inhabited : {A : Type 0} (G : Grammar A) → Inhabited (Many G)
many_inhabited G c = ([], [], none)

pub some_begins : {A : Type 0} (w : What) (G : Grammar A) → Begins w G → Begins w (some G)
some_begins w G g c = let a = g c in (a.0, a.1 ∷ [], (one_many G c a.0 a.1 a.2, omega arith), a.3)

pub many_begins : {A : Type 0} (w : What) (G : Grammar A) → Begins w G → Begins w (Many G)
many_begins w G g c = wider_means (some G) (Many G) (Err (Expected w)) c [] (some_many G) (some_begins w G g c)

-- so many, and then so many
pub many_twice : {A : Type 0} (G : Grammar A) (c : Counts) (ts us : List (At SpecToken)) (xs ys : List A) → Many G c ts xs → Many G (past c ts) us ys → Many G c (ts ++ us) (xs ++ ys)
many_twice G c ts us xs ys none h = h
many_twice G c ts us (x ∷ xs) ys (more front back e g others) h =
    more front (back ++ us) (ap (λ (vs : List (At SpecToken)). vs ++ us) e ∙ append_assoc front back us) g
    (many_twice G (past c front) back us xs ys others (subst (λ (d : Counts). Many G d us ys) (ap (past c) e ∙ past_twice c front back) h))

some_case : {A : Type 0} (G : Grammar A) (w : What) (starts : Rest → Bool) (item : ℕ → Rest → Read A) → Begins w G → ByHead starts → StartsSome starts → TakesOne G → ((k : ℕ) → LocalFrom starts G (item k)) → (c : Counts) (ts : List (At SpecToken)) (b : Bool) → starts (c, ts) ≡ b → Local (some G) (some_at w starts item) c ts
unfolding some_at all_at
some_case {A} G w starts item begins heads nonempty takes items c ts true e =
    let l = many_by G starts item heads nonempty takes items (length ts) 0 c ts (starts (c, ts)) refl (omega arith) in
    choice_true {A = List A} {G = some G} starts (all_at starts item) (λ r. (Err (Expected w), r)) c ts e heads
    (record { out = l.out; front = l.front; rest = l.rest; split = l.split; local = λ others h. l.local others (length (l.front ++ others)) (omega arith) h; means = l.some_means e })
some_case {A} G w starts item begins heads nonempty takes items c ts false e =
    choice_false {A = List A} {G = some G} starts (all_at starts item) (λ r. (Err (Expected w), r)) c ts e heads (at_once (some G) (Err (Expected w)) c ts (some_begins w G begins c))

pub some_local : {A : Type 0} (G : Grammar A) (w : What) (starts : Rest → Bool) (item : ℕ → Rest → Read A) → Begins w G → ByHead starts → StartsSome starts → TakesOne G → ((k : ℕ) → LocalFrom starts G (item k)) → AreLocal (some G) (some_at w starts item)
some_local G w starts item begins heads nonempty takes items c ts = some_case G w starts item begins heads nonempty takes items c ts (starts (c, ts)) refl

-- ---- a reading that depends on what stands before

pub then_from : {A B : Type 0} {G : Grammar A} {H : A → Grammar B} (starts : Rest → Bool) (p : Rest → Read A) (f : Counts → A × Rest → Read B) → LocalFrom starts G p → ((x : A) → Inhabited (H x)) → ((d : Counts) (x : A) → AreLocal (H x) (λ r. f d (x, r))) → LocalFrom starts (G ▸ H) (λ r. p r >>= f r.0)
then_from {G = G} {H = H} starts p f first some next c ts e =
    let m = then_at {G = G} {H = H} p (f c) c ts (first c ts e) some (next c) in
    record { out = m.out; front = m.front; rest = m.rest; split = m.split; local = λ others h. m.local others h; means = m.means }

-- ---- what is read is shorter

front_takes : {A : Type 0} (G : Grammar A) (c : Counts) (front : List (At SpecToken)) (out : Result A Stop) (x : A) → TakesOne G → out ≡ Ok x → Means G out c front → 0 < length front
front_takes G c front (Ok y) x takes e m = takes c front y m
front_takes G c front (Err s) x takes e m = absurd cc

pub shortens : {A : Type 0} (G : Grammar A) (p : Rest → Read A) → TakesOne G → LocalRead G p → (r after : Rest) (x : A) → p r ≡ (Ok x, after) → length after.1 < length r.1
shortens {A} G p takes local r after x e =
    let l = local r after x e in
    let both = sym (is_read G p r.0 r.1 l) ∙ e in
    let out_is : l.out ≡ Ok x = ap (λ (q : Read A). q.0) both in
    let rest_is : l.rest ≡ after.1 = ap (λ (q : Read A). q.1.1) both in
    omega (arith, ap (λ (us : List (At SpecToken)). length us) rest_is, ap (λ (us : List (At SpecToken)). length us) l.split, length-append l.front l.rest, front_takes G r.0 l.front l.out x takes out_is l.means)

pub first_takes : {A B : Type 0} (f : Counts → At SpecToken → Option A) (H : A → Grammar B) → TakesOne (one f ▸ H)
first_takes f H c ts z (x, xs, ys, e, (t, te, is), h) = omega (arith, ap (λ (us : List (At SpecToken)). length us) e, length-append xs ys, ap (λ (us : List (At SpecToken)). length us) te)

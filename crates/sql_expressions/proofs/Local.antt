-- Where reading stops depends on the tokens up to there alone: the forms that readings are made of.
use Rattle.std.proofs.Common.{◌≡◌, ℕ, ◌+◌, Bool, true, false, List, [], ◌∷◌, ◌++◌, Option, Some, None, refl, sym, ap, subst, ◌∙◌, append_assoc}
use Rattle.std.specs.Prelude.{Result, Ok, Err, nat_lt, if◌then◌else◌}
use Rattle.std.proofs.lemmas.List.{append-nil}
use Rattle.iso_lexer.specs.declared.limits.TheConstants.{MAX_DEPTH}
use Rattle.iso_lexer.specs.declared.token.At.{At}
use Rattle.sql_trees.specs.declared.fault.SqlFault.{SqlFault}
use Rattle.sql_trees.specs.declared.fault.SqlFault.TheVariants.{Syntax, LeftOut, TooDeep}
use Rattle.iso_lexer.specs.declared.sql_token.SqlSign.TheVariants as signs
use Rattle.sql_trees.specs.Tokens.{Token, Tokens, named}
use Rattle.sql_trees.specs.Tokens as tok
use Rattle.sql_expressions.specs.Results.{◌>>=◌}
use Rattle.sql_expressions.specs.Readers.{left_out, expect}
use Rattle.sql_expressions.specs.Reading.{is_call}
use Rattle.sql_expressions.specs.Inner.Pieces.{deeper}
use Rattle.sql_expressions.specs.Readers as reading
use Rattle.sql_expressions.specs.Laws.{head, IsRefusal, Refuses, ended, misplaced, excluded, called}

some_same : (s t : At Token) → ◌≡◌ {A = Option (At Token)} (Some s) (Some t) → s ≡ t
some_same s t e = cc

-- a list with this first token
pub first_is : (t : At Token) (ts : Tokens) → head ts ≡ Some t → (us : Tokens) × (ts ≡ t ∷ us)
first_is t [] e = absurd cc
first_is t (u ∷ us) e = (us, ap (λ (v : At Token). v ∷ us) (some_same u t e))

-- a list without one
pub nothing_is : (ts : Tokens) → head ts ≡ None → ts ≡ []
nothing_is [] e = refl
nothing_is (t ∷ ts) e = absurd cc

-- the first of what follows a front is that of the front, or of the rest
pub head_after : (front xs ys : Tokens) → head xs ≡ head ys → head (front ++ xs) ≡ head (front ++ ys)
head_after [] xs ys e = e
head_after (t ∷ front) xs ys e = refl

-- what is read, in front of other tokens
abbrev pub put : {A Y : Type 0} → (A → Tokens → Y) → Result A SqlFault → Tokens → Result Y SqlFault
put build (Ok v) others = Ok (build v others)
put build (Err e) others = Err e

module _ (last : ℕ) where
  -- behind more tokens the next one is refused in the same way
  pub refuses_behind : (before front rest : Tokens) (e : SqlFault) → Refuses last front rest e → Refuses last (before ++ front) rest e
  refuses_behind before _ _ _ (ended front) = ended (before ++ front)
  refuses_behind before _ _ _ (misplaced front rest t h) = misplaced (before ++ front) rest t h
  refuses_behind before _ _ _ (excluded front rest t h) = excluded (before ++ front) rest t h
  refuses_behind before _ _ _ (called front rest name paren n h g) =
      subst (λ (x : Tokens). Refuses last x (paren ∷ rest) (LeftOut (if is_call name.tok then name.span.start else paren.span.start))) (append_assoc before front (name ∷ [])) (called (before ++ front) rest name paren n h g)

  -- the tokens begin something that is in the grammar, and where they are refused, it is by the next token
  abbrev pub Stops : (Tokens → Type 0) → SqlFault → Tokens → Tokens → Type 0
  Stops G e front rest = (IsRefusal e → Refuses last front rest e) × ((more : Tokens) × G (front ++ more))

  -- what is read is in the grammar, or reading stops
  abbrev pub Means : {A : Type 0} → (Tokens → Type 0) → Result A SqlFault → Tokens → Tokens → Type 0
  Means G (Ok v) front rest = G front
  Means G (Err e) front rest = (IsRefusal e → Refuses last front rest e) × ((more : Tokens) × G (front ++ more))

  -- a reading takes the front of the tokens, and answers the same for each list that has this front and the same token behind it
  pub record Local {A Y : Type 0} (build : A → Tokens → Y) (G : Tokens → Type 0) (p : Tokens → Result Y SqlFault) (ts : Tokens) : Type 0 where
    pub out : Result A SqlFault
    pub front : Tokens
    pub rest : Tokens
    pub split : ts ≡ front ++ rest
    pub local : (others : Tokens) → head others ≡ head rest → p (front ++ others) ≡ put build out others
    pub means : Means G out front rest

  -- something is in the grammar
  abbrev pub Inhabited : (Tokens → Type 0) → Type 0
  Inhabited G = (ts : Tokens) × G ts

  -- ---- what is answered at once

  pub at_once : {A Y : Type 0} (build : A → Tokens → Y) (G : Tokens → Type 0) (p : Tokens → Result Y SqlFault) (out : Result A SqlFault) (ts : Tokens) → ((others : Tokens) → head others ≡ head ts → p others ≡ put build out others) → Means G out [] ts → Local build G p ts
  at_once build G p out ts f m = record { out = out; front = []; rest = ts; split = refl; local = λ others h. f others h; means = m }

  pub at_end : {A Y : Type 0} (build : A → Tokens → Y) (G : Tokens → Type 0) (p : Tokens → Result Y SqlFault) (out : Result A SqlFault) → p [] ≡ put build out [] → Means G out [] [] → Local build G p []
  at_end build G p out e m = at_once build G p out [] (λ others h. subst (λ us. p us ≡ put build out us) (sym (nothing_is others h)) e) m

  pub at_token : {A Y : Type 0} (build : A → Tokens → Y) (G : Tokens → Type 0) (p : Tokens → Result Y SqlFault) (out : Result A SqlFault) (t : At Token) (us : Tokens) → ((vs : Tokens) → p (t ∷ vs) ≡ put build out (t ∷ vs)) → Means G out [] (t ∷ us) → Local build G p (t ∷ us)
  at_token build G p out t us f m = at_once build G p out (t ∷ us) (λ others h. let w = first_is t others h in subst (λ us. p us ≡ put build out us) (sym w.1) (f w.0)) m

  -- too deep, whatever comes
  pub deep_always : {A Y : Type 0} (build : A → Tokens → Y) (G : Tokens → Type 0) (p : Tokens → Result Y SqlFault) (q : ℕ) (ts : Tokens) → Inhabited G → ((others : Tokens) → p others ≡ Err (TooDeep q)) → Local build G p ts
  deep_always build G p q ts g f = at_once build G p (Err (TooDeep q)) ts (λ others h. f others) (λ r. absurd r, g)

  pub deep_at : {A Y : Type 0} (build : A → Tokens → Y) (G : Tokens → Type 0) (p : Tokens → Result Y SqlFault) (q : ℕ) (t : At Token) (us : Tokens) → Inhabited G → ((vs : Tokens) → p (t ∷ vs) ≡ Err (TooDeep q)) → Local build G p (t ∷ us)
  deep_at build G p q t us g f = at_token build G p (Err (TooDeep q)) t us f (λ r. absurd r, g)

  -- a call behind a name
  pub called_at : {A Y : Type 0} (build : A → Tokens → Y) (G : Tokens → Type 0) (p : Tokens → Result Y SqlFault) (t u : At Token) (us : Tokens) (n : List ℕ) → named t.tok ≡ Some n → u.tok ≡ tok.sign signs.Open → G (t ∷ []) → ((vs : Tokens) → p (t ∷ u ∷ vs) ≡ Err (LeftOut (if is_call t.tok then t.span.start else u.span.start))) → Local build G p (t ∷ u ∷ us)
  called_at build G p t u us n h o g f = record {
    out = Err (LeftOut (if is_call t.tok then t.span.start else u.span.start));
    front = t ∷ [];
    rest = u ∷ us;
    split = refl;
    local = λ others e. let w = first_is u others e in subst (λ vs. p (t ∷ vs) ≡ Err (LeftOut (if is_call t.tok then t.span.start else u.span.start))) (sym w.1) (f w.0);
    means = (λ r. called [] us t u n h o, ([], g));
  }

  -- what is said of a next token that no rule allows
  misplaced_refuses : (t : At Token) (us : Tokens) → Refuses last [] (t ∷ us) (reading.misplaced last (t ∷ us))
  misplaced_refuses t us = of_test (left_out t.tok) refl
    where
      of_test : (b : Bool) → left_out t.tok ≡ b → Refuses last [] (t ∷ us) (reading.misplaced last (t ∷ us))
      of_test true h = rw h (excluded [] us t h)
      of_test false h = rw h (misplaced [] us t h)

  pub stuck_end : {A Y : Type 0} (build : A → Tokens → Y) (G : Tokens → Type 0) (p : Tokens → Result Y SqlFault) → Inhabited G → p [] ≡ Err (Syntax last) → Local build G p []
  stuck_end build G p g e = at_end build G p (Err (Syntax last)) e (λ r. ended [], g)

  pub stuck_at : {A Y : Type 0} (build : A → Tokens → Y) (G : Tokens → Type 0) (p : Tokens → Result Y SqlFault) (t : At Token) (us : Tokens) → Inhabited G → ((vs : Tokens) → p (t ∷ vs) ≡ Err (reading.misplaced last (t ∷ vs))) → Local build G p (t ∷ us)
  stuck_at build G p t us g f = at_token build G p (Err (reading.misplaced last (t ∷ us))) t us f (λ r. misplaced_refuses t us, g)

  means_up : {A : Type 0} (G K : Tokens → Type 0) (out : Result A SqlFault) (xs ys rest : Tokens) → ((e : SqlFault) → Refuses last xs rest e → Refuses last ys rest e) → (G xs → K ys) → ((more : Tokens) → G (xs ++ more) → K (ys ++ more)) → Means G out xs rest → Means K out ys rest
  means_up G K (Ok v) xs ys rest told up ups m = up m
  means_up G K (Err e) xs ys rest told up ups m = (λ r. told e (m.0 r), (m.1.0, ups m.1.0 m.1.1))

  -- ---- a reading as another one

  pub same_at : {A Y : Type 0} {build : A → Tokens → Y} (G K : Tokens → Type 0) (p q : Tokens → Result Y SqlFault) (ts : Tokens) → ((xs : Tokens) → G xs → K xs) → ((us : Tokens) → head us ≡ head ts → q us ≡ p us) → Local build G p ts → Local build K q ts
  same_at {build = build} G K p q ts up same l = record {
    out = l.out;
    front = l.front;
    rest = l.rest;
    split = l.split;
    local = λ others h. same (l.front ++ others) (head_after l.front others l.rest h ∙ ap head (sym l.split)) ∙ l.local others h;
    means = means_up G K l.out l.front l.front l.rest (λ e r. r) (up l.front) (λ more. up (l.front ++ more)) l.means;
  }

  -- behind a first token
  pub behind : {A Y : Type 0} {build : A → Tokens → Y} (G K : Tokens → Type 0) (p q : Tokens → Result Y SqlFault) (t : At Token) (us : Tokens) → ((xs : Tokens) → G xs → K (t ∷ xs)) → ((vs : Tokens) → q (t ∷ vs) ≡ p vs) → Local build G p us → Local build K q (t ∷ us)
  behind G K p q t us up same l = record {
    out = l.out;
    front = t ∷ l.front;
    rest = l.rest;
    split = ap (λ (r : Tokens). t ∷ r) l.split;
    local = λ others h. same (l.front ++ others) ∙ l.local others h;
    means = means_up G K l.out l.front (t ∷ l.front) l.rest (refuses_behind (t ∷ []) l.front l.rest) (up l.front) (λ more. up (l.front ++ more)) l.means;
  }

  -- ---- one after another

  seq_means : {B : Type 0} (G H K : Tokens → Type 0) (front next rest : Tokens) (out : Result B SqlFault) → ((xs ys : Tokens) → G xs → H ys → K (xs ++ ys)) → G front → Means H out next rest → Means K out (front ++ next) rest
  seq_means G H K front next rest (Ok w) join g m = join front next g m
  seq_means G H K front next rest (Err e) join g m =
      (λ r. refuses_behind front next rest e (m.0 r), (m.1.0, subst K (sym (append_assoc front next m.1.0)) (join front (next ++ m.1.0) g m.1.1)))

  seq_stop : (G H K : Tokens → Type 0) (front rest : Tokens) (e : SqlFault) → Inhabited H → ((xs ys : Tokens) → G xs → H ys → K (xs ++ ys)) → Stops G e front rest → Stops K e front rest
  seq_stop G H K front rest e some join m = (m.0, (m.1.0 ++ some.0, subst K (append_assoc front m.1.0 some.0) (join (front ++ m.1.0) some.0 m.1.1 some.1)))

  seq_case : {A B Y Z : Type 0} (build : A → Tokens → Y) (make : B → Tokens → Z) (G H K : Tokens → Type 0) (p : Tokens → Result Y SqlFault) (k : Y → Result Z SqlFault) (ts : Tokens) (out : Result A SqlFault) (front rest : Tokens) → ts ≡ front ++ rest
      → ((others : Tokens) → head others ≡ head rest → p (front ++ others) ≡ put build out others) → Means G out front rest
      → Inhabited H → ((xs ys : Tokens) → G xs → H ys → K (xs ++ ys)) → ((v : A) → out ≡ Ok v → Local make H (λ r. k (build v r)) rest) → Local make K (λ r. p r >>= k) ts
  seq_case build make G H K p k ts (Err e) front rest split local means some join next = record {
    out = Err e;
    front = front;
    rest = rest;
    split = split;
    local = λ others h. ap (λ r. r >>= k) (local others h);
    means = seq_stop G H K front rest e some join means;
  }
  seq_case build make G H K p k ts (Ok v) front rest split local means some join next =
      let n = next v refl in
      record {
        out = n.out;
        front = front ++ n.front;
        rest = n.rest;
        split = split ∙ ap (λ (r : Tokens). front ++ r) n.split ∙ sym (append_assoc front n.front n.rest);
        local = λ others h.
            let after : head (n.front ++ others) ≡ head rest = head_after n.front others n.rest h ∙ ap head (sym n.split) in
            ap (λ (us : Tokens). p us >>= k) (append_assoc front n.front others) ∙ ap (λ r. r >>= k) (local (n.front ++ others) after) ∙ n.local others h;
        means = seq_means G H K front n.front n.rest n.out join means n.means;
      }

  pub in_turn : {A B Y Z : Type 0} {build : A → Tokens → Y} {make : B → Tokens → Z} (G H K : Tokens → Type 0) (p : Tokens → Result Y SqlFault) (k : Y → Result Z SqlFault) (ts : Tokens) → Inhabited H → ((xs ys : Tokens) → G xs → H ys → K (xs ++ ys)) → (l : Local build G p ts) → ((v : A) → l.out ≡ Ok v → Local make H (λ r. k (build v r)) l.rest) → Local make K (λ r. p r >>= k) ts
  in_turn {build = build} {make = make} G H K p k ts some join l next = seq_case build make G H K p k ts l.out l.front l.rest l.split l.local l.means some join next

  -- what is answered by the whole list
  pub is_read : {A Y : Type 0} {build : A → Tokens → Y} (G : Tokens → Type 0) (p : Tokens → Result Y SqlFault) (ts : Tokens) (l : Local build G p ts) → p ts ≡ put build l.out l.rest
  is_read G p ts l = ap p l.split ∙ l.local l.rest refl

  -- ---- the same reading, where the first token decides

  pub switch_at : {A Y : Type 0} {build : A → Tokens → Y} (G K : Tokens → Type 0) (p q : Tokens → Result Y SqlFault) (t : At Token) (us : Tokens) → ((xs : Tokens) → G xs → K xs) → ((vs : Tokens) → q (t ∷ vs) ≡ p (t ∷ vs)) → Local build G p (t ∷ us) → Local build K q (t ∷ us)
  switch_at G K p q t us up same l = same_at G K p q (t ∷ us) up (λ ws h. let w = first_is t ws h in subst (λ xs. q xs ≡ p xs) (sym w.1) (same w.0)) l

  pub switch_end : {A Y : Type 0} {build : A → Tokens → Y} (G K : Tokens → Type 0) (p q : Tokens → Result Y SqlFault) → ((xs : Tokens) → G xs → K xs) → q [] ≡ p [] → Local build G p [] → Local build K q []
  switch_end G K p q up same l = same_at G K p q [] up (λ ws h. subst (λ xs. q xs ≡ p xs) (sym (nothing_is ws h)) same) l

  -- ---- what takes no token

  abbrev pub Nothing : Tokens → Type 0
  Nothing ts = ts ≡ []

  nothing_more : (G : Tokens → Type 0) (xs ys : Tokens) → G xs → Nothing ys → G (xs ++ ys)
  nothing_more G xs ys g e = rw (e, append-nil) g

  pub gives : {A Y : Type 0} (build : A → Tokens → Y) (G : Tokens → Type 0) (v : A) (ts : Tokens) → G [] → Local build G (λ r. Ok (build v r)) ts
  gives build G v ts g = at_once build G (λ r. Ok (build v r)) (Ok v) ts (λ others h. refl) g

  too_deep : (place d : ℕ) → nat_lt d MAX_DEPTH ≡ false → deeper place d ≡ Err (TooDeep place)
  too_deep place d h = rw h refl

  deep_enough : (place d : ℕ) → nat_lt d MAX_DEPTH ≡ true → deeper place d ≡ Ok (d + 1)
  deep_enough place d h = rw h refl

  some_of : {A : Type 0} (G : Tokens → Type 0) (out : Result A SqlFault) (front rest : Tokens) → Means G out front rest → Inhabited G
  some_of G (Ok v) front rest m = (front, m)
  some_of G (Err e) front rest m = (front ++ m.1.0, m.1.1)

  -- what is read is the beginning of something
  inhabited : {A Y : Type 0} {build : A → Tokens → Y} {p : Tokens → Result Y SqlFault} {ts : Tokens} (G : Tokens → Type 0) → Local build G p ts → Inhabited G
  inhabited G l = some_of G l.out l.front l.rest l.means

  -- a test of the depth, and what follows it
  pub deeper_then : {B Z : Type 0} (make : B → Tokens → Z) (G : Tokens → Type 0) (place d : ℕ) (k : ℕ → Tokens → Result Z SqlFault) (p : Tokens → Result Z SqlFault) (ts : Tokens) → ((others : Tokens) → p others ≡ (deeper place d >>= λ x. k x others)) → Local make G (k (d + 1)) ts → Local make G p ts
  deeper_then make G place d k p ts same l = of_test (nat_lt d MAX_DEPTH) refl
    where
      of_test : (b : Bool) → nat_lt d MAX_DEPTH ≡ b → Local make G p ts
      of_test true h = same_at G G (k (d + 1)) p ts (λ xs g. g) (λ us e. same us ∙ ap (λ r. r >>= λ x. k x us) (deep_enough place d h)) l
      of_test false h = deep_always make G p place ts (inhabited G l) (λ us. same us ∙ ap (λ r. r >>= λ x. k x us) (too_deep place d h))

  -- what was read becomes something else
  pub mapped : {A B Y Z : Type 0} {build : A → Tokens → Y} (make : B → Tokens → Z) (G : Tokens → Type 0) (p : Tokens → Result Y SqlFault) (k : Y → Result Z SqlFault) (g : A → B) (ts : Tokens) → ((v : A) (r : Tokens) → k (build v r) ≡ Ok (make (g v) r)) → Local build G p ts → Local make G (λ r. p r >>= k) ts
  mapped {build = build} make G p k g ts same l = in_turn G Nothing G p k ts ([], refl) (λ xs ys a b. nothing_more G xs ys a b) l (λ v is. at_once make Nothing (λ r. k (build v r)) (Ok (g v)) l.rest (λ us h. same v us) refl)

  -- and is tested for its depth
  pub checked : {A B Y Z : Type 0} {build : A → Tokens → Y} (make : B → Tokens → Z) (G : Tokens → Type 0) (p : Tokens → Result Y SqlFault) (k : Y → Result Z SqlFault) (place : ℕ) (depth : A → ℕ) (g : A → ℕ → B) (ts : Tokens) → ((v : A) (r : Tokens) → k (build v r) ≡ (deeper place (depth v) >>= λ x. Ok (make (g v x) r))) → Local build G p ts → Local make G (λ r. p r >>= k) ts
  checked {build = build} make G p k place depth g ts same l = in_turn G Nothing G p k ts ([], refl) (λ xs ys a b. nothing_more G xs ys a b) l (λ v is. deeper_then make Nothing place (depth v) (λ x r. Ok (make (g v x) r)) (λ r. k (build v r)) l.rest (λ us. same v us) (gives make Nothing (g v (depth v + 1)) l.rest refl))

  -- ---- one token of a kind

  abbrev pub One : (Token → Bool) → Tokens → Type 0
  One is_it ts = (t : At Token) × (ts ≡ t ∷ []) × (is_it t.tok ≡ true)

  abbrev pub only_rest : Unit {0} → Tokens → Tokens
  only_rest u r = r

  pub expect_local : (is_it : Token → Bool) → Inhabited (One is_it) → (ts : Tokens) → Local only_rest (One is_it) (expect last is_it) ts
  expect_local is_it some [] = stuck_end only_rest (One is_it) (expect last is_it) some refl
  expect_local is_it some (t ∷ us) = of_test (is_it t.tok) refl
    where
      of_test : (b : Bool) → is_it t.tok ≡ b → Local only_rest (One is_it) (expect last is_it) (t ∷ us)
      of_test true h = behind Nothing (One is_it) (λ r. Ok r) (expect last is_it) t us (λ xs e. (t, ap (λ (r : Tokens). t ∷ r) e, h)) (λ vs. rw h refl) (gives only_rest Nothing tt us refl)
      of_test false h = stuck_at only_rest (One is_it) (expect last is_it) t us some (λ vs. rw h refl)

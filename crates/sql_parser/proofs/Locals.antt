-- Where reading stops depends on the tokens up to there alone: the forms that readings of statements are made of.
use Rattle.std.proofs.Common.{◌≡◌, ℕ, zero, suc, ◌≤◌, Bool, true, false, List, [], ◌∷◌, ◌++◌, length, Option, Some, None, refl, sym, ap, subst, ◌∙◌, append_assoc, append-nil, length-append, arith}
use Rattle.std.specs.Prelude.{Result, Ok, Err}
use Rattle.std.specs.Option.{option_map_or}
use Rattle.iso_lexer.specs.declared.token.At.{At}
use Rattle.iso_lexer.specs.declared.sql_token.SqlSign.TheVariants as signs
use Rattle.sql_trees.specs.declared.fault.SqlFault.{SqlFault}
use Rattle.sql_trees.specs.declared.fault.SqlFault.TheVariants.{Syntax, LeftOut, TooDeep}
use Rattle.sql_trees.specs.Tokens.{Token, Tokens, named}
use Rattle.sql_trees.specs.Trees.{Tree}
use Rattle.sql_expressions.specs.Results.{◌>>=◌}
use Rattle.sql_expressions.specs.Readers.{misplaced, place_of, expect, is_sign, after, Reader, name_at, more_at, items_at}
use Rattle.sql_expressions.specs.Laws.{head}
use Rattle.sql_expressions.proofs.Local.{first_is, nothing_is, head_after}
use Rattle.sql_parser.specs.Grammar.{Is, Names, NameIs, is_name, Commas, last_item, next_item}
use Rattle.sql_parser.specs.Stops.{Refuses, IsLeftOutBehind, at_next, at_word, at_conflict, at_name, at_row, in_expression, too_deep}

-- something is in the grammar
abbrev pub Inhabited : {A : Type 0} → (Tokens → A → Type 0) → Type 0
Inhabited Q = (ys : Tokens) × (w : _) × Q ys w

-- something that is in the grammar begins with these tokens
abbrev pub Begins : {A : Type 0} → (Tokens → A → Type 0) → Tokens → Type 0
Begins Q front = Inhabited (λ ys w. Q (front ++ ys) w)

module _ (last : ℕ) (E : Tokens → Tree → Type 0) (W : Type 0) (G H : Tokens → Type 0) (fs : Tokens) (go : (xs : Tokens) → G xs → H (fs ++ xs)) where
  pub stands_behind : (front rest : Tokens) (f : SqlFault) → Refuses last E W G front rest f → Refuses last E W H (fs ++ front) rest f
  stands_behind _ _ _ (at_next front rest) = at_next (fs ++ front) rest
  stands_behind _ _ _ (at_word front rest t w h) = at_word (fs ++ front) rest t w h
  stands_behind _ _ _ (at_conflict front rest b t h) = subst (λ x. Refuses last E W H x (t ∷ rest) (LeftOut t.span.start)) (append_assoc fs front (b ∷ [])) (at_conflict (fs ++ front) rest b t h)
  stands_behind _ _ _ (at_name front rest t n h g) = at_name (fs ++ front) rest t n h (subst H (sym (append_assoc fs front (t ∷ []))) (go (front ++ t ∷ []) g))
  stands_behind _ _ _ (at_row before row rest es r) = subst (λ x. Refuses last E W H x rest (Syntax (place_of last row))) (append_assoc fs before row) (at_row (fs ++ before) row rest es r)
  stands_behind _ _ _ (in_expression before here rest f r) = subst (λ x. Refuses last E W H x rest f) (append_assoc fs before here) (in_expression (fs ++ before) here rest f r)
  stands_behind _ _ _ (too_deep before here rest place m) = subst (λ x. Refuses last E W H x rest (TooDeep place)) (append_assoc fs before here) (too_deep (fs ++ before) here rest place m)

-- a reading that answers, and what follows it
answers_on : {A B : Type 0} (p : Reader A) (k : A → Reader B) (ts us : Tokens) (v : A) (r : Result (B × Tokens) SqlFault) → p ts ≡ Ok (v, us) → k v us ≡ r → (p ts >>= λ x. k x.0 x.1) ≡ r
answers_on p k ts us v r h e = ap (λ (x : Result _ SqlFault). x >>= λ y. k y.0 y.1) h ∙ e

module _ (last : ℕ) (E : Tokens → Tree → Type 0) (W Any : Type 0) where
  -- the tokens before the fault begin something that is in the grammar, and the fault stands where they end
  pub record Begun {A : Type 0} (Q : Tokens → A → Type 0) (e : SqlFault) (front rest : Tokens) : Type 0 where
    pub begins : Begins Q front
    pub stands : Refuses last E W (Begins Q) front rest e

  -- a reading takes the front of the tokens, and answers the same for each list that has this front and the same token behind it
  pub data Local {A : Type 0} (Q : Tokens → A → Type 0) (p : Reader A) (ts : Tokens) : Type 0 where
    took : (v : A) (front rest : Tokens) → ts ≡ front ++ rest → ((others : Tokens) → head others ≡ head rest → p (front ++ others) ≡ Ok (v, others)) → Q front v → Local Q p ts
    stopped : (e : SqlFault) (front rest : Tokens) → ts ≡ front ++ rest → ((others : Tokens) → head others ≡ head rest → p (front ++ others) ≡ Err e) → (Any → Begun Q e front rest) → Local Q p ts

  -- ---- what is answered at once

  pub gives : {A : Type 0} (Q : Tokens → A → Type 0) (v : A) (ts : Tokens) → Q [] v → Local Q (λ r. Ok (v, r)) ts
  gives Q v ts q = took v [] ts refl (λ others h. refl) q

  pub gives_at : {A : Type 0} (Q : Tokens → A → Type 0) (p : Reader A) (v : A) (t : At Token) (us : Tokens) → ((vs : Tokens) → p (t ∷ vs) ≡ Ok (v, t ∷ vs)) → Q [] v → Local Q p (t ∷ us)
  gives_at Q p v t us f q = took v [] (t ∷ us) refl (λ others h. let w = first_is t others h in subst (λ vs. p vs ≡ Ok (v, vs)) (sym w.1) (f w.0)) q

  pub gives_end : {A : Type 0} (Q : Tokens → A → Type 0) (p : Reader A) (v : A) → p [] ≡ Ok (v, []) → Q [] v → Local Q p []
  gives_end Q p v f q = took v [] [] refl (λ others h. subst (λ vs. p vs ≡ Ok (v, vs)) (sym (nothing_is others h)) f) q

  -- a fault at the next token
  pub stuck_at : {A : Type 0} (Q : Tokens → A → Type 0) (p : Reader A) (e : SqlFault) (t : At Token) (us : Tokens) → Inhabited Q → (Any → Refuses last E W (Begins Q) [] (t ∷ us) e) → ((vs : Tokens) → p (t ∷ vs) ≡ Err e) → Local Q p (t ∷ us)
  stuck_at Q p e t us some h f = stopped e [] (t ∷ us) refl (λ others g. let w = first_is t others g in subst (λ vs. p vs ≡ Err e) (sym w.1) (f w.0)) (λ any. record { begins = some; stands = h any })

  pub stuck_end : {A : Type 0} (Q : Tokens → A → Type 0) (p : Reader A) (e : SqlFault) → Inhabited Q → Refuses last E W (Begins Q) [] [] e → p [] ≡ Err e → Local Q p []
  stuck_end Q p e some h f = stopped e [] [] refl (λ others g. subst (λ vs. p vs ≡ Err e) (sym (nothing_is others g)) f) (λ any. record { begins = some; stands = h })

  -- the same where the fault is the one of a token that no rule allows
  pub no_rule_at : {A : Type 0} (Q : Tokens → A → Type 0) (p : Reader A) (t : At Token) (us : Tokens) → Inhabited Q → ((vs : Tokens) → p (t ∷ vs) ≡ Err (misplaced last (t ∷ vs))) → Local Q p (t ∷ us)
  no_rule_at Q p t us some f = stuck_at Q p (misplaced last (t ∷ us)) t us some (λ any. at_next [] (t ∷ us)) f

  pub no_rule_end : {A : Type 0} (Q : Tokens → A → Type 0) (p : Reader A) → Inhabited Q → p [] ≡ Err (misplaced last []) → Local Q p []
  no_rule_end Q p some f = stuck_end Q p (misplaced last []) some (at_next [] []) f

  -- the same behind a token of ON CONFLICT, where the next one is left out
  pub left_out_at : {A : Type 0} (Q : Tokens → A → Type 0) (p : Reader A) (b t : At Token) (us : Tokens) → Inhabited (λ xs w. Q (b ∷ xs) w) → IsLeftOutBehind b t → ((vs : Tokens) → p (b ∷ t ∷ vs) ≡ Err (LeftOut t.span.start)) → Local Q p (b ∷ t ∷ us)
  left_out_at Q p b t us some h f = stopped (LeftOut t.span.start) (b ∷ []) (t ∷ us) refl (λ others g. let w = first_is t others g in subst (λ vs. p (b ∷ vs) ≡ Err (LeftOut t.span.start)) (sym w.1) (f w.0)) (λ any. record { begins = some; stands = at_conflict [] us b t h })

  -- ---- a reading as another one

  pub begun_as : {A B : Type 0} (Q : Tokens → A → Type 0) (K : Tokens → B → Type 0) (e : SqlFault) (fs front rest : Tokens) → ((xs : Tokens) → Begins Q xs → Begins K (fs ++ xs)) → Begun Q e front rest → Begun K e (fs ++ front) rest
  begun_as Q K e fs front rest go b = record {
    begins = go front b.begins;
    stands = stands_behind last E W (Begins Q) (Begins K) fs go front rest e b.stands;
  }

  begun_behind : {A : Type 0} (Q : Tokens → A → Type 0) (e : SqlFault) (fs front rest : Tokens) → Begun (λ xs v. Q (fs ++ xs) v) e front rest → Begun Q e (fs ++ front) rest
  begun_behind Q e fs front rest b = begun_as (λ xs v. Q (fs ++ xs) v) Q e fs front rest (λ xs g. (g.0, g.1, subst (λ ys. Q ys g.1) (sym (append_assoc fs xs g.0)) g.2)) b

  -- the grammar has something, whatever is read
  pub goes_on : {A : Type 0} (Q : Tokens → A → Type 0) (p : Reader A) (ts : Tokens) → Any → Local Q p ts → Inhabited Q
  goes_on Q p ts any (took v front rest split local q) = (front, v, q)
  goes_on Q p ts any (stopped e front rest split local b) = let g = (b any).begins in (front ++ g.0, g.1, g.2)

  -- behind a first token
  pub behind : {A : Type 0} (Q : Tokens → A → Type 0) (p q : Reader A) (t : At Token) (us : Tokens) → ((vs : Tokens) → q (t ∷ vs) ≡ p vs) → Local (λ xs v. Q (t ∷ xs) v) p us → Local Q q (t ∷ us)
  behind Q p q t us same (took v front rest split local k) = took v (t ∷ front) rest (ap (λ (r : Tokens). t ∷ r) split) (λ others h. same (front ++ others) ∙ local others h) k
  behind Q p q t us same (stopped e front rest split local k) = stopped e (t ∷ front) rest (ap (λ (r : Tokens). t ∷ r) split) (λ others h. same (front ++ others) ∙ local others h) (λ any. begun_behind Q e (t ∷ []) front rest (k any))

  -- with another grammar, where the first token decides
  pub same_at : {A : Type 0} (Q K : Tokens → A → Type 0) (p q : Reader A) (ts : Tokens) → ((xs : Tokens) (v : A) → Q xs v → K xs v) → ((us : Tokens) → head us ≡ head ts → q us ≡ p us) → Local Q p ts → Local K q ts
  same_at Q K p q ts up same (took v front rest split local k) = took v front rest split (λ others h. same (front ++ others) (head_after front others rest h ∙ ap head (sym split)) ∙ local others h) (up front v k)
  same_at Q K p q ts up same (stopped e front rest split local k) = stopped e front rest split (λ others h. same (front ++ others) (head_after front others rest h ∙ ap head (sym split)) ∙ local others h) (λ any. begun_as Q K e [] front rest (λ xs g. (g.0, g.1, up (xs ++ g.0) g.1 g.2)) (k any))

  pub switch_at : {A : Type 0} (Q : Tokens → A → Type 0) (p q : Reader A) (t : At Token) (us : Tokens) → ((vs : Tokens) → q (t ∷ vs) ≡ p (t ∷ vs)) → Local Q p (t ∷ us) → Local Q q (t ∷ us)
  switch_at Q p q t us same l = same_at Q Q p q (t ∷ us) (λ xs v k. k) (λ ws h. let w = first_is t ws h in subst (λ xs. q xs ≡ p xs) (sym w.1) (same w.0)) l

  pub switch_end : {A : Type 0} (Q : Tokens → A → Type 0) (p q : Reader A) → q [] ≡ p [] → Local Q p [] → Local Q q []
  switch_end Q p q same l = same_at Q Q p q [] (λ xs v k. k) (λ ws h. subst (λ xs. q xs ≡ p xs) (sym (nothing_is ws h)) same) l

  -- ---- one after another

  turn_next : {A B : Type 0} (K : Tokens → B → Type 0) (p : Reader A) (k : A → Reader B) (ts front rest : Tokens) (v : A) → ts ≡ front ++ rest → ((others : Tokens) → head others ≡ head rest → p (front ++ others) ≡ Ok (v, others)) → Local (λ ys w. K (front ++ ys) w) (k v) rest → Local K (λ r. p r >>= λ x. k x.0 x.1) ts
  turn_next K p k ts front rest v split local (took w mid end split' local' q) =
      took w (front ++ mid) end (split ∙ ap (λ (r : Tokens). front ++ r) split' ∙ sym (append_assoc front mid end))
      (λ others h. ap (λ (us : Tokens). p us >>= λ x. k x.0 x.1) (append_assoc front mid others) ∙ answers_on p k (front ++ (mid ++ others)) (mid ++ others) v (Ok (w, others)) (local (mid ++ others) (head_after mid others end h ∙ ap head (sym split'))) (local' others h)) q
  turn_next K p k ts front rest v split local (stopped e mid end split' local' b) =
      stopped e (front ++ mid) end (split ∙ ap (λ (r : Tokens). front ++ r) split' ∙ sym (append_assoc front mid end))
      (λ others h. ap (λ (us : Tokens). p us >>= λ x. k x.0 x.1) (append_assoc front mid others) ∙ answers_on p k (front ++ (mid ++ others)) (mid ++ others) v (Err e) (local (mid ++ others) (head_after mid others end h ∙ ap head (sym split'))) (local' others h))
      (λ any. begun_behind K e front mid end (b any))

  pub in_turn : {A B : Type 0} (Q : Tokens → A → Type 0) (K : Tokens → B → Type 0) (p : Reader A) (k : A → Reader B) (ts : Tokens) → ((xs : Tokens) (v : A) → Q xs v → Inhabited (λ ys w. K (xs ++ ys) w)) → Local Q p ts → ((v : A) (xs rest : Tokens) → ts ≡ xs ++ rest → Q xs v → Local (λ ys w. K (xs ++ ys) w) (k v) rest) → Local K (λ r. p r >>= λ x. k x.0 x.1) ts
  in_turn Q K p k ts some (took v front rest split local q) next = turn_next K p k ts front rest v split local (next v front rest split q)
  in_turn Q K p k ts some (stopped e front rest split local b) next = stopped e front rest split (λ others h. ap (λ (x : Result _ SqlFault). x >>= λ y. k y.0 y.1) (local others h)) (λ any. begun_as Q K e [] front rest (λ xs g. let s = some (xs ++ g.0) g.1 g.2 in (g.0 ++ s.0, s.1, subst (λ ys. K ys s.1) (append_assoc xs g.0 s.0) s.2)) (b any))

  -- what was read becomes something else
  pub mapped : {A B : Type 0} (Q : Tokens → A → Type 0) (K : Tokens → B → Type 0) (p : Reader A) (g : A → B) (ts : Tokens) → ((xs : Tokens) (v : A) → Q xs v → K xs (g v)) → Local Q p ts → Local K (λ r. p r >>= λ x. Ok (g x.0, x.1)) ts
  mapped Q K p g ts up l = in_turn Q K p (λ v r. Ok (g v, r)) ts (λ xs v q. ([], g v, subst (λ ys. K ys (g v)) (sym (append-nil xs)) (up xs v q))) l (λ v xs rest split q. gives (λ ys w. K (xs ++ ys) w) (g v) rest (subst (λ ys. K ys (g v)) (sym (append-nil xs)) (up xs v q)))

  -- ---- one token of a kind

  pub token_in : {B : Type 0} (K : Tokens → B → Type 0) (is_it : Token → Bool) (k : Reader B) (ts : Tokens) → Inhabited K → ((t : At Token) (us : Tokens) → ts ≡ t ∷ us → Is is_it t → Local (λ xs w. K (t ∷ xs) w) k us) → Local K (λ r. expect last is_it r >>= k) ts
  token_in K is_it k [] some next = no_rule_end K (λ r. expect last is_it r >>= k) some refl
  token_in K is_it k (t ∷ us) some next = of_test (is_it t.tok) refl
    where
      of_test : (b : Bool) → is_it t.tok ≡ b → Local K (λ r. expect last is_it r >>= k) (t ∷ us)
      of_test true h = behind K k (λ r. expect last is_it r >>= k) t us (λ vs. rw h refl) (next t us refl h)
      of_test false h = no_rule_at K (λ r. expect last is_it r >>= k) t us some (λ vs. rw h refl)

  pub token_then : {B : Type 0} (K : Tokens → B → Type 0) (is_it : Token → Bool) (k : Reader B) (ts : Tokens) → Inhabited K → ((t : At Token) (us : Tokens) → Is is_it t → Local (λ xs w. K (t ∷ xs) w) k us) → Local K (λ r. expect last is_it r >>= k) ts
  token_then K is_it k ts some next = token_in K is_it k ts some (λ t us e h. next t us h)

  -- a last token
  pub token_last : {B : Type 0} (K : Tokens → B → Type 0) (is_it : Token → Bool) (v : B) (ts : Tokens) → Inhabited K → ((t : At Token) → Is is_it t → K (t ∷ []) v) → Local K (λ r. expect last is_it r >>= λ rest. Ok (v, rest)) ts
  token_last K is_it v ts some q = token_then K is_it (λ rest. Ok (v, rest)) ts some (λ t us h. gives (λ xs w. K (t ∷ xs) w) v us (q t h))

  pub name_local : (ts : Tokens) → Inhabited NameIs → Local NameIs (name_at last) ts
  name_local [] some = no_rule_end NameIs (name_at last) some refl
  name_local (t ∷ us) some = of_name (named t.tok) refl
    where
      of_name : (o : Option (List ℕ)) → named t.tok ≡ o → Local NameIs (name_at last) (t ∷ us)
      of_name None h = no_rule_at NameIs (name_at last) t us some (λ vs. rw h refl)
      of_name (Some n) h = behind NameIs (λ r. Ok (n, r)) (name_at last) t us (λ vs. rw h refl) (gives (λ xs v. NameIs (t ∷ xs) v) n us (is_name t n h))

  pub name_then : {B : Type 0} (K : Tokens → B → Type 0) (k : List ℕ → Reader B) (ts : Tokens) → Inhabited K → ((t : At Token) (n : List ℕ) (us : Tokens) → Names n t → Local (λ xs w. K (t ∷ xs) w) (k n) us) → Local K (λ r. name_at last r >>= λ x. k x.0 x.1) ts
  name_then K k [] some next = no_rule_end K (λ r. name_at last r >>= λ x. k x.0 x.1) some refl
  name_then K k (t ∷ us) some next = of_name (named t.tok) refl
    where
      of_name : (o : Option (List ℕ)) → named t.tok ≡ o → Local K (λ r. name_at last r >>= λ x. k x.0 x.1) (t ∷ us)
      of_name None h = no_rule_at K (λ r. name_at last r >>= λ x. k x.0 x.1) t us some (λ vs. rw h refl)
      of_name (Some n) h = behind K (k n) (λ r. name_at last r >>= λ x. k x.0 x.1) t us (λ vs. rw h refl) (next t n us h)

  -- one reading behind a token of a kind, another where none stands
  pub either : {B : Type 0} (K : Tokens → B → Type 0) (is_it : Token → Bool) (p p' q : Reader B) (ts : Tokens) → ((t : At Token) (vs : Tokens) → Is is_it t → q (t ∷ vs) ≡ p vs) → ((t : At Token) (vs : Tokens) → is_it t.tok ≡ false → q (t ∷ vs) ≡ p' (t ∷ vs)) → q [] ≡ p' [] → ((t : At Token) (us : Tokens) → Is is_it t → Local (λ xs w. K (t ∷ xs) w) p us) → Local K p' ts → Local K q ts
  either K is_it p p' q [] there_is none end there l = switch_end K p' q end l
  either K is_it p p' q (t ∷ us) there_is none end there l = of_test (is_it t.tok) refl
    where
      of_test : (b : Bool) → is_it t.tok ≡ b → Local K q (t ∷ us)
      of_test true h = behind K p q t us (λ vs. there_is t vs h) (there t us h)
      of_test false h = switch_at K p' q t us (λ vs. none t vs h) l

  pub chosen : {B : Type 0} (K : Tokens → B → Type 0) (is_it : Token → Bool) (p p' : Reader B) (ts : Tokens) → ((t : At Token) (us : Tokens) → Is is_it t → Local (λ xs w. K (t ∷ xs) w) p us) → Local K p' ts → Local K (λ r. option_map_or p (after is_it r) (p' r)) ts
  chosen K is_it p p' ts there l = either K is_it p p' (λ r. option_map_or p (after is_it r) (p' r)) ts (λ t vs h. rw h refl) (λ t vs h. rw h refl) refl there l

  -- ---- lists

  module _ {S : Type 0} (add : S → Reader S) (Adds : S → Tokens → S → Type 0) (some : (s : S) → Inhabited (Adds s)) (adds_local : (s : S) (ts : Tokens) → Local (Adds s) (add s) ts) where
    -- what stands behind the first item
    pub data Tail (s : S) : Tokens → S → Type 0 where
      done : Tail s [] s
      comma : (c : At Token) (us : Tokens) (v : S) → Is (is_sign signs.Comma) c → Commas Adds s us v → Tail s (c ∷ us) v

    bind_same : {A B : Type 0} (r : Result A SqlFault) (f g : A → Result B SqlFault) → ((x : A) → r ≡ Ok x → f x ≡ g x) → (r >>= f) ≡ (r >>= g)
    bind_same (Ok x) f g h = h x refl
    bind_same (Err e) f g h = refl

    no_both : {A : Type 0} (x : A) (e : SqlFault) → ◌≡◌ {A = Result A SqlFault} (Ok x) (Err e) → ⊥
    no_both x e h = cc

    ok_same : {A : Type 0} (x y : A) → ◌≡◌ {A = Result A SqlFault} (Ok x) (Ok y) → x ≡ y
    ok_same x y h = cc

    -- what is left is no longer
    left_over : (s : S) (ts : Tokens) (x : S × Tokens) → add s ts ≡ Ok x → Local (Adds s) (add s) ts → length x.1 ≤ length ts
    left_over s ts x e (took v front rest split local q) =
        let same : (v, rest) ≡ x = ok_same (v, rest) x (sym (local rest refl) ∙ ap (add s) (sym split) ∙ e) in
        omega (arith, ap length split, length-append front rest, ap (λ (y : S × Tokens). length y.1) same)
    left_over s ts x e (stopped g front rest split local b) = absurd (no_both x g (sym e ∙ ap (add s) split ∙ local rest refl))

    shorter : (s : S) (ts : Tokens) (x : S × Tokens) → add s ts ≡ Ok x → length x.1 ≤ length ts
    shorter s ts x e = left_over s ts x e (adds_local s ts)

    -- the items that are left, with turns for each token
    abbrev pub left_of : S → Reader S
    left_of s ts = more_at add (length ts) s ts

    more_nothing : (n : ℕ) (s : S) → more_at add n s [] ≡ Ok (s, [])
    unfolding more_at
    more_nothing zero s = refl
    more_nothing (suc n) s = refl

    more_stop : (n : ℕ) (s : S) (t : At Token) (vs : Tokens) → is_sign signs.Comma t.tok ≡ false → more_at add n s (t ∷ vs) ≡ Ok (s, t ∷ vs)
    unfolding more_at
    more_stop zero s t vs h = refl
    more_stop (suc n) s t vs h = rw h refl

    more_go : (n : ℕ) (s : S) (t : At Token) (vs : Tokens) → is_sign signs.Comma t.tok ≡ true → more_at add (suc n) s (t ∷ vs) ≡ (add s vs >>= λ x. more_at add n x.0 x.1)
    unfolding more_at
    more_go n s t vs h = rw h refl

    -- more turns than tokens change nothing
    enough : (m n : ℕ) (s : S) (ts : Tokens) → length ts ≤ m → length ts ≤ n → more_at add m s ts ≡ more_at add n s ts
    enough m n s [] g h = more_nothing m s ∙ sym (more_nothing n s)
    enough zero n s (t ∷ ts) g h = absurd (omega arith)
    enough (suc m) zero s (t ∷ ts) g h = absurd (omega arith)
    enough (suc m) (suc n) s (t ∷ ts) g h = of_test (is_sign signs.Comma t.tok) refl (λ v us a b. enough m n v us a b)
      where
        of_test : (b : Bool) → is_sign signs.Comma t.tok ≡ b → ((v : S) (us : Tokens) → length us ≤ m → length us ≤ n → more_at add m v us ≡ more_at add n v us) → more_at add (suc m) s (t ∷ ts) ≡ more_at add (suc n) s (t ∷ ts)
        of_test false q ih = more_stop (suc m) s t ts q ∙ sym (more_stop (suc n) s t ts q)
        of_test true q ih =
            more_go m s t ts q ∙ bind_same (add s ts) (λ x. more_at add m x.0 x.1) (λ x. more_at add n x.0 x.1) (λ x is. let lt = shorter s ts x is in ih x.0 x.1 (omega arith) (omega arith)) ∙ sym (more_go n s t ts q)

    comma_turn : (s : S) (t : At Token) (vs : Tokens) → is_sign signs.Comma t.tok ≡ true → left_of s (t ∷ vs) ≡ (add s vs >>= λ x. left_of x.0 x.1)
    comma_turn s t vs h = more_go (length vs) s t vs h ∙ bind_same (add s vs) (λ x. more_at add (length vs) x.0 x.1) (λ x. left_of x.0 x.1) (λ x is. let lt = shorter s vs x is in enough (length vs) (length x.1) x.0 x.1 (omega arith) (omega arith))

    pub items_is : (s : S) (ts : Tokens) → items_at add s ts ≡ (add s ts >>= λ x. left_of x.0 x.1)
    unfolding items_at
    items_is s ts = bind_same (add s ts) (λ x. more_at add (length ts) x.0 x.1) (λ x. left_of x.0 x.1) (λ x is. let lt = shorter s ts x is in enough (length ts) (length x.1) x.0 x.1 (omega arith) (omega arith))

    pub joined : (s t v : S) (xs ys : Tokens) → Adds s xs t → Tail t ys v → Commas Adds s (xs ++ ys) v
    joined s t _ xs _ a done = subst (λ zs. Commas Adds s zs t) (sym (append-nil xs)) (last_item s t xs a)
    joined s t _ xs _ a (comma c us v h k) = next_item s t v xs us c a h k

    -- an item and those behind it
    turn_local : (m : ℕ) (s : S) (ts : Tokens) → length ts ≤ m → ((t : S) (us : Tokens) → length us ≤ m → Local (Tail t) (left_of t) us) → Local (Commas Adds s) (λ r. add s r >>= λ x. left_of x.0 x.1) ts
    turn_local m s ts le ih = in_turn (Adds s) (Commas Adds s) (add s) left_of ts (λ xs t a. ([], t, joined s t t xs [] a done)) (adds_local s ts) (λ t xs rest split a.
        same_at (Tail t) (λ ys w. Commas Adds s (xs ++ ys) w) (left_of t) (left_of t) rest (λ ys w k. joined s t w xs ys a k) (λ us h. refl) (ih t rest (omega (arith, ap length split, length-append xs rest))))

    tail_token : (m : ℕ) (s : S) (t : At Token) (us : Tokens) (b : Bool) → is_sign signs.Comma t.tok ≡ b → length us ≤ m → ((v : S) (vs : Tokens) → length vs ≤ m → Local (Tail v) (left_of v) vs) → Local (Tail s) (left_of s) (t ∷ us)
    tail_token m s t us false h le ih = gives_at (Tail s) (left_of s) s t us (λ vs. more_stop (length (t ∷ vs)) s t vs h) done
    tail_token m s t us true h le ih = behind (Tail s) (λ r. add s r >>= λ x. left_of x.0 x.1) (left_of s) t us (λ vs. comma_turn s t vs h)
        (same_at (Commas Adds s) (λ xs w. Tail s (t ∷ xs) w) (λ r. add s r >>= λ x. left_of x.0 x.1) (λ r. add s r >>= λ x. left_of x.0 x.1) us (λ xs w k. comma t xs w h k) (λ vs g. refl) (turn_local m s us le ih))

    pub tail_local : (m : ℕ) (s : S) (ts : Tokens) → length ts ≤ m → Local (Tail s) (left_of s) ts
    tail_local m s [] le = gives_end (Tail s) (left_of s) s (more_nothing 0 s) done
    tail_local zero s (t ∷ us) le = absurd (omega arith)
    tail_local (suc m) s (t ∷ us) le = tail_token m s t us (is_sign signs.Comma t.tok) refl (omega arith) (λ v vs h. tail_local m v vs h)

    pub list_local : (s : S) (ts : Tokens) → Local (Commas Adds s) (items_at add s) ts
    list_local s ts = same_at (Commas Adds s) (Commas Adds s) (λ r. add s r >>= λ x. left_of x.0 x.1) (items_at add s) ts (λ xs v k. k) (λ us h. items_is s us) (turn_local (length ts) s ts (omega arith) (λ t us h. tail_local (length ts) t us h))

    pub some_list : (s : S) → Inhabited (Commas Adds s)
    some_list s = let a = some s in (a.0, a.1, last_item s a.1 a.0 a.2)

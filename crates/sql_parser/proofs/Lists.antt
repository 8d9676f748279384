-- Lists of items with commas between them.
use Rattle.std.proofs.Common.{◌≡◌, ℕ, zero, suc, ◌<◌, ◌≤◌, List, [], ◌∷◌, length, map, Some, None, refl, sym, ap, ◌∙◌, subst, arith}
use Rattle.std.proofs.lemmas.List.{length-map}
use Rattle.std.specs.Prelude.{Result, Ok, Err, Bool, true, false, if◌then◌else◌}
use Rattle.iso_lexer.specs.declared.sql_token.SqlSign.TheVariants as signs
use Rattle.sql_trees.specs.declared.fault.SqlFault.{SqlFault}
use Rattle.iso_lexer.specs.declared.token.At.{At}
use Rattle.sql_trees.specs.declared.token.Tok.{Tok}
use Rattle.sql_trees.specs.Tokens.{Tokens, tok_at, tok_views}
use Rattle.sql_trees.specs.declared.fault.SqlFault.TheVariants.{Memory}
use Rattle.std.specs.Borrow.{Bor}
use Rattle.sql_expressions.specs.Results.{Gives, Fails, ◌>>=◌}
use Rattle.sql_expressions.specs.Readers.{after, is_sign, more_at, items_at}
use Rattle.sql_parser.specs.Inner.Calls.{Listed, seen}
use Rattle.sql_parser.specs.Inner.Calls as lists

-- behind a comma there are fewer tokens
pub comma_shortens : (ts us : Tokens) → after (is_sign signs.Comma) ts ≡ Some us → length us < length ts
comma_shortens [] us e = absurd cc
comma_shortens (t ∷ ts) us e = of_test (is_sign signs.Comma t.tok) e
  where
    of_test : (b : Bool) → (if b then Some ts else None) ≡ Some us → length us < length (t ∷ ts)
    of_test true h = let same : ts ≡ us = cc in subst (λ vs. length vs < length (t ∷ ts)) same (omega arith)
    of_test false h = absurd cc

-- what was read of a list from s so far is t, and the rest is left
pub record Onward {S : Type 0} (adds : S → Tokens → Result (S × Tokens) SqlFault → Type 0) (s : S) (ts : Tokens) (t : S) (rest : Tokens) : Type 0 where
  pub ends : after (is_sign signs.Comma) rest ≡ None → Listed adds s ts (Ok (t, rest))
  pub goes_on : (us : Tokens) (answer : Result (S × Tokens) SqlFault) → after (is_sign signs.Comma) rest ≡ Some us → Listed adds t us answer → Listed adds s ts answer

module _ {S : Type 0} (adds : S → Tokens → Result (S × Tokens) SqlFault → Type 0) where
  pub first_item : (s t : S) (ts rest : Tokens) → adds s ts (Ok (t, rest)) → length rest ≤ length ts → Onward adds s ts t rest
  first_item s t ts rest a h = record {
    ends = λ e. lists.ends a e refl;
    goes_on = λ us answer e l. lists.goes_on a h e l;
  }

  pub no_first : (s : S) (ts : Tokens) (f : SqlFault) → adds s ts (Err f) → Listed adds s ts (Err f)
  no_first s ts f a = lists.stops a refl

  pub next_item : (s t v : S) (ts rest us more : Tokens) → Onward adds s ts t rest → after (is_sign signs.Comma) rest ≡ Some us → adds t us (Ok (v, more)) → length more ≤ length us → Onward adds s ts v more
  next_item s t v ts rest us more o c a h = record {
    ends = λ e. o.goes_on us (Ok (v, more)) c (lists.ends a e refl);
    goes_on = λ vs answer e l. o.goes_on us answer c (lists.goes_on a h e l);
  }

  pub no_next : (s t : S) (ts rest us : Tokens) (f : SqlFault) → Onward adds s ts t rest → after (is_sign signs.Comma) rest ≡ Some us → adds t us (Err f) → Listed adds s ts (Err f)
  no_next s t ts rest us f o c a = o.goes_on us (Err f) c (lists.stops a refl)

-- tokens are as many as they are without where they lie in memory
pub views_shorter : (xs ys : List (At Tok)) → length xs ≤ length ys → length (tok_views xs) ≤ length (tok_views ys)
views_shorter xs ys h = omega (arith, length-map xs tok_at, length-map ys tok_at)

pub comma_shorter : (xs ys : List (At Tok)) → after (is_sign signs.Comma) (tok_views xs) ≡ Some (tok_views ys) → length ys < length xs
comma_shorter xs ys e = omega (arith, length-map xs tok_at, length-map ys tok_at, comma_shortens (tok_views xs) (tok_views ys) e)

-- where a part fails with each fault as the whole does, a fault of the part is one of the whole
pub fails_on : {X Y : Type 0} (f : SqlFault) (part : Result X SqlFault) (whole : Result Y SqlFault) → Fails f part → (part ≡ Err f → whole ≡ Err f) → Fails f whole
fails_on Memory part whole h k = tt
fails_on _ part whole h k = k h

-- a list of calls, each of which gives what reading an item gives, is what reading the items gives
module _ {S T : Type 0} (view : S → T) (add : T → Tokens → Result (T × Tokens) SqlFault) where
  abbrev pub by_view : S → Tokens → Result (S × Tokens) SqlFault → Type 0
  by_view s ts r = Gives (λ x. (view x.0, x.1)) r (add (view s) ts)

  abbrev turn : ℕ → T → Tokens → Result (T × Tokens) SqlFault
  turn n s ts = add s ts >>= λ x. more_at add n x.0 x.1

  no_more : (n : ℕ) (s : T) (rest : Tokens) → after (is_sign signs.Comma) rest ≡ None → more_at add n s rest ≡ Ok (s, rest)
  unfolding more_at
  no_more zero s rest e = refl
  no_more (suc n) s rest e = rw e refl

  one_more : (n : ℕ) (s : T) (rest us : Tokens) → after (is_sign signs.Comma) rest ≡ Some us → more_at add (suc n) s rest ≡ turn n s us
  unfolding more_at
  one_more n s rest us e = rw e refl

  turn_ends : (n : ℕ) (s t : T) (ts rest : Tokens) → add s ts ≡ Ok (t, rest) → turn n s ts ≡ more_at add n t rest
  turn_ends n s t ts rest e = rw e refl

  turn_stops : (n : ℕ) (s : T) (ts : Tokens) (f : SqlFault) → add s ts ≡ Err f → turn n s ts ≡ Err f
  turn_stops n s ts f e = rw e refl

  turns_give : {s : S} {ts : Tokens} {answer : Result (S × Tokens) SqlFault} → Listed by_view s ts answer → (n : ℕ) → length ts ≤ n → Gives (λ x. (view x.0, x.1)) answer (turn n (view s) ts)
  turns_give {s = s} {ts = ts} (lists.ends {t = t} {rest = rest} a e same) n h =
      rw same (turn_ends n (view s) (view t) ts rest a ∙ no_more n (view t) rest e)
  turns_give {s = s} {ts = ts} (lists.goes_on {t = t} {rest = rest} {us = us} {answer = answer} a shorter e l) n h = of_turns (turns_give l) n h
    where
      of_turns : ((m : ℕ) → length us ≤ m → Gives (λ x. (view x.0, x.1)) answer (turn m (view t) us)) → (m : ℕ) → length ts ≤ m → Gives (λ x. (view x.0, x.1)) answer (turn m (view s) ts)
      of_turns more zero k = absurd (omega (arith, comma_shortens rest us e))
      of_turns more (suc m) k =
          subst (Gives (λ x. (view x.0, x.1)) answer) (sym (turn_ends (suc m) (view s) (view t) ts rest a ∙ one_more m (view t) rest us e))
          (more m (omega (arith, comma_shortens rest us e)))
  turns_give {s = s} {ts = ts} (lists.stops {f = f} a same) n h =
      rw same (fails_on f (add (view s) ts) (turn n (view s) ts) a (turn_stops n (view s) ts f))

  pub items_give : (s : S) (ts : Tokens) (r : Result (S × Bor (List (At Tok))) SqlFault) → Listed by_view s ts (seen (λ x. (x.0, tok_views x.1.now)) r) → Gives (λ x. (view x.0, tok_views x.1.now)) r (items_at add (view s) ts)
  unfolding items_at
  items_give s ts (Ok x) l = turns_give l (length ts) (omega arith)
  items_give s ts (Err f) l = turns_give l (length ts) (omega arith)

pub views_twice : {A B C : Type 0} (f : B → C) (g : A → B) (xs : List A) → map f (map g xs) ≡ map (λ x. f (g x)) xs
views_twice f g [] = refl
views_twice f g (x ∷ xs) = ap (λ ys. f (g x) ∷ ys) (views_twice f g xs)

pub views_fewer : (xs ys : List (At Tok)) → length xs < length ys → length (tok_views xs) < length (tok_views ys)
views_fewer xs ys h = omega (arith, length-map xs tok_at, length-map ys tok_at)

-- what a call gives, it gives of the same reading by another name
pub gives_same : {X Y : Type 0} (view : X → Y) (r : Result X SqlFault) (whole part : Result Y SqlFault) → whole ≡ part → Gives view r part → Gives view r whole
gives_same view r whole part e g = subst (Gives view r) (sym e) g

-- an answer is what is seen of it
pub gives_seen : {X Y : Type 0} (view : X → Y) (r : Result X SqlFault) → Gives view r (seen view r)
gives_seen view (Ok x) = refl
gives_seen view (Err Memory) = tt
gives_seen view (Err _) = refl

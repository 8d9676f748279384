-- Where an expression is too deep, a token stands that makes a node.
use Rattle.std.proofs.Common.{◌≡◌, ℕ, zero, suc, ◌+◌, Bool, true, false, List, [], ◌∷◌, ◌++◌, length, Option, Some, None, ◌⊎◌, inl, inr, refl, sym, ap, ◌∙◌, subst, append_assoc}
use Rattle.std.specs.Prelude.{Result, Ok, Err, ok_or, max, nat_lt, if◌then◌else◌}
use Rattle.iso_lexer.specs.declared.limits.TheConstants.{MAX_DEPTH}
use Rattle.sql_trees.specs.declared.fault.SqlFault.{SqlFault}
use Rattle.sql_trees.specs.declared.fault.SqlFault.TheVariants.{Syntax, LeftOut, TooDeep}
use Rattle.sql_expressions.specs.declared.level.Opened.{Opened}
use Rattle.sql_expressions.specs.declared.level.Opened.TheVariants.{Whole, Negation, Unary}
use Rattle.iso_lexer.specs.declared.token.At.{At}
use Rattle.iso_lexer.specs.declared.sql_token.SqlSign.TheVariants as signs
use Rattle.sql_trees.specs.declared.word.Word.TheVariants as words
use Rattle.sql_trees.specs.declared.expr.Operator.{Operator}
use Rattle.sql_trees.specs.declared.expr.Truth.{Truth}
use Rattle.sql_trees.specs.Tokens.{Token, Tokens, named}
use Rattle.sql_trees.specs.Tokens as tok
use Rattle.sql_trees.specs.Trees.{Tree, Plus}
use Rattle.sql_trees.specs.Trees as tree
use Rattle.sql_expressions.specs.Build.{negated}
use Rattle.sql_expressions.specs.Results.{◌>>=◌}
use Rattle.sql_expressions.specs.Readers.{expect, misplaced, left_out, is_sign, place_of, after}
use Rattle.sql_expressions.specs.Reading.{comparison_op, is_call, truth_of, expr_at}
use Rattle.sql_expressions.specs.Inner.Pieces.{Found, Found_op, Found_list, or_op, and_op, concat_op, sum_op, product_op, Reader, leaf, deeper, join, next_op, found_op, is_and, is_not, is_is, column_at, name_at, parens_at, prim_of, prim_at, sign_at, una_of, una_at, mul_at, add_at, cat_at, in_at, between_at, not_in_of, not_in_at, inn_of, inn_more, inn_at, cmp_more, cmp_at, is_node, truth_test, after_is, is_from, maybe_is, is_at, negation_at, not_at, and_at, or_at, at_level, inside, list_at, list_more, list_turn, chain, chain_more, chain_end, chain_turn}
use Rattle.sql_expressions.specs.Grammar.{OR, AND, NOT, ADD, MUL, UNA, Spells, may_go_on}
use Rattle.sql_expressions.specs.Laws.{Makes}
use Rattle.sql_expressions.proofs.Same.{seen, expr_same}
use Rattle.sql_expressions.proofs.Steps.{expect_ok, is_open_true, after_comma_ok}
use Rattle.sql_expressions.proofs.Sound.{Took, Sound}
use Rattle.sql_expressions.proofs.Levels.{Opens, opens_sound, una_sound, mul_sound, add_sound, cat_sound, inn_sound, cmp_sound, not_sound, and_sound}

-- wherever too deep is told, this is so
abbrev Deep : {A : Type 0} → (ℕ → Type 0) → Result A SqlFault → Type 0
Deep M r = (q : ℕ) → r ≡ Err (TooDeep q) → M q

next_in : {A B : Type 0} (M : ℕ → Type 0) (r : Result A SqlFault) (k : A → Result B SqlFault) → Deep M r → ((x : A) → r ≡ Ok x → Deep M (k x)) → Deep M (r >>= k)
next_in M (Ok x) k a b = b x refl
next_in M (Err e) k a b = λ q h. a q (ap Err (let same : e ≡ TooDeep q = cc in same))

given : {A : Type 0} (M : ℕ → Type 0) (x : A) → Deep M (Ok x)
given M x q h = absurd cc

up : {A : Type 0} (M N : ℕ → Type 0) (r : Result A SqlFault) → ((q : ℕ) → M q → N q) → Deep M r → Deep N r
up M N r f d = λ q h. f q (d q h)

tested : (M : ℕ → Type 0) (place d : ℕ) → M place → Deep M (deeper place d)
tested M place d m q h = of_test (nat_lt d MAX_DEPTH) h
  where
    of_test : (b : Bool) → (let r : Result ℕ SqlFault = if b then Ok (d + 1) else Err (TooDeep place) in r ≡ Err (TooDeep q)) → M q
    of_test true g = absurd cc
    of_test false g = let same : place ≡ q = cc in subst M same m

-- a token that makes a node stands before these
behind : (q : ℕ) (fs ts : Tokens) → Makes q ts → Makes q (fs ++ ts)
behind q fs ts (before, after, t, split, g, e) = (fs ++ before, after, t, ap (λ (r : Tokens). fs ++ r) split ∙ sym (append_assoc fs before (t ∷ after)), g, e)

here : (t : At Token) (ts : Tokens) → may_go_on t.tok ≡ true → Makes t.span.start (t ∷ ts)
here t ts g = ([], ts, t, refl, g, refl)

-- the tokens end in these
abbrev Ends_in : Tokens → Tokens → Type 0
Ends_in ts rest = (fs : Tokens) × (ts ≡ fs ++ rest)

from : (q : ℕ) (ts rest : Tokens) → Ends_in ts rest → Makes q rest → Makes q ts
from q ts rest (fs, e) m = subst (Makes q) (sym e) (behind q fs rest m)

later : (ts us rest : Tokens) → Ends_in ts us → Ends_in us rest → Ends_in ts rest
later ts us rest (fs, e) (gs, g) = (fs ++ gs, e ∙ ap (λ (r : Tokens). fs ++ r) g ∙ sym (append_assoc fs gs rest))

took_end : (P : Tokens → Tree → ℕ → Type 0) (ts : Tokens) (f : Found) → Took P ts f → Ends_in ts f.rest
took_end P ts f k = (k.front, k.whole)

or_goes : (t : Token) (o : Operator) → or_op t ≡ Some o → may_go_on t ≡ true
or_goes (tok.word words.Or s) o e = refl
or_goes _ o e = absurd cc

and_goes : (t : Token) (o : Operator) → and_op t ≡ Some o → may_go_on t ≡ true
and_goes (tok.word words.And s) o e = refl
and_goes _ o e = absurd cc

concat_goes : (t : Token) (o : Operator) → concat_op t ≡ Some o → may_go_on t ≡ true
concat_goes (tok.sign signs.Concat) o e = refl
concat_goes _ o e = absurd cc

sum_goes : (t : Token) (o : Operator) → sum_op t ≡ Some o → may_go_on t ≡ true
sum_goes (tok.sign signs.Plus) o e = refl
sum_goes (tok.sign signs.Minus) o e = refl
sum_goes _ o e = absurd cc

product_goes : (t : Token) (o : Operator) → product_op t ≡ Some o → may_go_on t ≡ true
product_goes (tok.sign signs.Star) o e = refl
product_goes (tok.sign signs.Slash) o e = refl
product_goes (tok.sign signs.Percent) o e = refl
product_goes _ o e = absurd cc

comparison_goes : (t : Token) (o : Operator) → comparison_op t ≡ Some o → may_go_on t ≡ true
comparison_goes (tok.sign signs.Equal) o e = refl
comparison_goes (tok.sign signs.NotEqual) o e = refl
comparison_goes (tok.sign signs.Less) o e = refl
comparison_goes (tok.sign signs.AtMost) o e = refl
comparison_goes (tok.sign signs.Greater) o e = refl
comparison_goes (tok.sign signs.AtLeast) o e = refl
comparison_goes _ o e = absurd cc

-- the operator that stands next
next_is : (op_of : Token → Option Operator) → ((t : Token) (o : Operator) → op_of t ≡ Some o → may_go_on t ≡ true) → (ts : Tokens) (o : Found_op) → next_op op_of ts ≡ Some o → Makes o.place ts × Ends_in ts o.rest
next_is op_of goes [] o e = absurd cc
next_is op_of goes (t ∷ ts) o e = of_op (op_of t.tok) refl e
  where
    of_op : (m : Option Operator) → op_of t.tok ≡ m → found_op t ts m ≡ Some o → Makes o.place (t ∷ ts) × Ends_in (t ∷ ts) o.rest
    of_op None h g = absurd cc
    of_op (Some p) h g =
        let same : record { op = p; place = t.span.start; rest = ts } ≡ o = cc in
        subst (λ (x : Found_op). Makes x.place (t ∷ ts) × Ends_in (t ∷ ts) x.rest) same (here t ts (goes t.tok p h), (t ∷ [], refl))

-- too deep is told at a token of these
abbrev pub Tells : Reader → Type 0
Tells p = (ts : Tokens) → Deep (λ q. Makes q ts) (p ts)

module _ (operand : Reader) (op_of : Token → Option Operator) (goes : (t : Token) (o : Operator) → op_of t ≡ Some o → may_go_on t ≡ true) (P : Tokens → Tree → ℕ → Type 0) (sound : Sound P operand) (tells : Tells operand) where
  chain_tells_end : (ts : Tokens) (a : Found) → Ends_in ts a.rest → (m : Option Found_op) → next_op op_of a.rest ≡ m → Deep (λ q. Makes q ts) (chain_end m a)
  chain_tells_end ts a s None h = given _ a
  chain_tells_end ts a s (Some o) h = λ q e. let same : o.place ≡ q = cc in subst (λ x. Makes x ts) same (from o.place ts a.rest s (next_is op_of goes a.rest o h).0)

  rest_same : (ts : Tokens) (o : Found_op) (a b c : Found) → Ends_in ts b.rest → join o a b ≡ Ok c → Ends_in ts c.rest
  rest_same ts o a b c s j = of_depth (deeper o.place (max a.depth b.depth)) j
    where
      of_depth : (r : Result ℕ SqlFault) → (r >>= λ d. Ok (record { tree = tree.Binary o.op a.tree b.tree; depth = d; rest = b.rest })) ≡ Ok c → Ends_in ts c.rest
      of_depth (Ok d) h = let same : b.rest ≡ c.rest = cc in subst (Ends_in ts) same s
      of_depth (Err e) h = absurd cc

  abbrev Goes : ℕ → Type 0
  Goes n = (ts : Tokens) (a : Found) → Ends_in ts a.rest → Deep (λ q. Makes q ts) (chain_more operand op_of n a)

  turn_tells : (n : ℕ) → Goes n → (ts : Tokens) (a : Found) → Ends_in ts a.rest → (m : Option Found_op) → next_op op_of a.rest ≡ m → Deep (λ q. Makes q ts) (chain_turn operand (chain_more operand op_of n) m a)
  turn_tells n go ts a s None h = given _ a
  turn_tells n go ts a s (Some o) h =
      let k = next_is op_of goes a.rest o h in
      let m = from o.place ts a.rest s k.0 in
      let w = later ts a.rest o.rest s k.1 in
      next_in _ (deeper o.place a.depth) _ (tested _ o.place a.depth m) (λ here is.
      next_in _ (operand o.rest) _ (up _ _ (operand o.rest) (λ q r. from q ts o.rest w r) (tells o.rest)) (λ b is'.
      next_in _ (join o a b) _ (next_in _ (deeper o.place (max a.depth b.depth)) _ (tested _ o.place (max a.depth b.depth) m) (λ d is. given _ _)) (λ c j.
      go ts c (rest_same ts o a b c (later ts o.rest b.rest w (took_end P o.rest b (sound o.rest b is'))) j))))

  more_tells : (n : ℕ) → Goes n
  unfolding chain_more
  more_tells zero ts a s = chain_tells_end ts a s (next_op op_of a.rest) refl
  more_tells (suc n) ts a s = turn_tells n (more_tells n) ts a s (next_op op_of a.rest) refl

  chain_tells : Tells (chain operand op_of)
  unfolding chain
  chain_tells ts = next_in _ (operand ts) _ (tells ts) (λ a is. more_tells MAX_DEPTH ts a (took_end P ts a (sound ts a is)))

module _ (last n : ℕ) (inside' : Opened → ℕ → Reader) (opens : Opens last n inside') (deep : (level : Opened) (place : ℕ) (ts : Tokens) → Deep (λ q. (q ≡ place) ⊎ Makes q ts) (inside' level place ts)) where
  -- the token before these, or one of them
  first_or : (t : At Token) (ts : Tokens) → may_go_on t.tok ≡ true → (q : ℕ) → (q ≡ t.span.start) ⊎ Makes q ts → Makes q (t ∷ ts)
  first_or t ts g q (inl e) = subst (λ x. Makes x (t ∷ ts)) (sym e) (here t ts g)
  first_or t ts g q (inr m) = behind q (t ∷ []) ts m

  expected : (M : ℕ → Type 0) (is_it : Token → Bool) (ts : Tokens) → Deep M (expect last is_it ts)
  expected M is_it [] q h = absurd cc
  expected M is_it (t ∷ ts) q h = of_test (is_it t.tok) (left_out t.tok) h
    where
      of_test : (b c : Bool) → (let r : Result Tokens SqlFault = ok_or (if b then Some ts else None) (if c then LeftOut t.span.start else Syntax t.span.start) in r ≡ Err (TooDeep q)) → M q
      of_test true c g = absurd cc
      of_test false true g = absurd cc
      of_test false false g = absurd cc

  refused : {A : Type 0} (M : ℕ → Type 0) (ts : Tokens) → Deep {A = A} M (Err (misplaced last ts))
  refused {A} M [] q h = absurd cc
  refused {A} M (t ∷ ts) q h = of_test (left_out t.tok) h
    where
      of_test : (c : Bool) → ◌≡◌ {A = Result A SqlFault} (Err (if c then LeftOut t.span.start else Syntax t.span.start)) (Err (TooDeep q)) → M q
      of_test true g = absurd cc
      of_test false g = absurd cc

  column_tells : (M : ℕ → Type 0) (t : At Token) (name : List ℕ) (ts : Tokens) → Deep M (column_at last t name ts)
  column_tells M t name [] q h = absurd cc
  column_tells M t name (u ∷ ts) q h = of_test (is_sign signs.Open u.tok) h
    where
      of_test : (b : Bool) → (let r : Result Found SqlFault = if b then Err (LeftOut (if is_call t.tok then t.span.start else u.span.start)) else leaf (tree.Column name) (u ∷ ts) in r ≡ Err (TooDeep q)) → M q
      of_test true g = absurd cc
      of_test false g = absurd cc

  name_tells : (M : ℕ → Type 0) (o : Option (List ℕ)) (t : At Token) (ts : Tokens) → Deep M (name_at last o t ts)
  name_tells M None t ts = refused M (t ∷ ts)
  name_tells M (Some name) t ts = column_tells M t name ts

  parens_tells : (t : At Token) (ts : Tokens) → may_go_on t.tok ≡ true → Deep (λ q. Makes q (t ∷ ts)) (parens_at last inside' t.span.start ts)
  unfolding parens_at
  parens_tells t ts g =
      next_in _ (inside' Whole t.span.start ts) _ (up _ _ (inside' Whole t.span.start ts) (first_or t ts g) (deep Whole t.span.start ts)) (λ e is.
      next_in _ (deeper t.span.start e.depth) _ (tested _ t.span.start e.depth (here t ts g)) (λ d is'.
      next_in _ (expect last (is_sign signs.Close) e.rest) _ (expected _ (is_sign signs.Close) e.rest) (λ rest is''. given _ _)))

  prim_of_tells : (x : Token) (t : At Token) (ts : Tokens) → t.tok ≡ x → Deep (λ q. Makes q (t ∷ ts)) (prim_of last inside' x t ts)
  prim_of_tells (tok.number k) t ts h = given _ _
  prim_of_tells (tok.string s) t ts h = given _ _
  prim_of_tells (tok.word words.True s) t ts h = given _ _
  prim_of_tells (tok.word words.False s) t ts h = given _ _
  prim_of_tells (tok.word words.Null s) t ts h = given _ _
  prim_of_tells (tok.sign signs.Open) t ts h = parens_tells t ts (ap may_go_on h)
  prim_of_tells x t ts h = name_tells _ (named x) t ts

  prim_tells : Tells (prim_at last inside')
  prim_tells [] = refused _ []
  prim_tells (t ∷ ts) = prim_of_tells t.tok t ts refl

  sign_tells : (make : Tree → Tree) (t : At Token) (ts : Tokens) → may_go_on t.tok ≡ true → Deep (λ q. Makes q (t ∷ ts)) (sign_at last inside' make t.span.start ts)
  unfolding sign_at
  sign_tells make t ts g =
      next_in _ (inside' Unary t.span.start ts) _ (up _ _ (inside' Unary t.span.start ts) (first_or t ts g) (deep Unary t.span.start ts)) (λ e is.
      next_in _ (deeper t.span.start e.depth) _ (tested _ t.span.start e.depth (here t ts g)) (λ d is'. given _ _))

  una_of_tells : (x : Token) (t : At Token) (ts : Tokens) → t.tok ≡ x → Deep (λ q. Makes q (t ∷ ts)) (una_of last inside' x t ts)
  una_of_tells (tok.sign signs.Minus) t ts h = sign_tells negated t ts (ap may_go_on h)
  una_of_tells (tok.sign signs.Plus) t ts h = sign_tells Plus t ts (ap may_go_on h)
  una_of_tells x t ts h = prim_tells (t ∷ ts)

  una_tells : Tells (una_at last inside')
  una_tells [] = prim_tells []
  una_tells (t ∷ ts) = una_of_tells t.tok t ts refl

  mul_tells : Tells (mul_at last inside')
  unfolding mul_at
  mul_tells = chain_tells (una_at last inside') product_op product_goes (Spells n UNA) (una_sound last n inside' opens) una_tells

  add_tells : Tells (add_at last inside')
  unfolding add_at
  add_tells = chain_tells (mul_at last inside') sum_op sum_goes (Spells n MUL) (mul_sound last n inside' opens) mul_tells

  cat_tells : Tells (cat_at last inside')
  unfolding cat_at
  cat_tells = chain_tells (add_at last inside') concat_op concat_goes (Spells n ADD) (add_sound last n inside' opens) add_tells

  -- ---- lists

  module _ (reader : Reader) (P : Tokens → Tree → ℕ → Type 0) (sound : Sound P reader) (all : Tokens) (M : ℕ → Type 0) (tells : (ts : Tokens) → Ends_in all ts → Deep M (reader ts)) where
    comma_ends : (ts us : Tokens) → Ends_in all ts → after (is_sign signs.Comma) ts ≡ Some us → Ends_in all us
    comma_ends ts us s h = let c = after_comma_ok ts us h in later all ts us s (c.0 ∷ [], c.1)

    list_turn_tells : (m : ℕ) → ((l : Found_list) → Ends_in all l.rest → Deep M (list_more reader m l)) → (l : Found_list) → Ends_in all l.rest → (o : Option Tokens) → after (is_sign signs.Comma) l.rest ≡ o → Deep M (list_turn reader (list_more reader m) o l)
    list_turn_tells m go l s None h = given _ _
    list_turn_tells m go l s (Some us) h =
        let w = comma_ends l.rest us s h in
        next_in _ (reader us) _ (tells us w) (λ e is. go _ (later all us e.rest w (took_end P us e (sound us e is))))

    list_more_tells : (m : ℕ) (l : Found_list) → Ends_in all l.rest → Deep M (list_more reader m l)
    unfolding list_more
    list_more_tells zero l s = given _ _
    list_more_tells (suc m) l s = list_turn_tells m (list_more_tells m) l s (after (is_sign signs.Comma) l.rest) refl

    list_tells : (ts : Tokens) → Ends_in all ts → Deep M (list_at reader ts)
    unfolding list_at
    list_tells ts s = next_in _ (reader ts) _ (tells ts s) (λ e is. list_more_tells (length ts) _ (later all ts e.rest s (took_end P ts e (sound ts e is))))

  -- ---- IN and BETWEEN, told at this place or at a token behind it

  abbrev At_or : ℕ → Tokens → ℕ → Type 0
  At_or place ts q = (q ≡ place) ⊎ Makes q ts

  in_open_tells : (neg : Bool) (place : ℕ) (left : Tree) (d : ℕ) (t : At Token) (ts : Tokens) → t.tok ≡ tok.sign signs.Open → Deep {A = Found} (At_or place (t ∷ ts)) (list_at (inside' Whole t.span.start) ts >>= λ items. deeper place (max d items.depth) >>= λ x. expect last (is_sign signs.Close) items.rest >>= λ rest. Ok (record { tree = tree.In left neg items.trees; depth = x; rest = rest }))
  in_open_tells neg place left d t ts g =
      next_in _ (list_at (inside' Whole t.span.start) ts) _ (list_tells (inside' Whole t.span.start) (λ us e c. (m : ℕ) × (n ≡ suc m) × Spells m OR us e c) (λ us f is. let k = opens Whole t.span.start us f is in record { front = k.2.front; whole = k.2.whole; some = k.2.some; spells = (k.0, k.1, k.2.spells) }) ts _
      (λ us s. up _ _ (inside' Whole t.span.start us) (λ q m. inr (first_or t ts (ap may_go_on g) q (lifted us s q m))) (deep Whole t.span.start us)) ts ([], refl)) (λ items is.
      next_in _ (deeper place (max d items.depth)) _ (tested _ place (max d items.depth) (inl refl)) (λ x is'.
      next_in _ (expect last (is_sign signs.Close) items.rest) _ (expected _ (is_sign signs.Close) items.rest) (λ rest is''. given _ _)))
    where
      lifted : (us : Tokens) → Ends_in ts us → (q : ℕ) → (q ≡ t.span.start) ⊎ Makes q us → (q ≡ t.span.start) ⊎ Makes q ts
      lifted us s q (inl e) = inl e
      lifted us s q (inr m) = inr (from q ts us s m)

  in_tells : (neg : Bool) (place : ℕ) (left : Tree) (d : ℕ) (ts : Tokens) → Deep (At_or place ts) (in_at last inside' neg place left d ts)
  unfolding in_at
  in_tells neg place left d ts =
      next_in _ (deeper place d) _ (tested _ place d (inl refl)) (λ x is.
      next_in _ (expect last (is_sign signs.Open) ts) _ (expected _ (is_sign signs.Open) ts) (λ us is'.
      let k = expect_ok last (is_sign signs.Open) ts us is' in
      subst (λ (all : Tokens). Deep {A = Found} (At_or place all) (list_at (inside' Whole (place_of last all)) us >>= λ items. deeper place (max d items.depth) >>= λ y. expect last (is_sign signs.Close) items.rest >>= λ rest. Ok (record { tree = tree.In left neg items.trees; depth = y; rest = rest }))) (sym k.1) (in_open_tells neg place left d k.0 us (is_open_true k.0.tok k.2))))

  expect_end : (is_it : Token → Bool) (ts us : Tokens) → expect last is_it ts ≡ Ok us → Ends_in ts us
  expect_end is_it ts us e = let k = expect_ok last is_it ts us e in (k.0 ∷ [], k.1)

  between_tells : (neg : Bool) (place : ℕ) (left : Tree) (d : ℕ) (ts : Tokens) → Deep (At_or place ts) (between_at last inside' neg place left d ts)
  unfolding between_at
  between_tells neg place left d ts =
      next_in _ (deeper place d) _ (tested _ place d (inl refl)) (λ x is.
      next_in _ (cat_at last inside' ts) _ (up _ _ (cat_at last inside' ts) (λ q m. inr m) (cat_tells ts)) (λ low is'.
      next_in _ (deeper place (max d low.depth)) _ (tested _ place (max d low.depth) (inl refl)) (λ y is2.
      next_in _ (expect last is_and low.rest) _ (expected _ is_and low.rest) (λ us is3.
      let s = later ts low.rest us (took_end _ ts low (cat_sound last n inside' opens ts low is')) (expect_end is_and low.rest us is3) in
      next_in _ (cat_at last inside' us) _ (up _ _ (cat_at last inside' us) (λ q m. inr (from q ts us s m)) (cat_tells us)) (λ high is4.
      next_in _ (deeper place (max d (max low.depth high.depth))) _ (tested _ place (max d (max low.depth high.depth)) (inl refl)) (λ z is5. given _ _))))))

  one_behind : (place : ℕ) (t : At Token) (ts : Tokens) (q : ℕ) → At_or place ts q → At_or place (t ∷ ts) q
  one_behind place t ts q (inl e) = inl e
  one_behind place t ts q (inr m) = inr (behind q (t ∷ []) ts m)

  not_in_of_tells : (x : Token) (place : ℕ) (a : Found) (t : At Token) (ts : Tokens) → Deep (At_or place (t ∷ ts)) (not_in_of last inside' x place a t ts)
  not_in_of_tells (tok.word words.In s) place a t ts = up _ _ (in_at last inside' true place a.tree a.depth ts) (one_behind place t ts) (in_tells true place a.tree a.depth ts)
  not_in_of_tells (tok.word words.Between s) place a t ts = up _ _ (between_at last inside' true place a.tree a.depth ts) (one_behind place t ts) (between_tells true place a.tree a.depth ts)
  not_in_of_tells x place a t ts = refused _ (t ∷ ts)

  not_in_at_tells : (place : ℕ) (a : Found) (ts : Tokens) → Deep (At_or place ts) (not_in_at last inside' place a ts)
  not_in_at_tells place a [] = refused _ []
  not_in_at_tells place a (t ∷ ts) = not_in_of_tells t.tok place a t ts

  inn_of_tells : (x : Token) (t : At Token) (a : Found) (ts : Tokens) → t.tok ≡ x → Deep (λ q. Makes q (t ∷ ts)) (inn_of last inside' x t.span.start a ts)
  inn_of_tells (tok.word words.In s) t a ts h = up _ _ (in_at last inside' false t.span.start a.tree a.depth ts) (first_or t ts (ap may_go_on h)) (in_tells false t.span.start a.tree a.depth ts)
  inn_of_tells (tok.word words.Between s) t a ts h = up _ _ (between_at last inside' false t.span.start a.tree a.depth ts) (first_or t ts (ap may_go_on h)) (between_tells false t.span.start a.tree a.depth ts)
  inn_of_tells (tok.word words.Not s) t a ts h =
      next_in _ (deeper t.span.start a.depth) _ (tested _ t.span.start a.depth (here t ts (ap may_go_on h))) (λ x is.
      up _ _ (not_in_at last inside' t.span.start a ts) (first_or t ts (ap may_go_on h)) (not_in_at_tells t.span.start a ts))
  inn_of_tells x t a ts h = given _ a

  inn_more_tells : (a : Found) (ts : Tokens) → Deep (λ q. Makes q ts) (inn_more last inside' a ts)
  inn_more_tells a [] = given _ a
  inn_more_tells a (t ∷ ts) = inn_of_tells t.tok t a ts refl

  inn_tells : Tells (inn_at last inside')
  unfolding inn_at
  inn_tells ts = next_in _ (cat_at last inside' ts) _ (cat_tells ts) (λ a is. up _ _ (inn_more last inside' a a.rest) (λ q m. from q ts a.rest (took_end _ ts a (cat_sound last n inside' opens ts a is)) m) (inn_more_tells a a.rest))

  cmp_more_tells : (ts : Tokens) (a : Found) → Ends_in ts a.rest → (o : Option Found_op) → next_op comparison_op a.rest ≡ o → Deep (λ q. Makes q ts) (cmp_more last inside' o a)
  cmp_more_tells ts a s None h = given _ a
  cmp_more_tells ts a s (Some o) h =
      let k = next_is comparison_op comparison_goes a.rest o h in
      let m = from o.place ts a.rest s k.0 in
      next_in _ (deeper o.place a.depth) _ (tested _ o.place a.depth m) (λ x is.
      next_in _ (inn_at last inside' o.rest) _ (up _ _ (inn_at last inside' o.rest) (λ q r. from q ts o.rest (later ts a.rest o.rest s k.1) r) (inn_tells o.rest)) (λ b is'.
      next_in _ (deeper o.place (max a.depth b.depth)) _ (tested _ o.place (max a.depth b.depth) m) (λ d is''. given _ _)))

  cmp_tells : Tells (cmp_at last inside')
  unfolding cmp_at
  cmp_tells ts = next_in _ (inn_at last inside' ts) _ (inn_tells ts) (λ a is. cmp_more_tells ts a (took_end _ ts a (inn_sound last n inside' opens ts a is)) (next_op comparison_op a.rest) refl)

  is_node_tells : (M : ℕ → Type 0) (o : Option Truth) (neg : Bool) (e : Tree) (d : ℕ) (t : At Token) (ts : Tokens) → Deep M (is_node last o neg e d t ts)
  is_node_tells M None neg e d t ts = refused M (t ∷ ts)
  is_node_tells M (Some w) neg e d t ts = given M _

  truth_test_tells : (M : ℕ → Type 0) (neg : Bool) (e : Tree) (d : ℕ) (ts : Tokens) → Deep M (truth_test last neg e d ts)
  truth_test_tells M neg e d [] = refused M []
  truth_test_tells M neg e d (t ∷ ts) = is_node_tells M (truth_of t.tok) neg e d t ts

  after_is_tells : (M : ℕ → Type 0) (e : Tree) (d : ℕ) (ts : Tokens) → Deep M (after_is last e d ts)
  after_is_tells M e d [] = truth_test_tells M false e d []
  after_is_tells M e d (t ∷ ts) = of_test (is_not t.tok)
    where
      of_test : (b : Bool) → Deep M (if b then truth_test last true e d ts else truth_test last false e d (t ∷ ts))
      of_test true = truth_test_tells M true e d ts
      of_test false = truth_test_tells M false e d (t ∷ ts)

  is_goes : (t : Token) → is_is t ≡ true → may_go_on t ≡ true
  is_goes (tok.word words.Is s) e = refl
  is_goes _ e = absurd cc

  maybe_is_tells : (a : Found) (ts : Tokens) → Deep (λ q. Makes q ts) (maybe_is last a ts)
  maybe_is_tells a [] = given _ a
  maybe_is_tells a (t ∷ ts) = of_test (is_is t.tok) refl
    where
      of_test : (b : Bool) → is_is t.tok ≡ b → Deep (λ q. Makes q (t ∷ ts)) (if b then is_from last t.span.start a ts else Ok a)
      of_test true h = next_in _ (deeper t.span.start a.depth) _ (tested _ t.span.start a.depth (here t ts (is_goes t.tok h))) (λ d is. after_is_tells _ a.tree d ts)
      of_test false h = given _ a

  is_tells : Tells (is_at last inside')
  unfolding is_at
  is_tells ts = next_in _ (cmp_at last inside' ts) _ (cmp_tells ts) (λ a is. up _ _ (maybe_is last a a.rest) (λ q m. from q ts a.rest (took_end _ ts a (cmp_sound last n inside' opens ts a is)) m) (maybe_is_tells a a.rest))

  not_goes : (t : Token) → is_not t ≡ true → may_go_on t ≡ true
  not_goes (tok.word words.Not s) e = refl
  not_goes _ e = absurd cc

  not_tells : Tells (not_at last inside')
  unfolding negation_at
  not_tells [] = is_tells []
  not_tells (t ∷ ts) = of_test (is_not t.tok) refl
    where
      of_test : (b : Bool) → is_not t.tok ≡ b → Deep (λ q. Makes q (t ∷ ts)) (if b then negation_at last inside' t.span.start ts else is_at last inside' (t ∷ ts))
      of_test true h =
          next_in _ (inside' Negation t.span.start ts) _ (up _ _ (inside' Negation t.span.start ts) (first_or t ts (not_goes t.tok h)) (deep Negation t.span.start ts)) (λ e is.
          next_in _ (deeper t.span.start e.depth) _ (tested _ t.span.start e.depth (here t ts (not_goes t.tok h))) (λ d is'. given _ _))
      of_test false h = is_tells (t ∷ ts)

  and_tells : Tells (and_at last inside')
  unfolding and_at
  and_tells = chain_tells (not_at last inside') and_op and_goes (Spells n NOT) (not_sound last n inside' opens) not_tells

  pub or_tells : Tells (or_at last inside')
  unfolding or_at
  or_tells = chain_tells (and_at last inside') or_op or_goes (Spells n AND) (and_sound last n inside' opens) and_tells

  pub level_tells : (level : Opened) → Tells (at_level last inside' level)
  level_tells Whole = or_tells
  level_tells Negation = not_tells
  level_tells Unary = una_tells

-- behind an opening
inside_tells : (last n : ℕ) (level : Opened) (place : ℕ) (ts : Tokens) → Deep (λ q. (q ≡ place) ⊎ Makes q ts) (inside last n level place ts)
unfolding inside
inside_tells last zero level place ts = λ q h. inl (let same : q ≡ place = cc in same)
inside_tells last (suc n) level place ts = up _ _ (at_level last (inside last n) level ts) (λ q m. inr m) (level_tells last n (inside last n) (opens_sound last n) (inside_tells last n) level ts)

-- too deep is told at a token that makes a node
pub expr_tells : (last place : ℕ) (ts : Tokens) → expr_at last ts ≡ Err (TooDeep place) → Makes place ts
expr_tells last place ts e = or_tells last MAX_DEPTH (inside last MAX_DEPTH) (opens_sound last MAX_DEPTH) (inside_tells last MAX_DEPTH) ts place (sym (expr_same last ts) ∙ ap seen e)

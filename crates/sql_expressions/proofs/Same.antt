-- The words of reading read an expression as the code's pieces do.
use Rattle.std.proofs.Common.{◌≡◌, ℕ, zero, suc, ◌+◌, ◌<◌, ◌≤◌, is_some, Bool, true, false, List, [], ◌∷◌, ◌++◌, length, Option, Some, None, refl, sym, ap, ◌∙◌, subst, arith, rules, fold}
use Rattle.std.specs.Prelude.{Result, Ok, Err, ok_or, max, nat_lt, if◌then◌else◌}
use Rattle.std.specs.Option.{option_map_or}
use Rattle.std.proofs.lemmas.List.Sums.{fold_push}
use Rattle.iso_lexer.specs.declared.limits.TheConstants.{MAX_DEPTH}
use Rattle.iso_lexer.specs.Bytes.{row_of}
use Rattle.iso_lexer.specs.declared.token.At.{At}
use Rattle.iso_lexer.specs.declared.sql_token.SqlSign.TheVariants as signs
use Rattle.sql_trees.specs.declared.fault.SqlFault.{SqlFault}
use Rattle.sql_trees.specs.declared.fault.SqlFault.TheVariants.{LeftOut, TooDeep, Memory}
use Rattle.sql_trees.specs.declared.word.Word.TheVariants as words
use Rattle.sql_trees.specs.declared.expr.AggKind.{AggKind}
use Rattle.sql_trees.specs.declared.expr.Operator.{Operator}
use Rattle.sql_trees.specs.declared.expr.Truth.{Truth}
use Rattle.sql_trees.specs.Tokens.{Token, Tokens, named}
use Rattle.sql_trees.specs.Tokens as tok
use Rattle.sql_trees.specs.Trees.{Tree, none, more, Column, Plus, Not, Binary, Is, In, Between}
use Rattle.sql_expressions.specs.declared.level.Chain.TheVariants as levels
use Rattle.sql_expressions.specs.declared.level.Opened.{Opened}
use Rattle.sql_expressions.specs.declared.level.Opened.TheVariants.{Whole, Negation, Unary}
use Rattle.sql_expressions.specs.Build.{negated, push}
use Rattle.sql_expressions.specs.Results.{◌>>=◌, Gives}
use Rattle.sql_expressions.specs.Readers.{Reader, made, is_word, is_sign, either, by_first, one_at, gives, added, more_at, items_at, place_of, misplaced, expect, keyword, closed}
use Rattle.sql_expressions.specs.Reading.{Part, trees_in, shallow, node, literal_of, truth_of, agg_kind, operators, comparison_op, within_opening, expr_at}
use Rattle.sql_expressions.specs.Reading as reading
use Rattle.sql_expressions.specs.Inner.Pieces.{Found, Found_list, leaf, is_and, is_not, is_is, deeper, join, found_op, next_op, chain_end, chain_turn, chain_more, chain, list_turn, list_more, list_at, column_at, name_at, is_node, truth_test, after_is, maybe_is, parens_at, prim_of, prim_at, sign_at, una_of, una_at, mul_at, add_at, cat_at, in_at, between_at, not_in_of, not_in_at, not_in_from, inn_of, inn_more, inn_at, cmp_more, cmp_at, is_at, negation_at, not_at, and_at, or_at, inside}

-- ---- what a part that was read is to the code

abbrev pub part : Tree → ℕ → Part
part e d = record { tree = e; depth = d }

abbrev pub as_found : Part × Tokens → Found
as_found x = record { tree = x.0.tree; depth = x.0.depth; rest = x.1 }

abbrev deepest : ℕ → List Part → ℕ
deepest d es = fold (λ c e. max c e.depth) d es

abbrev as_list : List Part × Tokens → Found_list
as_list x = record { trees = trees_in x.0; depth = deepest 0 x.0; rest = x.1 }

abbrev pub seen : Result (Part × Tokens) SqlFault → Result Found SqlFault
seen r = r >>= λ x. Ok (as_found x)

-- a part is read, and the code's piece finds it
abbrev Same : Result (Part × Tokens) SqlFault → Result Found SqlFault → Type 0
Same r q = seen r ≡ q

abbrev SameList : Result (List Part × Tokens) SqlFault → Result Found_list SqlFault → Type 0
SameList r q = (r >>= λ x. Ok (as_list x)) ≡ q

-- ---- one after another

bind_assoc : {A B C : Type 0} (r : Result A SqlFault) (f : A → Result B SqlFault) (g : B → Result C SqlFault) → ((r >>= f) >>= g) ≡ (r >>= λ x. f x >>= g)
bind_assoc (Ok x) f g = refl
bind_assoc (Err e) f g = refl

ok_same : (r : Result Found SqlFault) → (r >>= λ c. Ok c) ≡ r
ok_same (Ok x) = refl
ok_same (Err e) = refl

then_same : (r : Result (Part × Tokens) SqlFault) (q : Result Found SqlFault) (k : Part × Tokens → Result (Part × Tokens) SqlFault) (h : Found → Result Found SqlFault) → Same r q → ((x : Part × Tokens) → Same (k x) (h (as_found x))) → Same (r >>= k) (q >>= h)
then_same (Ok x) q k h e f = subst (λ (z : Result Found SqlFault). Same (k x) (z >>= h)) e (f x)
then_same (Err g) q k h e f = subst (λ (z : Result Found SqlFault). Same (Err g) (z >>= h)) e refl

list_then : (r : Result (List Part × Tokens) SqlFault) (q : Result Found_list SqlFault) (k : List Part × Tokens → Result (Part × Tokens) SqlFault) (h : Found_list → Result Found SqlFault) → SameList r q → ((x : List Part × Tokens) → Same (k x) (h (as_list x))) → Same (r >>= k) (q >>= h)
list_then (Ok x) q k h e f = subst (λ (z : Result Found_list SqlFault). Same (k x) (z >>= h)) e (f x)
list_then (Err g) q k h e f = subst (λ (z : Result Found_list SqlFault). Same (Err g) (z >>= h)) e refl

pass_then : (r : Result Tokens SqlFault) (k : Tokens → Result (Part × Tokens) SqlFault) (h : Tokens → Result Found SqlFault) → ((us : Tokens) → Same (k us) (h us)) → Same (r >>= k) (r >>= h)
pass_then (Ok us) k h f = f us
pass_then (Err e) k h f = refl

-- a test of the depth, and what follows it
shallow_lets : (place d : ℕ) (ts : Tokens) (k : Tokens → Result (Part × Tokens) SqlFault) (h : ℕ → Result Found SqlFault) → (d < MAX_DEPTH → Same (k ts) (h (d + 1))) → Same (shallow place d ts >>= k) (deeper place d >>= h)
shallow_lets place d ts k h e = of_test (nat_lt d MAX_DEPTH) refl
  where
    of_test : (b : Bool) → nat_lt d MAX_DEPTH ≡ b → (let r : Result Tokens SqlFault = if b then Ok ts else Err (TooDeep place) in let q : Result ℕ SqlFault = if b then Ok (d + 1) else Err (TooDeep place) in Same (r >>= k) (q >>= h))
    of_test true t = e (search rules)
    of_test false t = refl

shallow_then : (place d : ℕ) (ts : Tokens) (k : Tokens → Result (Part × Tokens) SqlFault) (h : ℕ → Result Found SqlFault) → Same (k ts) (h (d + 1)) → Same (shallow place d ts >>= k) (deeper place d >>= h)
shallow_then place d ts k h e = shallow_lets place d ts k h (λ l. e)

is_shallow : (place d : ℕ) (ts : Tokens) → d < MAX_DEPTH → shallow place d ts ≡ Ok ts
is_shallow place d ts l = let e : nat_lt d MAX_DEPTH ≡ true = search rules in rw e refl

-- a node, and what follows it
node_then : (place d : ℕ) (e : Tree) (ts : Tokens) (k : Part × Tokens → Result (Part × Tokens) SqlFault) (h : ℕ → Result Found SqlFault) → Same (k (part e (d + 1), ts)) (h (d + 1)) → Same (node place d e ts >>= k) (deeper place d >>= h)
node_then place d e ts k h s = of_test (nat_lt d MAX_DEPTH)
  where
    of_test : (b : Bool) → (let r : Result Tokens SqlFault = if b then Ok ts else Err (TooDeep place) in let q : Result ℕ SqlFault = if b then Ok (d + 1) else Err (TooDeep place) in Same ((r >>= λ us. Ok (part e (d + 1), us)) >>= k) (q >>= h))
    of_test true = s
    of_test false = refl

node_same : (place d : ℕ) (e : Tree) (ts : Tokens) → Same (node place d e ts) (deeper place d >>= λ x. Ok (record { tree = e; depth = x; rest = ts }))
node_same place d e ts = shallow_then place d ts (λ us. Ok (part e (d + 1), us)) (λ x. Ok (record { tree = e; depth = x; rest = ts })) refl

-- ---- a first token of a kind

is_and_word : (x : Token) → is_word words.And x ≡ is_and x
is_and_word (tok.word words.And s) = refl
is_and_word _ = refl

is_not_word : (x : Token) → is_word words.Not x ≡ is_not x
is_not_word (tok.word words.Not s) = refl
is_not_word _ = refl

is_is_word : (x : Token) → is_word words.Is x ≡ is_is x
is_is_word (tok.word words.Is s) = refl
is_is_word _ = refl

either_same : (is_it : Token → Bool) (b : Bool) (t : At Token) (ts : Tokens) (behind others : Tokens → Result (Part × Tokens) SqlFault) (p q : Result Found SqlFault) → is_it t.tok ≡ b → Same (behind ts) p → Same (others (t ∷ ts)) q → Same (either is_it behind others (t ∷ ts)) (if b then p else q)
either_same is_it true t ts behind others p q h f g = rw h f
either_same is_it false t ts behind others p q h f g = rw h g

-- ---- chains

-- a node over these parts, and what goes on with it
joined_then : (place d : ℕ) (e : Tree) (ts : Tokens) (k : Part × Tokens → Result (Part × Tokens) SqlFault) (go : Found → Result Found SqlFault) → (d < MAX_DEPTH → Same (k (part e (d + 1), ts)) (go (as_found (part e (d + 1), ts))))
    → Same (node place d e ts >>= k) ((deeper place d >>= λ x. Ok (record { tree = e; depth = x; rest = ts })) >>= go)
joined_then place d e ts k go h = of_test (nat_lt d MAX_DEPTH) refl
  where
    of_test : (b : Bool) → nat_lt d MAX_DEPTH ≡ b → (let r : Result Tokens SqlFault = if b then Ok ts else Err (TooDeep place) in let q : Result ℕ SqlFault = if b then Ok (d + 1) else Err (TooDeep place) in Same ((r >>= λ us. Ok (part e (d + 1), us)) >>= k) ((q >>= λ x. Ok (record { tree = e; depth = x; rest = ts })) >>= go))
    of_test true t = h (search rules)
    of_test false t = refl

too_deep : (place d : ℕ) (ts : Tokens) → MAX_DEPTH ≤ d → shallow place d ts ≡ Err (TooDeep place)
too_deep place d ts h = let e : nat_lt d MAX_DEPTH ≡ false = search rules in rw e refl

module _ (read : Reader Part) (operand : Tokens → Result Found SqlFault) (same : (ts : Tokens) → Same (read ts) (operand ts)) where
  turn_same : (o : Operator) (place : ℕ) (a : Part) (us ts : Tokens) (k : Part × Tokens → Result (Part × Tokens) SqlFault) (go : Found → Result Found SqlFault)
      → ((x : Part × Tokens) → a.depth < x.0.depth → Same (k x) (go (as_found x)))
      → Same (shallow place a.depth ts >>= λ vs. read vs >>= λ b. node place (max a.depth b.0.depth) (Binary o a.tree b.0.tree) b.1 >>= k)
      (deeper place a.depth >>= λ here. operand ts >>= λ b. join (record { op = o; place = place; rest = ts }) (as_found (a, us)) b >>= go)
  turn_same o place a us ts k go h =
      shallow_then place a.depth ts _ _ (then_same (read ts) (operand ts) _ _ (same ts) (λ b. joined_then place (max a.depth b.0.depth) (Binary o a.tree b.0.tree) b.1 k go (λ l. h (part (Binary o a.tree b.0.tree) (max a.depth b.0.depth + 1), b.1) (omega arith))))

  chain_more_same : (last : ℕ) (op_of : Token → Option Operator) (n : ℕ) (a : Part) (ts : Tokens) → MAX_DEPTH ≤ n + a.depth → Same (reading.chain_more last read op_of (suc n) a ts) (chain_more operand op_of n (as_found (a, ts)))
  unfolding reading.chain_more chain_more
  chain_more_same last op_of zero a [] l = refl
  chain_more_same last op_of zero a (t ∷ ts) l = of_op (op_of t.tok)
    where
      of_op : (m : Option Operator) → Same (option_map_or (λ o. shallow t.span.start a.depth ts >>= λ vs. read vs >>= λ b. node t.span.start (max a.depth b.0.depth) (Binary o a.tree b.0.tree) b.1 >>= λ c. reading.chain_more last read op_of zero c.0 c.1) m (Ok (a, t ∷ ts))) (chain_end (found_op t ts m) (as_found (a, t ∷ ts)))
      of_op None = refl
      of_op (Some o) = rw (too_deep t.span.start a.depth ts (omega arith)) refl
  chain_more_same last op_of (suc n) a [] l = refl
  chain_more_same last op_of (suc n) a (t ∷ ts) l = of_op (λ b us h. chain_more_same last op_of n b us (omega arith)) (op_of t.tok)
    where
      of_op : ((b : Part) (us : Tokens) → a.depth < b.depth → Same (reading.chain_more last read op_of (suc n) b us) (chain_more operand op_of n (as_found (b, us)))) → (m : Option Operator)
          → Same (option_map_or (λ o. shallow t.span.start a.depth ts >>= λ vs. read vs >>= λ b. node t.span.start (max a.depth b.0.depth) (Binary o a.tree b.0.tree) b.1 >>= λ c. reading.chain_more last read op_of (suc n) c.0 c.1) m (Ok (a, t ∷ ts))) (chain_turn operand (chain_more operand op_of n) (found_op t ts m) (as_found (a, t ∷ ts)))
      of_op on None = refl
      of_op on (Some o) = turn_same o t.span.start a (t ∷ ts) ts (λ c. reading.chain_more last read op_of (suc n) c.0 c.1) (chain_more operand op_of n) (λ x h. on x.0 x.1 h)

  -- a comparison, of which one stands there at most
  once_same : (last : ℕ) (op_of : Token → Option Operator) (a : Part) (ts : Tokens) → Same (reading.chain_more last read op_of 1 a ts) (chain_turn operand (λ c. Ok c) (next_op op_of ts) (as_found (a, ts)))
  unfolding reading.chain_more
  once_same last op_of a [] = refl
  once_same last op_of a (t ∷ ts) = of_op (op_of t.tok)
    where
      of_op : (m : Option Operator) → Same (option_map_or (λ o. shallow t.span.start a.depth ts >>= λ vs. read vs >>= λ b. node t.span.start (max a.depth b.0.depth) (Binary o a.tree b.0.tree) b.1 >>= λ c. Ok (c.0, c.1)) m (Ok (a, t ∷ ts))) (chain_turn operand (λ c. Ok c) (found_op t ts m) (as_found (a, t ∷ ts)))
      of_op None = refl
      of_op (Some o) = turn_same o t.span.start a (t ∷ ts) ts (λ c. Ok (c.0, c.1)) (λ c. Ok c) (λ x h. refl)

  -- ---- lists

  abbrev grown : List Part → Part → List Part
  grown l e = l ++ e ∷ []

  pushed : (l : List Part) (e : Part) → trees_in (grown l e) ≡ push (trees_in l) e.tree
  pushed [] e = refl
  pushed (x ∷ xs) e = ap (more x.tree) (pushed xs e)

  abbrev put_in : Found_list → Found → Found_list
  put_in l e = record { trees = push l.trees e.tree; depth = max l.depth e.depth; rest = e.rest }

  grown_is : (l : List Part) (ts us : Tokens) (e : Part) → as_list (grown l e, us) ≡ put_in (as_list (l, ts)) (as_found (e, us))
  grown_is l ts us e = rw (pushed l e, fold_push (λ c f. max c f.depth) 0 l e) refl

  add_then : (r : Result (Part × Tokens) SqlFault) (q : Result Found SqlFault) (l : List Part) (k : List Part × Tokens → Result (List Part × Tokens) SqlFault) (h : Found → Result Found_list SqlFault) → Same r q → ((x : Part × Tokens) → SameList (k (grown l x.0, x.1)) (h (as_found x))) → SameList ((r >>= λ x. Ok (grown l x.0, x.1)) >>= k) (q >>= h)
  add_then (Ok x) q l k h e f = subst (λ (z : Result Found SqlFault). SameList (k (grown l x.0, x.1)) (z >>= h)) e (f x)
  add_then (Err g) q l k h e f = subst (λ (z : Result Found SqlFault). SameList (Err g) (z >>= h)) e refl

  more_same : (n : ℕ) (l : List Part) (ts : Tokens) → SameList (more_at (added read) n l ts) (list_more operand n (as_list (l, ts)))
  unfolding more_at list_more
  more_same zero l ts = refl
  more_same (suc n) l [] = refl
  more_same (suc n) l (t ∷ ts) = of_test (more_same n) (is_sign signs.Comma t.tok)
    where
      of_test : ((m : List Part) (us : Tokens) → SameList (more_at (added read) n m us) (list_more operand n (as_list (m, us)))) → (b : Bool) → SameList (option_map_or (λ us. added read l us >>= λ x. more_at (added read) n x.0 x.1) (if b then Some ts else None) (Ok (l, t ∷ ts))) (list_turn operand (list_more operand n) (if b then Some ts else None) (as_list (l, t ∷ ts)))
      of_test on true = add_then (read ts) (operand ts) l (λ x. more_at (added read) n x.0 x.1) (λ e. list_more operand n (put_in (as_list (l, t ∷ ts)) e)) (same ts) (λ x. on (grown l x.0) x.1 ∙ ap (list_more operand n) (grown_is l (t ∷ ts) x.1 x.0))
      of_test on false = refl

  zero_max : (d : ℕ) → max 0 d ≡ d
  zero_max d = omega arith

  list_same : (ts : Tokens) → SameList (items_at (added read) [] ts) (list_at operand ts)
  unfolding items_at list_at
  list_same ts = add_then (read ts) (operand ts) [] (λ x. more_at (added read) (length ts) x.0 x.1) (λ e. list_more operand (length ts) (record { trees = more e.tree none; depth = e.depth; rest = e.rest })) (same ts)
      (λ x. more_same (length ts) (x.0 ∷ []) x.1 ∙ ap (λ d. list_more operand (length ts) (record { trees = more x.0.tree none; depth = d; rest = x.1 })) (zero_max x.0.depth))

chain_same : (last : ℕ) (read : Reader Part) (operand : Tokens → Result Found SqlFault) (level : _) → ((ts : Tokens) → Same (read ts) (operand ts)) → (ts : Tokens) → Same (reading.chain last read level ts) (chain operand (operators level) ts)
unfolding reading.chain chain
chain_same last read operand level same ts = then_same (read ts) (operand ts) (λ x. reading.chain_more last read (operators level) (suc MAX_DEPTH) x.0 x.1) (chain_more operand (operators level) MAX_DEPTH) (same ts) (λ x. chain_more_same read operand same last (operators level) MAX_DEPTH x.0 x.1 (omega arith))

-- the deepest of a list and what stands before it
max_assoc : (a b c : ℕ) → max (max a b) c ≡ max a (max b c)
max_assoc a b c = omega arith

max_none : (a : ℕ) → max a 0 ≡ a
max_none a = omega arith

deepest_is : (a d : ℕ) (es : List Part) → deepest (max a d) es ≡ max a (deepest d es)
deepest_is a d [] = refl
deepest_is a d (e ∷ es) = ap (λ c. deepest c es) (max_assoc a d e.depth) ∙ deepest_is a (max d e.depth) es

deepest_from : (a : ℕ) (es : List Part) → deepest a es ≡ max a (deepest 0 es)
deepest_from a es = ap (λ c. deepest c es) (sym (max_none a)) ∙ deepest_is a 0 es

-- ---- the levels

-- a part that is no node
abbrev as_leaf : Result (Tree × Tokens) SqlFault → Result (Part × Tokens) SqlFault
as_leaf r = r >>= λ x. Ok (part x.0 0, x.1)

module _ (last : ℕ) where
  -- what an IS, or an IS NOT, asks of this operand
  abbrev asked_at : Bool → ℕ → Part → Reader Part
  asked_at neg place a ts = one_at (misplaced last) truth_of ts >>= λ w. node place a.depth (Is a.tree neg w.0) w.1

  abbrev is_behind : Part → Reader Part
  is_behind a ts = either (is_word words.Is) (λ us. shallow (place_of last ts) a.depth us >>= λ vs. either (is_word words.Not) (gives true) (gives false) vs >>= λ n. asked_at n.0 (place_of last ts) a n.1) (gives a) ts

  truth_same : (neg : Bool) (place : ℕ) (a : Part) (ts : Tokens) → a.depth < MAX_DEPTH → Same (asked_at neg place a ts) (truth_test last neg a.tree (a.depth + 1) ts)
  truth_same neg place a [] l = refl
  truth_same neg place a (t ∷ ts) l = of_truth (truth_of t.tok)
    where
      of_truth : (o : Option Truth) → (let r : Result (Truth × Tokens) SqlFault = option_map_or (λ w. Ok (w, ts)) o (Err (misplaced last (t ∷ ts))) in Same (r >>= λ x. node place a.depth (Is a.tree neg x.0) x.1) (is_node last o neg a.tree (a.depth + 1) t ts))
      of_truth None = refl
      of_truth (Some w) = rw (is_shallow place a.depth ts l) refl

  after_is_same : (place : ℕ) (a : Part) (ts : Tokens) → a.depth < MAX_DEPTH → Same (either (is_word words.Not) (gives true) (gives false) ts >>= λ n. asked_at n.0 place a n.1) (after_is last a.tree (a.depth + 1) ts)
  after_is_same place a [] l = truth_same false place a [] l
  after_is_same place a (t ∷ ts) l = of_test (is_not t.tok) (is_not_word t.tok)
    where
      of_test : (b : Bool) → is_word words.Not t.tok ≡ b → Same (either (is_word words.Not) (gives true) (gives false) (t ∷ ts) >>= λ n. asked_at n.0 place a n.1) (if b then truth_test last true a.tree (a.depth + 1) ts else truth_test last false a.tree (a.depth + 1) (t ∷ ts))
      of_test true e = rw e (truth_same true place a ts l)
      of_test false e = rw e (truth_same false place a (t ∷ ts) l)

  maybe_is_same : (a : Part) (ts : Tokens) → Same (is_behind a ts) (maybe_is last (as_found (a, ts)) ts)
  maybe_is_same a [] = refl
  maybe_is_same a (t ∷ ts) =
      either_same (is_word words.Is) (is_is t.tok) t ts (λ us. shallow t.span.start a.depth us >>= λ vs. either (is_word words.Not) (gives true) (gives false) vs >>= λ n. asked_at n.0 t.span.start a n.1) (λ us. Ok (a, us)) _ _ (is_is_word t.tok)
      (shallow_lets t.span.start a.depth ts (λ vs. either (is_word words.Not) (gives true) (gives false) vs >>= λ n. asked_at n.0 t.span.start a n.1) (λ d. after_is last a.tree d ts) (after_is_same t.span.start a ts)) refl

  call_same : (n : List ℕ) (t : At Token) (ts : Tokens) → Same (as_leaf (either (is_sign signs.Open) (λ vs. Err (LeftOut (place_of last (by_first agg_kind (λ k ws. t ∷ ts) (λ ws. ts) (t ∷ ts))))) (gives (Column n)) ts)) (column_at last t n ts)
  call_same n t [] = refl
  call_same n t (u ∷ us) = of_test (agg_kind t.tok) (is_sign signs.Open u.tok)
    where
      of_test : (o : Option AggKind) (b : Bool) → Same (as_leaf (option_map_or (λ vs. Err (LeftOut (place_of last (option_map_or (λ k. t ∷ u ∷ us) o (u ∷ us))))) (if b then Some us else None) (Ok (Column n, u ∷ us)))) (if b then Err (LeftOut (if is_some o then t.span.start else u.span.start)) else leaf (Column n) (u ∷ us))
      of_test None true = refl
      of_test None false = refl
      of_test (Some k) true = refl
      of_test (Some k) false = refl

  column_same : (t : At Token) (ts : Tokens) → Same (as_leaf (reading.column_at last (t ∷ ts))) (name_at last (named t.tok) t ts)
  column_same t ts = of_name (named t.tok)
    where
      of_name : (o : Option (List ℕ)) → (let r : Result (List ℕ × Tokens) SqlFault = option_map_or (λ n. Ok (n, ts)) o (Err (misplaced last (t ∷ ts))) in Same (as_leaf (r >>= λ y. either (is_sign signs.Open) (λ vs. Err (LeftOut (place_of last (by_first agg_kind (λ k ws. t ∷ ts) (λ ws. y.1) (t ∷ ts))))) (gives (Column y.0)) y.1)) (name_at last o t ts))
      of_name None = refl
      of_name (Some n) = call_same n t ts

  and_then : (ts : Tokens) (k : Tokens → Result (Part × Tokens) SqlFault) (h : Tokens → Result Found SqlFault) → ((us : Tokens) → Same (k us) (h us)) → Same (keyword last words.And ts >>= k) (expect last is_and ts >>= h)
  and_then [] k h f = refl
  and_then (t ∷ ts) k h f = of_test (is_and t.tok) (is_and_word t.tok)
    where
      of_test : (b : Bool) → is_word words.And t.tok ≡ b → (let q : Result Tokens SqlFault = ok_or (if b then Some ts else None) (misplaced last (t ∷ ts)) in Same (keyword last words.And (t ∷ ts) >>= k) (q >>= h))
      of_test true e = rw e (f ts)
      of_test false e = rw e refl

  -- a part before a closing parenthesis
  abbrev shut : Part × Tokens → Result (Part × Tokens) SqlFault
  shut x = expect last (is_sign signs.Close) x.1 >>= λ rest. Ok (x.0, rest)

  shut_same : (place d : ℕ) (e : Tree) (ts : Tokens) → Same (node place d e ts >>= shut) (deeper place d >>= λ x. expect last (is_sign signs.Close) ts >>= λ rest. Ok (record { tree = e; depth = x; rest = rest }))
  shut_same place d e ts = node_then place d e ts shut (λ x. expect last (is_sign signs.Close) ts >>= λ rest. Ok (record { tree = e; depth = x; rest = rest }))
      (pass_then (expect last (is_sign signs.Close) ts) (λ rest. Ok (part e (d + 1), rest)) (λ rest. Ok (record { tree = e; depth = d + 1; rest = rest })) (λ us. refl))

  module _ (within : Opened → ℕ → Reader Part) (inside' : Opened → ℕ → Tokens → Result Found SqlFault) (same : (level : Opened) (place : ℕ) (ts : Tokens) → Same (within level place ts) (inside' level place ts)) where
    opened_same : (level : Opened) (make : Tree → Tree) (place : ℕ) (ts : Tokens) → Same (within_opening last within level make place ts) (inside' level place ts >>= λ e. deeper place e.depth >>= λ d. Ok (record { tree = make e.tree; depth = d; rest = e.rest }))
    opened_same level make place ts =
        then_same (within level place ts) (inside' level place ts) (λ x. node place x.0.depth (make x.0.tree) x.1) (λ e. deeper place e.depth >>= λ d. Ok (record { tree = make e.tree; depth = d; rest = e.rest })) (same level place ts) (λ x. node_same place x.0.depth (make x.0.tree) x.1)

    parens_same : (place : ℕ) (ts : Tokens) → Same (closed last (λ e. e) (within_opening last within Whole (λ e. e) place) ts) (parens_at last inside' place ts)
    unfolding parens_at
    parens_same place ts =
        ap seen (bind_assoc (within Whole place ts) (λ x. node place x.0.depth x.0.tree x.1) shut)
        ∙ then_same (within Whole place ts) (inside' Whole place ts) (λ x. node place x.0.depth x.0.tree x.1 >>= shut) (λ e. deeper place e.depth >>= λ d. expect last (is_sign signs.Close) e.rest >>= λ rest. Ok (record { tree = e.tree; depth = d; rest = rest })) (same Whole place ts) (λ x. shut_same place x.0.depth x.0.tree x.1)

    -- an operand with no sign before it
    abbrev unsigned_at : Reader Part
    unsigned_at ts = either (is_sign signs.Open) (closed last (λ e. e) (within_opening last within Whole (λ e. e) (place_of last ts))) (made (λ e. part e 0) (by_first literal_of gives (reading.column_at last))) ts

    prim_same : (ts : Tokens) → Same (unsigned_at ts) (prim_at last inside' ts)
    prim_same [] = refl
    prim_same (t ∷ ts) = of_tok t.tok (column_same t ts)
      where
        of_tok : (x : Token) → Same (as_leaf (reading.column_at last (t ∷ ts))) (name_at last (named x) t ts) → Same (option_map_or (closed last (λ e. e) (within_opening last within Whole (λ e. e) t.span.start)) (if is_sign signs.Open x then Some ts else None) (as_leaf (option_map_or (λ e. Ok (e, ts)) (literal_of x) (reading.column_at last (t ∷ ts))))) (prim_of last inside' x t ts)
        of_tok (tok.number n) c = refl
        of_tok (tok.string s) c = refl
        of_tok (tok.word words.True s) c = refl
        of_tok (tok.word words.False s) c = refl
        of_tok (tok.word words.Null s) c = refl
        of_tok (tok.sign signs.Open) c = parens_same t.span.start ts
        of_tok x c = c

    una_same : (ts : Tokens) → Same (reading.una_at last within ts) (una_at last inside' ts)
    unfolding sign_at
    una_same [] = prim_same []
    una_same (t ∷ ts) = of_tok t.tok
      where
        of_tok : (x : Token) → Same (option_map_or (λ make. within_opening last within Unary make t.span.start ts) (row_of is_sign ((signs.Minus, negated) ∷ (signs.Plus, Plus) ∷ []) x) (unsigned_at (t ∷ ts))) (una_of last inside' x t ts)
        of_tok (tok.sign signs.Minus) = opened_same Unary negated t.span.start ts
        of_tok (tok.sign signs.Plus) = opened_same Unary Plus t.span.start ts
        of_tok _ = prim_same (t ∷ ts)

    mul_same : (ts : Tokens) → Same (reading.chain last (reading.una_at last within) levels.Product ts) (mul_at last inside' ts)
    unfolding mul_at
    mul_same ts = chain_same last (reading.una_at last within) (una_at last inside') levels.Product una_same ts

    add_same : (ts : Tokens) → Same (reading.chain last (reading.chain last (reading.una_at last within) levels.Product) levels.Sum ts) (add_at last inside' ts)
    unfolding add_at
    add_same ts = chain_same last (reading.chain last (reading.una_at last within) levels.Product) (mul_at last inside') levels.Sum mul_same ts

    cat_same : (ts : Tokens) → Same (reading.cat_at last within ts) (cat_at last inside' ts)
    unfolding reading.cat_at cat_at
    cat_same ts = chain_same last (reading.chain last (reading.chain last (reading.una_at last within) levels.Product) levels.Sum) (add_at last inside') levels.Concat add_same ts

    -- a list, its node and the closing parenthesis
    in_list_same : (neg : Bool) (place from : ℕ) (a : Part) (ts : Tokens) → Same (closed last (λ e. e) (λ us. items_at (added (within Whole from)) [] us >>= λ x. node place (deepest a.depth x.0) (In a.tree neg (trees_in x.0)) x.1) ts) (list_at (inside' Whole from) ts >>= λ items. deeper place (max a.depth items.depth) >>= λ d. expect last (is_sign signs.Close) items.rest >>= λ rest. Ok (record { tree = In a.tree neg items.trees; depth = d; rest = rest }))
    in_list_same neg place from a ts =
        ap seen (bind_assoc (items_at (added (within Whole from)) [] ts) (λ x. node place (deepest a.depth x.0) (In a.tree neg (trees_in x.0)) x.1) shut)
        ∙ list_then (items_at (added (within Whole from)) [] ts) (list_at (inside' Whole from) ts) (λ x. node place (deepest a.depth x.0) (In a.tree neg (trees_in x.0)) x.1 >>= shut) (λ items. deeper place (max a.depth items.depth) >>= λ d. expect last (is_sign signs.Close) items.rest >>= λ rest. Ok (record { tree = In a.tree neg items.trees; depth = d; rest = rest })) (list_same (within Whole from) (inside' Whole from) (same Whole from) ts)
        (λ x. rw (deepest_from a.depth x.0) (shut_same place (max a.depth (deepest 0 x.0)) (In a.tree neg (trees_in x.0)) x.1))

    in_same : (neg : Bool) (place : ℕ) (a : Part) (ts : Tokens) → Same (shallow place a.depth ts >>= reading.in_at last within neg place a) (in_at last inside' neg place a.tree a.depth ts)
    unfolding reading.in_at in_at
    in_same neg place a ts =
        shallow_then place a.depth ts _ _ (pass_then (expect last (is_sign signs.Open) ts) _ _ (λ us. in_list_same neg place (place_of last ts) a us))

    between_same : (neg : Bool) (place : ℕ) (a : Part) (ts : Tokens) → Same (shallow place a.depth ts >>= reading.between_at last within neg place a) (between_at last inside' neg place a.tree a.depth ts)
    unfolding reading.between_at between_at
    between_same neg place a ts =
        shallow_then place a.depth ts _ _
        (then_same (reading.cat_at last within ts) (cat_at last inside' ts) _ _ (cat_same ts) (λ low. shallow_then place (max a.depth low.0.depth) low.1 _ _
        (and_then low.1 _ _ (λ us. then_same (reading.cat_at last within us) (cat_at last inside' us) _ _ (cat_same us) (λ high. node_same place (max a.depth (max low.0.depth high.0.depth)) (Between a.tree neg low.0.tree high.0.tree) high.1)))))

    -- behind a NOT, whose place may hold a node
    not_test_same : (place : ℕ) (a : Part) (rs ts : Tokens) → a.depth < MAX_DEPTH → Same (one_at (misplaced last) (reading.test_of last within) ts >>= λ x. x.0 true place a x.1) (not_in_at last inside' place (as_found (a, rs)) ts)
    not_test_same place a rs [] l = refl
    not_test_same place a rs (t ∷ ts) l = of_tok t.tok
      where
        of_tok : (x : Token) → (let r : Result ((Bool → ℕ → Part → Reader Part) × Tokens) SqlFault = option_map_or (λ test. Ok (test, ts)) (reading.test_of last within x) (Err (misplaced last (t ∷ ts))) in Same (r >>= λ y. y.0 true place a y.1) (not_in_of last inside' x place (as_found (a, rs)) t ts))
        of_tok (tok.word words.In s) = subst (λ r. Same (r >>= reading.in_at last within true place a) (in_at last inside' true place a.tree a.depth ts)) (is_shallow place a.depth ts l) (in_same true place a ts)
        of_tok (tok.word words.Between s) = subst (λ r. Same (r >>= reading.between_at last within true place a) (between_at last inside' true place a.tree a.depth ts)) (is_shallow place a.depth ts l) (between_same true place a ts)
        of_tok _ = refl

    abbrev not_behind : ℕ → Part → Reader Part
    not_behind place a ts = shallow place a.depth ts >>= λ us. one_at (misplaced last) (reading.test_of last within) us >>= λ x. x.0 true place a x.1

    not_in_same : (place : ℕ) (a : Part) (rs ts : Tokens) → Same (not_behind place a ts) (not_in_from last inside' place (as_found (a, rs)) ts)
    not_in_same place a rs ts = shallow_lets place a.depth ts _ (λ here. not_in_at last inside' place (as_found (a, rs)) ts) (not_test_same place a rs ts)

    abbrev test_behind : Part → Reader Part
    test_behind a ts = by_first (reading.test_of last within) (λ test us. shallow (place_of last ts) a.depth us >>= test false (place_of last ts) a) (either (is_word words.Not) (not_behind (place_of last ts) a) (gives a)) ts

    inn_more_same : (a : Part) (ts : Tokens) → Same (test_behind a ts) (inn_more last inside' (as_found (a, ts)) ts)
    inn_more_same a [] = refl
    inn_more_same a (t ∷ ts) = of_tok t.tok
      where
        of_tok : (x : Token) → Same (option_map_or (λ test. shallow t.span.start a.depth ts >>= test false t.span.start a) (reading.test_of last within x) (option_map_or (not_behind t.span.start a) (if is_word words.Not x then Some ts else None) (Ok (a, t ∷ ts)))) (inn_of last inside' x t.span.start (as_found (a, t ∷ ts)) ts)
        of_tok (tok.word words.In s) = in_same false t.span.start a ts
        of_tok (tok.word words.Between s) = between_same false t.span.start a ts
        of_tok (tok.word words.Not s) = not_in_same t.span.start a (t ∷ ts) ts
        of_tok _ = refl

    inn_same : (ts : Tokens) → Same (reading.inn_at last within ts) (inn_at last inside' ts)
    unfolding reading.inn_at inn_at
    inn_same ts = then_same (reading.cat_at last within ts) (cat_at last inside' ts) (λ x. test_behind x.0 x.1) (λ a. inn_more last inside' a a.rest) (cat_same ts) (λ x. inn_more_same x.0 x.1)

    turn_is : (o : Option _) (a : Found) → chain_turn (inn_at last inside') (λ c. Ok c) o a ≡ cmp_more last inside' o a
    turn_is None a = refl
    turn_is (Some o) a = of_depth (deeper o.place a.depth) (inn_at last inside' o.rest) (join o a)
      where
        of_depth : (d : Result ℕ SqlFault) (r : Result Found SqlFault) (j : Found → Result Found SqlFault) → (d >>= λ here. r >>= λ b. j b >>= λ c. Ok c) ≡ (d >>= λ here. r >>= j)
        of_depth (Err e) r j = refl
        of_depth (Ok x) (Err e) j = refl
        of_depth (Ok x) (Ok b) j = ok_same (j b)

    cmp_same : (ts : Tokens) → Same (reading.cmp_at last within ts) (cmp_at last inside' ts)
    unfolding reading.cmp_at cmp_at
    cmp_same ts = then_same (reading.inn_at last within ts) (inn_at last inside' ts) (λ x. reading.chain_more last (reading.inn_at last within) comparison_op 1 x.0 x.1) (λ a. cmp_more last inside' (next_op comparison_op a.rest) a) (inn_same ts)
        (λ x. once_same (reading.inn_at last within) (inn_at last inside') inn_same last comparison_op x.0 x.1 ∙ turn_is (next_op comparison_op x.1) (as_found x))

    is_same : (ts : Tokens) → Same (reading.is_at last within ts) (is_at last inside' ts)
    unfolding reading.is_at is_at
    is_same ts = then_same (reading.cmp_at last within ts) (cmp_at last inside' ts) (λ x. is_behind x.0 x.1) (λ a. maybe_is last a a.rest) (cmp_same ts) (λ x. maybe_is_same x.0 x.1)

    not_same : (ts : Tokens) → Same (reading.not_at last within ts) (not_at last inside' ts)
    unfolding negation_at
    not_same [] = is_same []
    not_same (t ∷ ts) = either_same (is_word words.Not) (is_not t.tok) t ts (within_opening last within Negation Not t.span.start) (reading.is_at last within) _ _ (is_not_word t.tok) (opened_same Negation Not t.span.start ts) (is_same (t ∷ ts))

    and_same : (ts : Tokens) → Same (reading.chain last (reading.not_at last within) levels.And ts) (and_at last inside' ts)
    unfolding and_at
    and_same ts = chain_same last (reading.not_at last within) (not_at last inside') levels.And not_same ts

    or_same : (ts : Tokens) → Same (reading.or_at last within ts) (or_at last inside' ts)
    unfolding reading.or_at or_at
    or_same ts = chain_same last (reading.chain last (reading.not_at last within) levels.And) (and_at last inside') levels.Or and_same ts

-- behind an opening
inside_same : (last n : ℕ) (level : Opened) (place : ℕ) (ts : Tokens) → Same (reading.inside last n level place ts) (inside last n level place ts)
unfolding reading.inside inside
inside_same last zero level place ts = refl
inside_same last (suc n) Whole place ts = or_same last (reading.inside last n) (inside last n) (inside_same last n) ts
inside_same last (suc n) Negation place ts = not_same last (reading.inside last n) (inside last n) (inside_same last n) ts
inside_same last (suc n) Unary place ts = una_same last (reading.inside last n) (inside last n) (inside_same last n) ts

-- an expression is what the pieces find
pub expr_same : (last : ℕ) (ts : Tokens) → seen (expr_at last ts) ≡ or_at last (inside last MAX_DEPTH) ts
expr_same last ts = or_same last (reading.inside last MAX_DEPTH) (inside last MAX_DEPTH) (inside_same last MAX_DEPTH) ts

-- what the pieces find is what was read
pub is_part : (r : Result (Part × Tokens) SqlFault) (f : Found) → seen r ≡ Ok f → r ≡ Ok (part f.tree f.depth, f.rest)
is_part (Ok x) f e = let same : as_found x ≡ f = cc in ap (λ (g : Found). Ok (part g.tree g.depth, g.rest)) same
is_part (Err g) f e = absurd cc

pub is_fault : (r : Result (Part × Tokens) SqlFault) (e : SqlFault) → seen r ≡ Err e → r ≡ Err e
is_fault (Ok x) e h = absurd cc
is_fault (Err g) e h = let same : g ≡ e = cc in ap Err same

pub gives_part : {X : Type 0} (view : X → Part × Tokens) (result : Result X SqlFault) (r : Result (Part × Tokens) SqlFault) → Gives (λ x. as_found (view x)) result (seen r) → Gives view result r
gives_part view (Ok x) r h = is_part r (as_found (view x)) h
gives_part view (Err Memory) r h = tt
gives_part view (Err e) r h = is_fault r e h

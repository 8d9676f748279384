-- The chains of operators.
use Rattle.std.proofs.Common.{◌≡◌, ℕ, zero, suc, ◌+◌, ◌<◌, ◌≤◌, Option, Some, None, refl, sym, ap, ◌∙◌, length, List, [], ◌∷◌, ◌++◌, arith, rules, Bool, true, false, ◌-◌}
use Rattle.std.specs.Prelude.{IfOk, Result, Ok, Err, max, nat_lt, if◌then◌else◌}
use Rattle.iso_lexer.specs.declared.limits.TheConstants.{MAX_DEPTH}
use Rattle.iso_lexer.specs.declared.sql_token.SqlSign.TheVariants as signs
use Rattle.sql_expressions.specs.declared.level.Chain.{Chain}
use Rattle.sql_expressions.specs.declared.level.Chain.TheVariants.{Or, And, Concat, Sum, Product}
use Rattle.sql_trees.specs.declared.fault.SqlFault.{SqlFault}
use Rattle.sql_trees.specs.declared.fault.SqlFault.TheVariants.{TooDeep}
use Rattle.iso_lexer.specs.declared.token.At.{At}
use Rattle.sql_trees.specs.declared.token.Tok.{Tok}
use Rattle.sql_trees.specs.Tokens.{Token, Tokens, tok_views}
use Rattle.sql_trees.specs.declared.expr.Operator.{Operator}
use Rattle.sql_trees.specs.declared.expr.Expr.{Expr}
use Rattle.sql_expressions.specs.declared.parsed.Parsed.{Parsed}
use Rattle.sql_trees.specs.Trees.{tree_of, trees, more, none}
use Rattle.sql_expressions.specs.Build.{push}
use Rattle.sql_expressions.specs.Results.{Gives, Fails}
use Rattle.sql_expressions.specs.Readers.{is_sign, after}
use Rattle.sql_expressions.specs.Reading.{operators}
use Rattle.sql_expressions.specs.Inner.Pieces.{Found, found, Found_op, Found_list, found_list, list_more, list_at, Reader, deeper, join, next_op, chain_more, chain, chain_at, operand_at, at_level, inside, or_at, and_at, cat_at, add_at, mul_at}
use Rattle.sql_expressions.specs.declared.level.Opened.{Opened}
use Rattle.sql_trees.specs.declared.fault.SqlFault.TheVariants.{Memory}

-- how far a level is above the openings: each call of a level goes down
abbrev pub rank_of : Chain → ℕ
rank_of Or = 22
rank_of And = 20
rank_of Concat = 8
rank_of Sum = 6
rank_of Product = 4

-- what has been read so far, with enough turns for the depths that are left, gives what the whole chain gives
pub record Goes (operand : Reader) (op_of : Token → Option Operator) (a : Found) (whole : Result Found SqlFault) : Type 0 where
  pub turns : ℕ
  pub enough : MAX_DEPTH ≤ turns + a.depth
  pub same : chain_more operand op_of turns a ≡ whole

-- the same for a list
pub record Lists (reader : Reader) (l : Found_list) (whole : Result Found_list SqlFault) : Type 0 where
  pub turns : ℕ
  pub enough : length l.rest ≤ turns
  pub same : list_more reader turns l ≡ whole

-- where a part fails with each fault as the whole does, an error of the part is one of the whole
pub passed_on : {X Y : Type 0} (e : SqlFault) (part : Result X SqlFault) (whole : Result Y SqlFault) → Fails e part → ((f : SqlFault) → part ≡ Err f → whole ≡ Err f) → Fails e whole
passed_on Memory part whole h k = tt
passed_on (f) part whole h k = k f h

too_deep : (place d : ℕ) → MAX_DEPTH ≤ d → deeper place d ≡ Err (TooDeep place)
too_deep place d h = let e : nat_lt d MAX_DEPTH ≡ false = search rules in rw e refl

refused : (place d : ℕ) (f : SqlFault) → MAX_DEPTH ≤ d → deeper place d ≡ Err f → TooDeep place ≡ f
refused place d f l h = let p = sym (too_deep place d l) ∙ h in cc

module _ (operand : Reader) (op_of : Token → Option Operator) where
  pub starts : (ts : Tokens) (a : Found) → operand ts ≡ Ok a → Goes operand op_of a (chain operand op_of ts)
  unfolding chain
  starts ts a e = record { turns = MAX_DEPTH; enough = omega arith; same = rw e refl }

  pub starts_not : (ts : Tokens) (f : SqlFault) → operand ts ≡ Err f → chain operand op_of ts ≡ Err f
  unfolding chain
  starts_not ts f e = rw e refl

  pub ends : (a : Found) (w : Result Found SqlFault) → Goes operand op_of a w → next_op op_of a.rest ≡ None → w ≡ Ok a
  unfolding chain_more
  ends a w g e = go g.turns g.same
    where
      go : (n : ℕ) → chain_more operand op_of n a ≡ w → w ≡ Ok a
      go zero s = sym s ∙ rw e refl
      go (suc n) s = sym s ∙ rw e refl

  pub no_room : (a : Found) (o : Found_op) (w : Result Found SqlFault) (f : SqlFault) → Goes operand op_of a w → next_op op_of a.rest ≡ Some o → deeper o.place a.depth ≡ Err f → w ≡ Err f
  unfolding chain_more
  no_room a o w f g e h = go g.turns g.enough g.same
    where
      go : (n : ℕ) → MAX_DEPTH ≤ n + a.depth → chain_more operand op_of n a ≡ w → w ≡ Err f
      go zero l s = sym s ∙ rw e (ap Err (refused o.place a.depth f (omega arith) h))
      go (suc n) l s = sym s ∙ rw (e, h) refl

  pub no_operand : (a : Found) (o : Found_op) (w : Result Found SqlFault) (d : ℕ) (f : SqlFault) → Goes operand op_of a w → next_op op_of a.rest ≡ Some o → deeper o.place a.depth ≡ Ok d → operand o.rest ≡ Err f → w ≡ Err f
  unfolding chain_more
  no_operand a o w d f g e h k = go g.turns g.enough g.same
    where
      go : (n : ℕ) → MAX_DEPTH ≤ n + a.depth → chain_more operand op_of n a ≡ w → w ≡ Err f
      go zero l s = absurd (let p = sym (too_deep o.place a.depth (omega arith)) ∙ h in cc)
      go (suc n) l s = sym s ∙ rw (e, h, k) refl

  pub no_node : (a b : Found) (o : Found_op) (w : Result Found SqlFault) (d : ℕ) (f : SqlFault) → Goes operand op_of a w → next_op op_of a.rest ≡ Some o → deeper o.place a.depth ≡ Ok d → operand o.rest ≡ Ok b → join o a b ≡ Err f → w ≡ Err f
  unfolding chain_more
  no_node a b o w d f g e h k j = go g.turns g.enough g.same
    where
      go : (n : ℕ) → MAX_DEPTH ≤ n + a.depth → chain_more operand op_of n a ≡ w → w ≡ Err f
      go zero l s = absurd (let p = sym (too_deep o.place a.depth (omega arith)) ∙ h in cc)
      go (suc n) l s = sym s ∙ rw (e, h, k, j) refl

  pub goes_on : (a b c : Found) (o : Found_op) (w : Result Found SqlFault) (d : ℕ) → Goes operand op_of a w → next_op op_of a.rest ≡ Some o → deeper o.place a.depth ≡ Ok d → operand o.rest ≡ Ok b → join o a b ≡ Ok c → a.depth < c.depth → Goes operand op_of c w
  unfolding chain_more
  goes_on a b c o w d g e h k j up = go g.turns g.enough g.same
    where
      go : (n : ℕ) → MAX_DEPTH ≤ n + a.depth → chain_more operand op_of n a ≡ w → Goes operand op_of c w
      go zero l s = absurd (let p = sym (too_deep o.place a.depth (omega arith)) ∙ h in cc)
      go (suc n) l s = record { turns = n; enough = omega arith; same = sym (rw (e, h, k, j) refl) ∙ s }

module _ (last : ℕ) where
  -- a level is the chain of its operands
  pub chain_at_is : (inside' : Opened → ℕ → Reader) (level : Chain) (ts : Tokens) → chain_at last inside' level ts ≡ chain (operand_at last inside' level) (operators level) ts
  unfolding or_at and_at cat_at add_at mul_at
  chain_at_is i Or ts = refl
  chain_at_is i And ts = refl
  chain_at_is i Concat ts = refl
  chain_at_is i Sum ts = refl
  chain_at_is i Product ts = refl

  -- behind an opening there is room for one less
  pub opens : (room : ℕ) (level : Opened) (place : ℕ) (ts : Tokens) → (room ≡ 0 → ⊥) → inside last room level place ts ≡ at_level last (inside last (room - 1)) level ts
  unfolding inside
  opens zero level place ts h = absurd (h refl)
  opens (suc n) level place ts h = let e : suc n - 1 ≡ n = omega arith in rw e refl

-- the trees of a list with one more at its end
pub trees_push : (es : List Expr) (e : Expr) → trees (es ++ e ∷ []) ≡ push (trees es) (tree_of e)
trees_push [] e = refl
trees_push (x ∷ es) e = ap (more (tree_of x)) (trees_push es e)

module _ (reader : Reader) where
  pub list_starts : (ts : Tokens) (a : Found) (whole : Result Found_list SqlFault) → reader ts ≡ Ok a → list_at reader ts ≡ whole → length a.rest ≤ length ts → Lists reader (record { trees = more a.tree none; depth = a.depth; rest = a.rest }) whole
  unfolding list_at
  list_starts ts a w e s h = record { turns = length ts; enough = h; same = sym (rw e refl) ∙ s }

  pub list_starts_not : (ts : Tokens) (f : SqlFault) → reader ts ≡ Err f → list_at reader ts ≡ Err f
  unfolding list_at
  list_starts_not ts f e = rw e refl

  pub list_ends : (l : Found_list) (w : Result Found_list SqlFault) → Lists reader l w → after (is_sign signs.Comma) l.rest ≡ None → w ≡ Ok l
  unfolding list_more
  list_ends l w g e = go g.turns g.same
    where
      go : (n : ℕ) → list_more reader n l ≡ w → w ≡ Ok l
      go zero s = sym s
      go (suc n) s = sym s ∙ rw e refl

  none_after : (ts us : Tokens) → length ts ≤ 0 → after (is_sign signs.Comma) ts ≡ Some us → ⊥
  none_after [] us h e = absurd cc
  none_after (t ∷ ts) us h e = absurd (omega arith)

  pub list_stops : (l : Found_list) (w : Result Found_list SqlFault) (ts : Tokens) (f : SqlFault) → Lists reader l w → after (is_sign signs.Comma) l.rest ≡ Some ts → reader ts ≡ Err f → w ≡ Err f
  unfolding list_more
  list_stops l w ts f g e h = go g.turns g.enough g.same
    where
      go : (n : ℕ) → length l.rest ≤ n → list_more reader n l ≡ w → w ≡ Err f
      go zero m s = absurd (none_after l.rest ts m e)
      go (suc n) m s = sym s ∙ rw (e, h) refl

  pub list_goes_on : (l : Found_list) (w : Result Found_list SqlFault) (ts : Tokens) (a : Found) → Lists reader l w → after (is_sign signs.Comma) l.rest ≡ Some ts → reader ts ≡ Ok a → length a.rest < length l.rest → Lists reader (record { trees = push l.trees a.tree; depth = max l.depth a.depth; rest = a.rest }) w
  unfolding list_more
  list_goes_on l w ts a g e h shorter = go g.turns g.enough g.same
    where
      go : (n : ℕ) → length l.rest ≤ n → list_more reader n l ≡ w → Lists reader (record { trees = push l.trees a.tree; depth = max l.depth a.depth; rest = a.rest }) w
      go zero m s = absurd (none_after l.rest ts m e)
      go (suc n) m s = record { turns = n; enough = omega arith; same = sym (rw (e, h) refl) ∙ s }

  pub list_next : (es : List Expr) (d : ℕ) (us : List (At Tok)) (w : Result Found_list SqlFault) (ts : Tokens) (p : Parsed) (rest : List (At Tok)) → Lists reader (found_list es d us) w → after (is_sign signs.Comma) (tok_views us) ≡ Some ts → reader ts ≡ Ok (found p rest) → length (tok_views rest) < length (tok_views us) → Lists reader (found_list (es ++ p.expr.value ∷ []) (max d p.depth) rest) w
  list_next es d us w ts p rest g e h shorter = rw (trees_push es p.expr.value) (list_goes_on (found_list es d us) w ts (found p rest) g e h shorter)

pub comma_shortens : (us ts : Tokens) → after (is_sign signs.Comma) us ≡ Some ts → length ts < length us
comma_shortens [] ts e = absurd cc
comma_shortens (t ∷ us) ts e = of_test (is_sign signs.Comma t.tok) e
  where
    of_test : (b : Bool) → (if b then Some us else None) ≡ Some ts → length ts < length (t ∷ us)
    of_test true h = let same : us ≡ ts = cc in rw (sym same) (omega arith)
    of_test false h = absurd cc

-- what holds of each answer that reading can give holds of the code's answer
pub ok_gives : {X Y : Type 0} (view : X → Y) (P : X → Type 0) (r : Result X SqlFault) (read : Result Y SqlFault) → Gives view r read → ((x : X) → read ≡ Ok (view x) → P x) → IfOk r P
ok_gives view P (Ok x) read h k = k x h
ok_gives view P (Err e) read h k = tt

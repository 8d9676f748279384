-- An expression that isn't read is refused as Syntax, LeftOut or TooDeep.
use Rattle.std.proofs.Common.{ap, ◌≡◌, ℕ, zero, suc, ◌+◌, Bool, true, false, List, [], ◌∷◌, length, Option, Some, None, sym, ◌∙◌, subst}
use Rattle.std.specs.Prelude.{ok_or, Result, Ok, Err, max, nat_lt, if◌then◌else◌}
use Rattle.iso_lexer.specs.declared.limits.TheConstants.{MAX_DEPTH}
use Rattle.iso_lexer.specs.declared.token.At.{At}
use Rattle.iso_lexer.specs.declared.sql_token.SqlSign.TheVariants as signs
use Rattle.sql_trees.specs.declared.fault.SqlFault.{SqlFault}
use Rattle.sql_trees.specs.declared.fault.SqlFault.TheVariants.{Syntax, LeftOut, TooDeep}
use Rattle.sql_trees.specs.declared.word.Word.TheVariants as words
use Rattle.sql_trees.specs.declared.expr.Operator.{Operator}
use Rattle.sql_trees.specs.declared.expr.Truth.{Truth}
use Rattle.sql_trees.specs.Tokens.{Token, Tokens, named}
use Rattle.sql_trees.specs.Tokens as tok
use Rattle.sql_trees.specs.Trees.{Tree, Plus, Column}
use Rattle.sql_expressions.specs.declared.level.Opened.{Opened}
use Rattle.sql_expressions.specs.declared.level.Opened.TheVariants.{Whole, Negation, Unary}
use Rattle.sql_expressions.specs.Build.{negated}
use Rattle.sql_expressions.specs.Results.{◌>>=◌}
use Rattle.sql_expressions.specs.Readers.{misplaced, place_of, left_out, is_sign, expect, after}
use Rattle.sql_expressions.specs.Reading.{is_call, truth_of, comparison_op, expr_at}
use Rattle.sql_expressions.specs.Inner.Pieces.{Found, product_op, sum_op, concat_op, and_op, or_op}
use Rattle.sql_expressions.specs.Inner.Pieces.{Found_op, Found_list, Reader, leaf, is_and, is_not, is_is, deeper, next_op, join, chain_end, chain_turn, chain_more, chain, list_turn, list_more, list_at, column_at, name_at, is_node, truth_test, after_is, is_from, maybe_is, parens_at, prim_of, prim_at, sign_at, una_of, una_at, mul_at, add_at, cat_at, in_at, between_at, not_in_of, not_in_at, not_in_from, inn_of, inn_more, inn_at, cmp_more, cmp_at, is_at, negation_at, not_at, and_at, or_at, at_level, inside}
use Rattle.sql_expressions.proofs.Same.{seen, expr_same}

abbrev pub IsExprFault : SqlFault → Type 0
IsExprFault (Syntax n) = Unit {0}
IsExprFault (LeftOut n) = Unit {0}
IsExprFault (TooDeep n) = Unit {0}
IsExprFault _ = ⊥

-- what is answered, or a fault of an expression
abbrev Told : {A : Type 0} → Result A SqlFault → Type 0
Told (Ok x) = Unit {0}
Told (Err e) = IsExprFault e

on : {A B : Type 0} (r : Result A SqlFault) (k : A → Result B SqlFault) → Told r → ((x : A) → Told (k x)) → Told (r >>= k)
on (Ok x) k h f = f x
on (Err e) k h f = h

deeper_told : (place d : ℕ) → Told (deeper place d)
deeper_told place d = of_test (nat_lt d MAX_DEPTH)
  where
    of_test : (b : Bool) → Told (if b then Ok (d + 1) else Err (TooDeep place))
    of_test true = tt
    of_test false = tt

join_told : (o : Found_op) (a b : Found) → Told (join o a b)
join_told o a b = on _ _ (deeper_told o.place (max a.depth b.depth)) (λ d. tt)

module _ (operand : Reader) (told : (ts : Tokens) → Told (operand ts)) where
  chain_end_told : (o : Option Found_op) (a : Found) → Told (chain_end o a)
  chain_end_told None a = tt
  chain_end_told (Some o) a = tt

  chain_turn_told : (go : Found → Result Found SqlFault) → ((a : Found) → Told (go a)) → (o : Option Found_op) (a : Found) → Told (chain_turn operand go o a)
  chain_turn_told go f None a = tt
  chain_turn_told go f (Some o) a = on _ _ (deeper_told o.place a.depth) (λ here. on _ _ (told o.rest) (λ b. on _ _ (join_told o a b) f))

  chain_more_told : (op_of : Token → Option Operator) (n : ℕ) (a : Found) → Told (chain_more operand op_of n a)
  unfolding chain_more
  chain_more_told op_of zero a = chain_end_told (next_op op_of a.rest) a
  chain_more_told op_of (suc n) a = chain_turn_told (chain_more operand op_of n) (chain_more_told op_of n) (next_op op_of a.rest) a

  chain_told : (op_of : Token → Option Operator) (ts : Tokens) → Told (chain operand op_of ts)
  unfolding chain
  chain_told op_of ts = on _ _ (told ts) (chain_more_told op_of MAX_DEPTH)

  list_turn_told : (go : Found_list → Result Found_list SqlFault) → ((l : Found_list) → Told (go l)) → (o : Option Tokens) (l : Found_list) → Told (list_turn operand go o l)
  list_turn_told go f None l = tt
  list_turn_told go f (Some ts) l = on _ _ (told ts) (λ e. f _)

  list_more_told : (n : ℕ) (l : Found_list) → Told (list_more operand n l)
  unfolding list_more
  list_more_told zero l = tt
  list_more_told (suc n) l = list_turn_told (list_more operand n) (list_more_told n) (after (is_sign signs.Comma) l.rest) l

  list_told : (ts : Tokens) → Told (list_at operand ts)
  unfolding list_at
  list_told ts = on _ _ (told ts) (λ e. list_more_told (length ts) _)

module _ (last : ℕ) where
  pub misplaced_told : (ts : Tokens) → IsExprFault (misplaced last ts)
  misplaced_told [] = tt
  misplaced_told (t ∷ ts) = of_test (left_out t.tok)
    where
      of_test : (b : Bool) → IsExprFault (if b then LeftOut t.span.start else Syntax t.span.start)
      of_test true = tt
      of_test false = tt

  expect_told : (is_it : Token → Bool) (ts : Tokens) → Told (expect last is_it ts)
  expect_told is_it [] = tt
  expect_told is_it (t ∷ ts) = of_test (is_it t.tok)
    where
      of_test : (b : Bool) → Told (ok_or (if b then Some ts else None) (misplaced last (t ∷ ts)))
      of_test true = tt
      of_test false = misplaced_told (t ∷ ts)

  column_told : (t : At Token) (n : List ℕ) (ts : Tokens) → Told (column_at last t n ts)
  column_told t n [] = tt
  column_told t n (u ∷ us) = of_test (is_sign signs.Open u.tok)
    where
      of_test : (b : Bool) → Told (if b then Err (LeftOut (if is_call t.tok then t.span.start else u.span.start)) else leaf (Column n) (u ∷ us))
      of_test true = tt
      of_test false = tt

  name_told : (o : Option (List ℕ)) (t : At Token) (ts : Tokens) → Told (name_at last o t ts)
  name_told None t ts = misplaced_told (t ∷ ts)
  name_told (Some n) t ts = column_told t n ts

  is_node_told : (o : Option Truth) (neg : Bool) (e : Tree) (d : ℕ) (t : At Token) (ts : Tokens) → Told (is_node last o neg e d t ts)
  is_node_told None neg e d t ts = misplaced_told (t ∷ ts)
  is_node_told (Some w) neg e d t ts = tt

  truth_test_told : (neg : Bool) (e : Tree) (d : ℕ) (ts : Tokens) → Told (truth_test last neg e d ts)
  truth_test_told neg e d [] = tt
  truth_test_told neg e d (t ∷ ts) = is_node_told (truth_of t.tok) neg e d t ts

  after_is_told : (e : Tree) (d : ℕ) (ts : Tokens) → Told (after_is last e d ts)
  after_is_told e d [] = tt
  after_is_told e d (t ∷ ts) = of_test (is_not t.tok)
    where
      of_test : (b : Bool) → Told (if b then truth_test last true e d ts else truth_test last false e d (t ∷ ts))
      of_test true = truth_test_told true e d ts
      of_test false = truth_test_told false e d (t ∷ ts)

  is_from_told : (place : ℕ) (a : Found) (ts : Tokens) → Told (is_from last place a ts)
  is_from_told place a ts = on _ _ (deeper_told place a.depth) (λ d. after_is_told a.tree d ts)

  maybe_is_told : (a : Found) (ts : Tokens) → Told (maybe_is last a ts)
  maybe_is_told a [] = tt
  maybe_is_told a (t ∷ ts) = of_test (is_is t.tok)
    where
      of_test : (b : Bool) → Told (if b then is_from last t.span.start a ts else Ok a)
      of_test true = is_from_told t.span.start a ts
      of_test false = tt

  module _ (within : Opened → ℕ → Reader) (told : (l : Opened) (place : ℕ) (ts : Tokens) → Told (within l place ts)) where
    parens_told : (place : ℕ) (ts : Tokens) → Told (parens_at last within place ts)
    unfolding parens_at
    parens_told place ts = on _ _ (told Whole place ts) (λ e. on _ _ (deeper_told place e.depth) (λ d. on _ _ (expect_told (is_sign signs.Close) e.rest) (λ rest. tt)))

    prim_of_told : (x : Token) (t : At Token) (ts : Tokens) → Told (prim_of last within x t ts)
    prim_of_told (tok.number n) t ts = tt
    prim_of_told (tok.string s) t ts = tt
    prim_of_told (tok.word words.True s) t ts = tt
    prim_of_told (tok.word words.False s) t ts = tt
    prim_of_told (tok.word words.Null s) t ts = tt
    prim_of_told (tok.sign signs.Open) t ts = parens_told t.span.start ts
    prim_of_told x t ts = name_told (named x) t ts

    prim_told : (ts : Tokens) → Told (prim_at last within ts)
    prim_told [] = tt
    prim_told (t ∷ ts) = prim_of_told t.tok t ts

    sign_told : (make : Tree → Tree) (place : ℕ) (ts : Tokens) → Told (sign_at last within make place ts)
    unfolding sign_at
    sign_told make place ts = on _ _ (told Unary place ts) (λ e. on _ _ (deeper_told place e.depth) (λ d. tt))

    una_of_told : (x : Token) (t : At Token) (ts : Tokens) → Told (una_of last within x t ts)
    una_of_told (tok.sign signs.Minus) t ts = sign_told negated t.span.start ts
    una_of_told (tok.sign signs.Plus) t ts = sign_told Plus t.span.start ts
    una_of_told _ t ts = prim_told (t ∷ ts)

    una_told : (ts : Tokens) → Told (una_at last within ts)
    una_told [] = prim_told []
    una_told (t ∷ ts) = una_of_told t.tok t ts

    mul_told : (ts : Tokens) → Told (mul_at last within ts)
    unfolding mul_at
    mul_told ts = chain_told (una_at last within) una_told product_op ts

    add_told : (ts : Tokens) → Told (add_at last within ts)
    unfolding add_at
    add_told ts = chain_told (mul_at last within) mul_told sum_op ts

    cat_told : (ts : Tokens) → Told (cat_at last within ts)
    unfolding cat_at
    cat_told ts = chain_told (add_at last within) add_told concat_op ts

    in_told : (neg : Bool) (place : ℕ) (e : Tree) (d : ℕ) (ts : Tokens) → Told (in_at last within neg place e d ts)
    unfolding in_at
    in_told neg place e d ts = on _ _ (deeper_told place d) (λ here. on _ _ (expect_told (is_sign signs.Open) ts) (λ us. on _ _ (list_told (within Whole (place_of last ts)) (told Whole (place_of last ts)) us) (λ l. on _ _ (deeper_told place (max d l.depth)) (λ x. on _ _ (expect_told (is_sign signs.Close) l.rest) (λ rest. tt)))))

    between_told : (neg : Bool) (place : ℕ) (e : Tree) (d : ℕ) (ts : Tokens) → Told (between_at last within neg place e d ts)
    unfolding between_at
    between_told neg place e d ts = on _ _ (deeper_told place d) (λ here. on _ _ (cat_told ts) (λ low. on _ _ (deeper_told place (max d low.depth)) (λ there. on _ _ (expect_told is_and low.rest) (λ us. on _ _ (cat_told us) (λ high. on _ _ (deeper_told place (max d (max low.depth high.depth))) (λ x. tt))))))

    not_in_of_told : (x : Token) (place : ℕ) (a : Found) (t : At Token) (ts : Tokens) → Told (not_in_of last within x place a t ts)
    not_in_of_told (tok.word words.In s) place a t ts = in_told true place a.tree a.depth ts
    not_in_of_told (tok.word words.Between s) place a t ts = between_told true place a.tree a.depth ts
    not_in_of_told _ place a t ts = misplaced_told (t ∷ ts)

    not_in_told : (place : ℕ) (a : Found) (ts : Tokens) → Told (not_in_at last within place a ts)
    not_in_told place a [] = tt
    not_in_told place a (t ∷ ts) = not_in_of_told t.tok place a t ts

    not_in_from_told : (place : ℕ) (a : Found) (ts : Tokens) → Told (not_in_from last within place a ts)
    not_in_from_told place a ts = on _ _ (deeper_told place a.depth) (λ here. not_in_told place a ts)

    inn_of_told : (x : Token) (place : ℕ) (a : Found) (ts : Tokens) → Told (inn_of last within x place a ts)
    inn_of_told (tok.word words.In s) place a ts = in_told false place a.tree a.depth ts
    inn_of_told (tok.word words.Between s) place a ts = between_told false place a.tree a.depth ts
    inn_of_told (tok.word words.Not s) place a ts = not_in_from_told place a ts
    inn_of_told _ place a ts = tt

    inn_more_told : (a : Found) (ts : Tokens) → Told (inn_more last within a ts)
    inn_more_told a [] = tt
    inn_more_told a (t ∷ ts) = inn_of_told t.tok t.span.start a ts

    inn_told : (ts : Tokens) → Told (inn_at last within ts)
    unfolding inn_at
    inn_told ts = on _ _ (cat_told ts) (λ a. inn_more_told a a.rest)

    cmp_more_told : (o : Option Found_op) (a : Found) → Told (cmp_more last within o a)
    cmp_more_told None a = tt
    cmp_more_told (Some o) a = on _ _ (deeper_told o.place a.depth) (λ here. on _ _ (inn_told o.rest) (λ b. join_told o a b))

    cmp_told : (ts : Tokens) → Told (cmp_at last within ts)
    unfolding cmp_at
    cmp_told ts = on _ _ (inn_told ts) (λ a. cmp_more_told (next_op comparison_op a.rest) a)

    is_told : (ts : Tokens) → Told (is_at last within ts)
    unfolding is_at
    is_told ts = on _ _ (cmp_told ts) (λ a. maybe_is_told a a.rest)

    negation_told : (place : ℕ) (ts : Tokens) → Told (negation_at last within place ts)
    unfolding negation_at
    negation_told place ts = on _ _ (told Negation place ts) (λ e. on _ _ (deeper_told place e.depth) (λ d. tt))

    not_told : (ts : Tokens) → Told (not_at last within ts)
    not_told [] = is_told []
    not_told (t ∷ ts) = of_test (is_not t.tok)
      where
        of_test : (b : Bool) → Told (if b then negation_at last within t.span.start ts else is_at last within (t ∷ ts))
        of_test true = negation_told t.span.start ts
        of_test false = is_told (t ∷ ts)

    and_told : (ts : Tokens) → Told (and_at last within ts)
    unfolding and_at
    and_told ts = chain_told (not_at last within) not_told and_op ts

    or_told : (ts : Tokens) → Told (or_at last within ts)
    unfolding or_at
    or_told ts = chain_told (and_at last within) and_told or_op ts

    level_told : (l : Opened) (ts : Tokens) → Told (at_level last within l ts)
    level_told Whole ts = or_told ts
    level_told Negation ts = not_told ts
    level_told Unary ts = una_told ts

  inside_told : (n : ℕ) (l : Opened) (place : ℕ) (ts : Tokens) → Told (inside last n l place ts)
  unfolding inside
  inside_told zero l place ts = tt
  inside_told (suc n) l place ts = level_told (inside last n) (inside_told n) l ts

  pub expr_told : (ts : Tokens) (e : SqlFault) → expr_at last ts ≡ Err e → IsExprFault e
  expr_told ts e h = subst Told (sym (expr_same last ts) ∙ ap seen h) (or_told (inside last MAX_DEPTH) (inside_told MAX_DEPTH) ts)

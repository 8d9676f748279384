-- To be believed. Reading an expression from left to right, with the first fault that is met.
use Rattle.std.specs.Prelude.{ℕ, zero, suc, ◌+◌, max, Bool, true, false, List, [], ◌∷◌, fold, Option, Some, Result, Ok, Err, is_some, nat_lt, if◌then◌else◌}
use Rattle.iso_lexer.specs.declared.limits.TheConstants.{MAX_DEPTH}
use Rattle.iso_lexer.specs.declared.sql_token.SqlSign.TheVariants as signs
use Rattle.sql_trees.specs.declared.fault.SqlFault.{SqlFault}
use Rattle.sql_trees.specs.declared.fault.SqlFault.TheVariants.{LeftOut, TooDeep}
use Rattle.sql_trees.specs.declared.word.Word.TheVariants as words
use Rattle.sql_trees.specs.declared.expr.Operator.{Operator}
use Rattle.sql_trees.specs.declared.expr.Operator.TheVariants as op
use Rattle.sql_trees.specs.declared.expr.AggKind.{AggKind}
use Rattle.sql_trees.specs.declared.expr.AggKind.TheVariants as aggs
use Rattle.sql_trees.specs.declared.expr.Truth.{Truth}
use Rattle.sql_trees.specs.declared.expr.Truth.TheVariants as truth
use Rattle.iso_lexer.specs.Bytes.{row_of}
use Rattle.sql_trees.specs.Tokens.{Token, Tokens}
use Rattle.sql_trees.specs.Tokens as tok
use Rattle.sql_trees.specs.Trees.{Tree, Trees, none, more, Null, Flag, Number, Text, Column, Plus, Not, Binary, Is, In, Between, undoubled, tree_of}
use Rattle.sql_expressions.specs.declared.level.Chain.{Chain}
use Rattle.sql_expressions.specs.declared.level.Chain.TheVariants as levels
use Rattle.sql_expressions.specs.declared.level.Opened.{Opened}
use Rattle.sql_expressions.specs.declared.level.Opened.TheVariants.{Whole, Negation, Unary}
use Rattle.sql_expressions.specs.declared.parsed.Parsed.{Parsed}
use Rattle.sql_expressions.specs.Build.{negated}
use Rattle.sql_expressions.specs.Readers.{Reader, ◌>>=◌, ◌>>◌, gives, made, is_word, is_sign, either, by_first, one_at, added, items_at, place_of, misplaced, expect, keyword, closed, name_at}

-- ---- what a token says

-- the operators whose chains group to the left, by their level (4.1.6)
abbrev pub operators : Chain → Token → Option Operator
operators levels.Or = row_of is_word ((words.Or, op.Or) ∷ [])
operators levels.And = row_of is_word ((words.And, op.And) ∷ [])
operators levels.Concat = row_of is_sign ((signs.Concat, op.Concat) ∷ [])
operators levels.Sum = row_of is_sign ((signs.Plus, op.Add) ∷ (signs.Minus, op.Subtract) ∷ [])
operators levels.Product = row_of is_sign ((signs.Star, op.Multiply) ∷ (signs.Slash, op.Divide) ∷ (signs.Percent, op.Remainder) ∷ [])

-- the operators that stand between two operands at most (4.1.6)
abbrev pub comparison_op : Token → Option Operator
comparison_op = row_of is_sign ((signs.Equal, op.Equal) ∷ (signs.NotEqual, op.NotEqual) ∷
    (signs.Less, op.Less) ∷ (signs.AtMost, op.AtMost) ∷ (signs.Greater, op.Greater) ∷ (signs.AtLeast, op.AtLeast) ∷ [])

-- what an IS asks for
abbrev pub truth_of : Token → Option Truth
truth_of = row_of is_word ((words.Null, truth.Null) ∷ (words.True, truth.True) ∷ (words.False, truth.False) ∷ (words.Unknown, truth.Unknown) ∷ [])

abbrev pub literal_of : Token → Option Tree
literal_of (tok.number n) = Some (Number false n)
literal_of (tok.string s) = Some (Text (undoubled s))
literal_of t = row_of is_word ((words.True, Flag true) ∷ (words.False, Flag false) ∷ (words.Null, Null) ∷ []) t

-- the aggregate that a word names
abbrev pub agg_kind : Token → Option AggKind
agg_kind = row_of is_word ((words.Count, aggs.Count) ∷ (words.Sum, aggs.Sum) ∷ (words.Min, aggs.Min) ∷ (words.Max, aggs.Max) ∷ [])

-- the name of an aggregate
abbrev pub is_call : Token → Bool
is_call t = is_some (agg_kind t)

-- ---- parts

-- a part of an expression, and its depth as it was written
pub record Part : Type 0 where
  pub tree : Tree
  pub depth : ℕ

-- what the code has read
abbrev pub part_of : Parsed → Part
part_of p = record { tree = tree_of p.expr.value; depth = p.depth }

-- the trees of these parts
abbrev pub trees_in : List Part → Trees
trees_in [] = none
trees_in (e ∷ es) = more e.tree (trees_in es)

-- a token at this place may make a node over parts of which the deepest has this depth
abbrev pub shallow : ℕ → ℕ → Tokens → Result Tokens SqlFault
shallow place depth ts = if nat_lt depth MAX_DEPTH then Ok ts else Err (TooDeep place)

-- the node that it makes of them
abbrev pub node : ℕ → ℕ → Tree → Reader Part
node place depth e = shallow place depth >> gives (record { tree = e; depth = depth + 1 })

-- ---- with the text's length

module _ (last : ℕ) where
  -- behind this operand: operators of a level, each with an operand behind it, so many at most
  unfoldable pub chain_more : Reader Part → (Token → Option Operator) → ℕ → Part → Reader Part
  chain_more operand op_of zero a ts = Ok (a, ts)
  chain_more operand op_of (suc n) a ts = let place = place_of last ts in by_first op_of (λ o. shallow place a.depth >> operand >>= λ b.
      node place (max a.depth b.depth) (Binary o a.tree b.tree) >>= chain_more operand op_of n) (gives a) ts

  -- operands with operators of a level between them, which group to the left; of 65 operators the last would make too deep a node
  unfoldable pub chain : Reader Part → Chain → Reader Part
  chain operand level = operand >>= chain_more operand (operators level) (suc MAX_DEPTH)

  -- a name, with no call behind it: the name of an aggregate is left out there, elsewhere the call
  abbrev pub column_at : Reader Tree
  column_at ts = (name_at last >>= λ n us.
      either (is_sign signs.Open) (λ vs. Err (LeftOut (place_of last (by_first agg_kind (λ k vs. ts) (λ vs. us) ts)))) (gives (Column n)) us) ts

  -- inside is what is read behind an opening at a place
  module _ (inside : Opened → ℕ → Reader Part) where
    -- what stands behind an opening at this place, and the node that is made of it
    abbrev pub within_opening : Opened → (Tree → Tree) → ℕ → Reader Part
    within_opening level make place = inside level place >>= λ e. node place e.depth (make e.tree)

    -- an operand: one more behind a sign, an expression in parentheses, a literal, or a column
    abbrev pub una_at : Reader Part
    una_at ts = by_first (row_of is_sign ((signs.Minus, negated) ∷ (signs.Plus, Plus) ∷ [])) (λ make. within_opening Unary make (place_of last ts))
        (either (is_sign signs.Open) (closed last (λ e. e) (within_opening Whole (λ e. e) (place_of last ts)))
        (made (λ e. record { tree = e; depth = 0 }) (by_first literal_of gives column_at))) ts

    -- operands with what binds tighter than BETWEEN, IN and comparisons: * / %, then + -, then ||
    unfoldable pub cat_at : Reader Part
    cat_at = chain (chain (chain una_at levels.Product) levels.Sum) levels.Concat

    -- what stands behind IN or NOT IN, which stands at this place behind this operand: values in parentheses
    unfoldable pub in_at : Bool → ℕ → Part → Reader Part
    in_at negated place a ts = (expect last (is_sign signs.Open) >> closed last (λ e. e) (items_at (added (inside Whole (place_of last ts))) [] >>= λ es.
        node place (fold (λ d e. max d e.depth) a.depth es) (In a.tree negated (trees_in es)))) ts

    -- the same of BETWEEN or NOT BETWEEN: two bounds
    unfoldable pub between_at : Bool → ℕ → Part → Reader Part
    between_at negated place a = cat_at >>= λ low. shallow place (max a.depth low.depth) >> keyword last words.And >> cat_at >>= λ high.
        node place (max a.depth (max low.depth high.depth)) (Between a.tree negated low.tree high.tree)

    -- the tests that a NOT may stand before
    abbrev pub test_of : Token → Option (Bool → ℕ → Part → Reader Part)
    test_of = row_of is_word ((words.In, in_at) ∷ (words.Between, between_at) ∷ [])

    -- an operand, and [NOT] IN or [NOT] BETWEEN behind it, if one stands there
    unfoldable pub inn_at : Reader Part
    inn_at = cat_at >>= λ a ts. let place = place_of last ts in by_first test_of (λ test. shallow place a.depth >> test false place a)
        (either (is_word words.Not) (shallow place a.depth >> one_at (misplaced last) test_of >>= λ test. test true place a) (gives a)) ts

    -- the same, or two of them with a comparison between
    unfoldable pub cmp_at : Reader Part
    cmp_at = inn_at >>= chain_more inn_at comparison_op 1

    -- the same, and IS [NOT] with what it asks behind it, if it stands there
    unfoldable pub is_at : Reader Part
    is_at = cmp_at >>= λ a ts. let place = place_of last ts in either (is_word words.Is) (shallow place a.depth >> either (is_word words.Not) (gives true) (gives false)
        >>= λ negated. one_at (misplaced last) truth_of >>= λ asked. node place a.depth (Is a.tree negated asked)) (gives a) ts

    -- the same, or NOT and what stands behind it
    abbrev pub not_at : Reader Part
    not_at ts = either (is_word words.Not) (within_opening Negation Not (place_of last ts)) is_at ts

    -- the same with AND, then OR
    unfoldable pub or_at : Reader Part
    or_at = chain (chain not_at levels.And) levels.Or

  -- what is read behind an opening at this place, of which so many may still be open
  unfoldable pub inside : ℕ → Opened → ℕ → Reader Part
  inside zero level place ts = Err (TooDeep place)
  inside (suc n) Whole place ts = or_at (inside n) ts
  inside (suc n) Negation place ts = not_at (inside n) ts
  inside (suc n) Unary place ts = una_at (inside n) ts

  -- an expression
  abbrev pub expr_at : Reader Part
  expr_at = or_at (inside MAX_DEPTH)

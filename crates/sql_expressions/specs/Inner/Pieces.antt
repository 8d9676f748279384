-- Expressions as the code's functions read them, piece by piece: each piece reads what the words of Reading do.
use Rattle.std.specs.Prelude.{ℕ, zero, suc, ◌+◌, max, Bool, true, false, List, [], ◌∷◌, length, Option, Some, None, Result, Ok, Err, nat_lt, if◌then◌else◌}
use Rattle.iso_lexer.specs.declared.limits.TheConstants.{MAX_DEPTH}
use Rattle.iso_lexer.specs.declared.token.At.{At}
use Rattle.iso_lexer.specs.declared.sql_token.SqlSign.TheVariants as signs
use Rattle.sql_trees.specs.declared.fault.SqlFault.{SqlFault}
use Rattle.sql_trees.specs.declared.fault.SqlFault.TheVariants.{LeftOut, TooDeep}
use Rattle.sql_trees.specs.declared.word.Word.TheVariants as words
use Rattle.sql_trees.specs.declared.token.Tok.{Tok}
use Rattle.sql_trees.specs.declared.expr.Expr.{Expr}
use Rattle.sql_trees.specs.declared.expr.Operator.{Operator}
use Rattle.sql_trees.specs.declared.expr.Truth.{Truth}
use Rattle.sql_trees.specs.Tokens.{Token, Tokens, named, tok_views}
use Rattle.sql_trees.specs.Tokens as tok
use Rattle.sql_trees.specs.Trees.{Tree, Trees, none, more, Null, Flag, Number, Text, Column, Plus, Not, Binary, Is, In, Between, undoubled, tree_of, trees}
use Rattle.sql_expressions.specs.declared.parsed.Parsed.{Parsed}
use Rattle.sql_expressions.specs.declared.level.Chain.{Chain}
use Rattle.sql_expressions.specs.declared.level.Chain.TheVariants as chain_of
use Rattle.sql_expressions.specs.declared.level.Membership.{Membership}
use Rattle.sql_expressions.specs.declared.level.Prefix.{Prefix}
use Rattle.sql_expressions.specs.declared.level.Prefix.TheVariants as prefixes
use Rattle.sql_expressions.specs.declared.level.Opened.{Opened}
use Rattle.sql_expressions.specs.declared.level.Opened.TheVariants.{Whole, Negation, Unary}
use Rattle.sql_expressions.specs.Build.{negated, push}
use Rattle.sql_expressions.specs.Results.{◌>>=◌}
use Rattle.sql_expressions.specs.Readers.{is_sign, after, place_of, misplaced, expect}
use Rattle.sql_expressions.specs.Reading.{operators, comparison_op, is_call, truth_of}

-- an expression, its depth as it was written, and the tokens after it
pub record Found : Type 0 where
  pub tree : Tree
  pub depth : ℕ
  pub rest : Tokens

-- what the code has found
abbrev pub found : Parsed → List (At Tok) → Found
found p ts = record { tree = tree_of p.expr.value; depth = p.depth; rest = tok_views ts }

abbrev pub Reader : Type 0
Reader = Tokens → Result Found SqlFault

abbrev pub leaf : Tree → Reader
leaf t ts = Ok (record { tree = t; depth = 0; rest = ts })

abbrev pub or_op : Token → Option Operator
or_op = operators chain_of.Or

abbrev pub and_op : Token → Option Operator
and_op = operators chain_of.And

abbrev pub concat_op : Token → Option Operator
concat_op = operators chain_of.Concat

abbrev pub sum_op : Token → Option Operator
sum_op = operators chain_of.Sum

abbrev pub product_op : Token → Option Operator
product_op = operators chain_of.Product

-- a parenthesis or a sign, behind which an expression stands
abbrev pub prefix_of : Token → Option Prefix
prefix_of (tok.sign signs.Open) = Some prefixes.Paren
prefix_of (tok.sign signs.Minus) = Some prefixes.Minus
prefix_of (tok.sign signs.Plus) = Some prefixes.Plus
prefix_of _ = None

-- the one that stands next, its place, and the tokens after it
abbrev pub placed_prefix : At Token → Tokens → Option Prefix → Option (Prefix × ℕ × Tokens)
placed_prefix t ts None = None
placed_prefix t ts (Some p) = Some (p, t.span.start, ts)

abbrev pub prefix_at : Tokens → Option (Prefix × ℕ × Tokens)
prefix_at [] = None
prefix_at (t ∷ ts) = placed_prefix t ts (prefix_of t.tok)

abbrev pub opened_of : Prefix → Opened
opened_of prefixes.Paren = Whole
opened_of _ = Unary

abbrev pub is_and : Token → Bool
is_and (tok.word words.And s) = true
is_and _ = false

abbrev pub is_not : Token → Bool
is_not (tok.word words.Not s) = true
is_not _ = false

abbrev pub is_is : Token → Bool
is_is (tok.word words.Is s) = true
is_is _ = false

-- the depth of a node over this deepest part, which the token at this place makes
abbrev pub deeper : ℕ → ℕ → Result ℕ SqlFault
deeper place d = if nat_lt d MAX_DEPTH then Ok (d + 1) else Err (TooDeep place)

-- an operator, where it stands, and the tokens after it
pub record Found_op : Type 0 where
  pub op : Operator
  pub place : ℕ
  pub rest : Tokens

abbrev pub found_op : At Token → Tokens → Option Operator → Option Found_op
found_op t ts None = None
found_op t ts (Some o) = Some (record { op = o; place = t.span.start; rest = ts })

abbrev pub next_op : (Token → Option Operator) → Tokens → Option Found_op
next_op op_of [] = None
next_op op_of (t ∷ ts) = found_op t ts (op_of t.tok)

-- an expression of this depth
abbrev pub made : ℕ → Tree → Reader
made d t ts = Ok (record { tree = t; depth = d; rest = ts })

-- the node that the token at this place makes, over parts of which the deepest has this depth
abbrev pub node : ℕ → ℕ → Tree → Reader
node place d t ts = do
  x ← deeper place d
  made x t ts

abbrev pub join : Found_op → Found → Found → Result Found SqlFault
join o a b = do
  d ← deeper o.place (max a.depth b.depth)
  Ok (record { tree = Binary o.op a.tree b.tree; depth = d; rest = b.rest })

-- the operators of a level, each with an operand behind it, of which there are at most this many
abbrev pub chain_end : Option Found_op → Found → Result Found SqlFault
chain_end None a = Ok a
chain_end (Some o) a = Err (TooDeep o.place)

abbrev pub chain_turn : Reader → (Found → Result Found SqlFault) → Option Found_op → Found → Result Found SqlFault
chain_turn operand go None a = Ok a
chain_turn operand go (Some o) a = do
  here ← deeper o.place a.depth
  b ← operand o.rest
  c ← join o a b
  go c

unfoldable pub chain_more : Reader → (Token → Option Operator) → ℕ → Found → Result Found SqlFault
chain_more operand op_of zero a = chain_end (next_op op_of a.rest) a
chain_more operand op_of (suc n) a = chain_turn operand (chain_more operand op_of n) (next_op op_of a.rest) a

unfoldable pub chain : Reader → (Token → Option Operator) → Reader
chain operand op_of ts = do
  a ← operand ts
  chain_more operand op_of MAX_DEPTH a

-- trees in a list, the deepest one's depth, and the tokens after them
pub record Found_list : Type 0 where
  pub trees : Trees
  pub depth : ℕ
  pub rest : Tokens

abbrev pub found_list : List Expr → ℕ → List (At Tok) → Found_list
found_list es d ts = record { trees = trees es; depth = d; rest = tok_views ts }

abbrev pub list_turn : Reader → (Found_list → Result Found_list SqlFault) → Option Tokens → Found_list → Result Found_list SqlFault
list_turn reader go None l = Ok l
list_turn reader go (Some ts) l = do
  e ← reader ts
  go (record { trees = push l.trees e.tree; depth = max l.depth e.depth; rest = e.rest })

-- the items of a list behind its first one, as many as there are tokens at most
unfoldable pub list_more : Reader → ℕ → Found_list → Result Found_list SqlFault
list_more reader zero l = Ok l
list_more reader (suc n) l = list_turn reader (list_more reader n) (after (is_sign signs.Comma) l.rest) l

unfoldable pub list_at : Reader → Tokens → Result Found_list SqlFault
list_at reader ts = do
  e ← reader ts
  list_more reader (length ts) (record { trees = more e.tree none; depth = e.depth; rest = e.rest })

-- the bounds of a BETWEEN, each a tree and its depth, and the tokens after them
pub record Found_bounds : Type 0 where
  pub low : Tree × ℕ
  pub high : Tree × ℕ
  pub rest : Tokens

abbrev pub found_bounds : Parsed → Parsed → List (At Tok) → Found_bounds
found_bounds low high ts = record { low = (tree_of low.expr.value, low.depth); high = (tree_of high.expr.value, high.depth); rest = tok_views ts }

-- the node of a BETWEEN at this place, behind an operand of this depth
abbrev pub range_node : Bool → ℕ → Tree → ℕ → Found_bounds → Result Found SqlFault
range_node negated place left depth b = node place (max depth (max b.low.1 b.high.1)) (Between left negated b.low.0 b.high.0) b.rest

-- IN or BETWEEN behind an operand: whether it is BETWEEN, whether NOT stands before it, the place of the first token, and the tokens behind it
pub record Among : Type 0 where
  pub ranged : Bool
  pub negated : Bool
  pub place : ℕ
  pub rest : Tokens

abbrev pub membership_of : Membership → Among
membership_of m = record { ranged = m.ranged; negated = m.negated; place = m.place; rest = tok_views m.rest.now }

-- last is the text's length
module _ (last : ℕ) where
  -- a name, with no call behind it: the name of an aggregate is left out there, elsewhere the call
  abbrev pub column_at : At Token → List ℕ → Reader
  column_at t n [] = leaf (Column n) []
  column_at t n (u ∷ us) = if is_sign signs.Open u.tok then Err (LeftOut (if is_call t.tok then t.span.start else u.span.start)) else leaf (Column n) (u ∷ us)

  abbrev pub name_at : Option (List ℕ) → At Token → Reader
  name_at None t ts = Err (misplaced last (t ∷ ts))
  name_at (Some n) t ts = column_at t n ts

  -- the column that the first token names
  abbrev pub column_first : Reader
  column_first [] = Err (misplaced last [])
  column_first (t ∷ ts) = name_at (named t.tok) t ts

  -- a literal, or a column
  abbrev pub atom_of : Token → At Token → Reader
  atom_of (tok.number n) t ts = leaf (Number false n) ts
  atom_of (tok.string s) t ts = leaf (Text (undoubled s)) ts
  atom_of (tok.word words.True s) t ts = leaf (Flag true) ts
  atom_of (tok.word words.False s) t ts = leaf (Flag false) ts
  atom_of (tok.word words.Null s) t ts = leaf Null ts
  atom_of x t ts = name_at (named x) t ts

  abbrev pub atom_at : Reader
  atom_at [] = Err (misplaced last [])
  atom_at (t ∷ ts) = atom_of t.tok t ts

  -- what a parenthesis at this place makes of the expression behind it
  abbrev pub closed_at : ℕ → Found → Result Found SqlFault
  closed_at place e = do
    d ← deeper place e.depth
    rest ← expect last (is_sign signs.Close) e.rest
    Ok (record { tree = e.tree; depth = d; rest = rest })

  -- the same of a parenthesis or a sign
  abbrev pub prefixed_at : Prefix → ℕ → Found → Result Found SqlFault
  prefixed_at prefixes.Paren place e = closed_at place e
  prefixed_at prefixes.Minus place e = node place e.depth (negated e.tree) e.rest
  prefixed_at prefixes.Plus place e = node place e.depth (Plus e.tree) e.rest

  -- where the list of an IN stands, behind an operand of this depth, and the tokens behind its parenthesis
  abbrev pub list_open_at : ℕ → ℕ → Tokens → Result (ℕ × Tokens) SqlFault
  list_open_at place depth ts = do
    here ← deeper place depth
    behind ← expect last (is_sign signs.Open) ts
    Ok (place_of last ts, behind)

  -- the node of an IN behind its list, over parts of which the deepest has this depth
  abbrev pub contains_at : Bool → ℕ → ℕ → Tree → Trees → Tokens → Result Found SqlFault
  contains_at negated place depth left items ts = do
    d ← deeper place depth
    rest ← expect last (is_sign signs.Close) ts
    Ok (record { tree = In left negated items; depth = d; rest = rest })

  -- the tokens behind the AND of a BETWEEN
  abbrev pub upper_at : ℕ → ℕ → Tokens → Result Tokens SqlFault
  upper_at place depth ts = do
    there ← deeper place depth
    expect last is_and ts

  -- IN or BETWEEN behind a NOT at this place
  abbrev pub not_among_of : Token → ℕ → At Token → Tokens → Result Among SqlFault
  not_among_of (tok.word words.In s) place t ts = Ok (record { ranged = false; negated = true; place = place; rest = ts })
  not_among_of (tok.word words.Between s) place t ts = Ok (record { ranged = true; negated = true; place = place; rest = ts })
  not_among_of _ place t ts = Err (misplaced last (t ∷ ts))

  abbrev pub not_among_in : ℕ → Tokens → Result Among SqlFault
  not_among_in place [] = Err (misplaced last [])
  not_among_in place (t ∷ ts) = not_among_of t.tok place t ts

  abbrev pub not_among_at : ℕ → ℕ → Tokens → Result Among SqlFault
  not_among_at place depth ts = do
    here ← deeper place depth
    not_among_in place ts

  -- IN or BETWEEN with or without a NOT, behind an operand of this depth, if one stands next
  abbrev pub among_of : Token → ℕ → ℕ → Tokens → Result (Option Among) SqlFault
  among_of (tok.word words.In s) place depth ts = Ok (Some (record { ranged = false; negated = false; place = place; rest = ts }))
  among_of (tok.word words.Between s) place depth ts = Ok (Some (record { ranged = true; negated = false; place = place; rest = ts }))
  among_of (tok.word words.Not s) place depth ts = do
    a ← not_among_at place depth ts
    Ok (Some a)
  among_of _ place depth ts = Ok None

  abbrev pub among_at : ℕ → Tokens → Result (Option Among) SqlFault
  among_at depth [] = Ok None
  among_at depth (t ∷ ts) = among_of t.tok t.span.start depth ts

  -- what an IS asks for, whose node has this depth
  abbrev pub is_node : Option Truth → Bool → Tree → ℕ → At Token → Tokens → Result Found SqlFault
  is_node None negated e depth t ts = Err (misplaced last (t ∷ ts))
  is_node (Some w) negated e depth t ts = Ok (record { tree = Is e negated w; depth = depth; rest = ts })

  abbrev pub truth_test : Bool → Tree → ℕ → Tokens → Result Found SqlFault
  truth_test negated e depth [] = Err (misplaced last [])
  truth_test negated e depth (t ∷ ts) = is_node (truth_of t.tok) negated e depth t ts

  abbrev pub after_is : Tree → ℕ → Tokens → Result Found SqlFault
  after_is e depth [] = truth_test false e depth []
  after_is e depth (t ∷ ts) = if is_not t.tok then truth_test true e depth ts else truth_test false e depth (t ∷ ts)

  -- behind an IS at this place, which makes the node, whatever stands behind it
  abbrev pub is_from : ℕ → Found → Tokens → Result Found SqlFault
  is_from place a ts = do
    d ← deeper place a.depth
    after_is a.tree d ts

  abbrev pub maybe_is : Found → Tokens → Result Found SqlFault
  maybe_is a [] = Ok a
  maybe_is a (t ∷ ts) = if is_is t.tok then is_from t.span.start a ts else Ok a

  -- a comparison's node, and IS behind it
  abbrev pub compared_at : Found_op → Found → Found → Result Found SqlFault
  compared_at o a b = do
    c ← join o a b
    maybe_is c c.rest

  module _ (inside : Opened → ℕ → Reader) where
    unfoldable pub parens_at : ℕ → Reader
    parens_at place ts = do
      e ← inside Whole place ts
      d ← deeper place e.depth
      rest ← expect last (is_sign signs.Close) e.rest
      Ok (record { tree = e.tree; depth = d; rest = rest })

    abbrev pub prim_of : Token → At Token → Reader
    prim_of (tok.number n) t ts = leaf (Number false n) ts
    prim_of (tok.string s) t ts = leaf (Text (undoubled s)) ts
    prim_of (tok.word words.True s) t ts = leaf (Flag true) ts
    prim_of (tok.word words.False s) t ts = leaf (Flag false) ts
    prim_of (tok.word words.Null s) t ts = leaf Null ts
    prim_of (tok.sign signs.Open) t ts = parens_at t.span.start ts
    prim_of x t ts = name_at (named x) t ts

    abbrev pub prim_at : Reader
    prim_at [] = Err (misplaced last [])
    prim_at (t ∷ ts) = prim_of t.tok t ts

    -- a sign, and what it makes of its operand
    unfoldable pub sign_at : (Tree → Tree) → ℕ → Reader
    sign_at make place ts = do
      e ← inside Unary place ts
      d ← deeper place e.depth
      Ok (record { tree = make e.tree; depth = d; rest = e.rest })

    abbrev pub una_of : Token → At Token → Reader
    una_of (tok.sign signs.Minus) t ts = sign_at negated t.span.start ts
    una_of (tok.sign signs.Plus) t ts = sign_at Plus t.span.start ts
    una_of _ t ts = prim_at (t ∷ ts)

    abbrev pub una_at : Reader
    una_at [] = prim_at []
    una_at (t ∷ ts) = una_of t.tok t ts

    unfoldable pub mul_at : Reader
    mul_at = chain una_at product_op

    unfoldable pub add_at : Reader
    add_at = chain mul_at sum_op

    unfoldable pub cat_at : Reader
    cat_at = chain add_at concat_op

    unfoldable pub in_at : Bool → ℕ → Tree → ℕ → Tokens → Result Found SqlFault
    in_at negated place left depth ts = do
      here ← deeper place depth
      behind ← expect last (is_sign signs.Open) ts
      items ← list_at (inside Whole (place_of last ts)) behind
      d ← deeper place (max depth items.depth)
      rest ← expect last (is_sign signs.Close) items.rest
      Ok (record { tree = In left negated items.trees; depth = d; rest = rest })

    unfoldable pub between_at : Bool → ℕ → Tree → ℕ → Tokens → Result Found SqlFault
    between_at negated place left depth ts = do
      here ← deeper place depth
      low ← cat_at ts
      there ← deeper place (max depth low.depth)
      behind ← expect last is_and low.rest
      high ← cat_at behind
      d ← deeper place (max depth (max low.depth high.depth))
      Ok (record { tree = Between left negated low.tree high.tree; depth = d; rest = high.rest })

    -- IN or BETWEEN behind NOT
    abbrev pub not_in_of : Token → ℕ → Found → At Token → Tokens → Result Found SqlFault
    not_in_of (tok.word words.In s) place a t ts = in_at true place a.tree a.depth ts
    not_in_of (tok.word words.Between s) place a t ts = between_at true place a.tree a.depth ts
    not_in_of _ place a t ts = Err (misplaced last (t ∷ ts))

    abbrev pub not_in_at : ℕ → Found → Tokens → Result Found SqlFault
    not_in_at place a [] = Err (misplaced last [])
    not_in_at place a (t ∷ ts) = not_in_of t.tok place a t ts

    -- behind a NOT at this place, which makes the node, whatever stands behind it
    abbrev pub not_in_from : ℕ → Found → Tokens → Result Found SqlFault
    not_in_from place a ts = do
      here ← deeper place a.depth
      not_in_at place a ts

    abbrev pub inn_of : Token → ℕ → Found → Tokens → Result Found SqlFault
    inn_of (tok.word words.In s) place a ts = in_at false place a.tree a.depth ts
    inn_of (tok.word words.Between s) place a ts = between_at false place a.tree a.depth ts
    inn_of (tok.word words.Not s) place a ts = not_in_from place a ts
    inn_of _ place a ts = Ok a

    abbrev pub inn_more : Found → Tokens → Result Found SqlFault
    inn_more a [] = Ok a
    inn_more a (t ∷ ts) = inn_of t.tok t.span.start a ts

    unfoldable pub inn_at : Reader
    inn_at ts = do
      a ← cat_at ts
      inn_more a a.rest

    abbrev pub cmp_more : Option Found_op → Found → Result Found SqlFault
    cmp_more None a = Ok a
    cmp_more (Some o) a = do
      here ← deeper o.place a.depth
      b ← inn_at o.rest
      join o a b

    unfoldable pub cmp_at : Reader
    cmp_at ts = do
      a ← inn_at ts
      cmp_more (next_op comparison_op a.rest) a

    unfoldable pub is_at : Reader
    is_at ts = do
      a ← cmp_at ts
      maybe_is a a.rest

    unfoldable pub negation_at : ℕ → Reader
    negation_at place ts = do
      e ← inside Negation place ts
      d ← deeper place e.depth
      Ok (record { tree = Not e.tree; depth = d; rest = e.rest })

    abbrev pub not_at : Reader
    not_at [] = is_at []
    not_at (t ∷ ts) = if is_not t.tok then negation_at t.span.start ts else is_at (t ∷ ts)

    unfoldable pub and_at : Reader
    and_at = chain not_at and_op

    unfoldable pub or_at : Reader
    or_at = chain and_at or_op

    -- a level whose chains group to the left, and its operands
    abbrev pub chain_at : Chain → Reader
    chain_at chain_of.Or = or_at
    chain_at chain_of.And = and_at
    chain_at chain_of.Concat = cat_at
    chain_at chain_of.Sum = add_at
    chain_at chain_of.Product = mul_at

    abbrev pub operand_at : Chain → Reader
    operand_at chain_of.Or = and_at
    operand_at chain_of.And = not_at
    operand_at chain_of.Concat = add_at
    operand_at chain_of.Sum = mul_at
    operand_at chain_of.Product = una_at

    abbrev pub at_level : Opened → Reader
    at_level Whole = or_at
    at_level Negation = not_at
    at_level Unary = una_at

  -- what is read behind an opening at this place, of which so many may still be open
  unfoldable pub inside : ℕ → Opened → ℕ → Reader
  inside zero level place ts = Err (TooDeep place)
  inside (suc n) level place ts = at_level (inside n) level ts

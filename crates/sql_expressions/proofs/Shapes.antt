-- What spells an expression, whatever its depth.
use Rattle.std.proofs.Common.{◌≡◌, ℕ, zero, suc, ◌+◌, ◌≤◌, Bool, false, [], ◌∷◌, ◌++◌, Some, arith}
use Rattle.std.specs.Prelude.{max}
use Rattle.iso_lexer.specs.declared.token.At.{At}
use Rattle.iso_lexer.specs.declared.sql_token.SqlSign.TheVariants as signs
use Rattle.sql_trees.specs.declared.word.Word.TheVariants as words
use Rattle.sql_trees.specs.declared.expr.Operator.{Operator}
use Rattle.sql_trees.specs.declared.expr.Truth.{Truth}
use Rattle.sql_trees.specs.Tokens.{Token, Tokens}
use Rattle.sql_trees.specs.Tokens as tok
use Rattle.sql_trees.specs.Trees.{Tree, Trees, more, none, Number, Plus, Not, Binary, Is, In, Between}
use Rattle.sql_expressions.specs.Build.{negated, push}
use Rattle.sql_expressions.specs.Reading.{comparison_op, truth_of}
use Rattle.sql_expressions.specs.Grammar.{IsWord, Level, OR, AND, NOT, IS, CMP, INN, CAT, ADD, MUL, UNA, PRIM, tighter, operator_at, SpellsIn, ItemsIn, only, chain, negation, is, comparison, contained, between, minus, plus, parens, literal, one, next, IsLeaf, number, IsIn, IsBetween, IsIs}
use Rattle.sql_expressions.specs.Laws.{Spelled}

-- what is spelled within a limit is within a larger one
mutual
  raise : {l r : ℕ} {level : Level} {ts : Tokens} {e : Tree} {d : ℕ} (m n : ℕ) → l ≤ m → r ≤ n → SpellsIn l r level ts e d → SpellsIn m n level ts e d
  raise m n h k (only l ts e d p) = only l ts e d (raise m n h k p)
  raise m n h k (chain l fs bs t o a b c d p g q lt) = chain l fs bs t o a b c d (raise m n h k p) g (raise m n h k q) (omega arith)
  raise m zero h k (negation ts t e d g p lt) = absurd (omega arith)
  raise m (suc n) h k (negation ts t e d g p lt) = negation ts t e d g (raise m n h (omega arith) p) (omega arith)
  raise m n h k (is ts ws t neg truth e d p i g lt) = is ts ws t neg truth e d (raise m n h k p) i g (omega arith)
  raise m n h k (comparison fs bs t o a b c d p g q lt) = comparison fs bs t o a b c d (raise m n h k p) g (raise m n h k q) (omega arith)
  raise m zero h k (contained ts ws us t u neg e es c d p i g q f lt) = absurd (omega arith)
  raise m (suc n) h k (contained ts ws us t u neg e es c d p i g q f lt) = contained ts ws us t u neg e es c d (raise m (suc n) h k p) i g (raise_items m n h (omega arith) q) f (omega arith)
  raise m n h k (between ts ws us vs t neg e low high b c d p i q g r lt) = between ts ws us vs t neg e low high b c d (raise m n h k p) i (raise m n h k q) g (raise m n h k r) (omega arith)
  raise m zero h k (minus ts t e d g p lt) = absurd (omega arith)
  raise m (suc n) h k (minus ts t e d g p lt) = minus ts t e d g (raise m n h (omega arith) p) (omega arith)
  raise m zero h k (plus ts t e d g p lt) = absurd (omega arith)
  raise m (suc n) h k (plus ts t e d g p lt) = plus ts t e d g (raise m n h (omega arith) p) (omega arith)
  raise m zero h k (parens ts t u e d g p f lt) = absurd (omega arith)
  raise m (suc n) h k (parens ts t u e d g p f lt) = parens ts t u e d g (raise m n h (omega arith) p) f (omega arith)
  raise m n h k (literal t e p) = literal t e p

  raise_items : {l r : ℕ} {ts : Tokens} {es : Trees} {d : ℕ} (m n : ℕ) → l ≤ m → r ≤ n → ItemsIn l r ts es d → ItemsIn m n ts es d
  raise_items m n h k (one ts e d p) = one ts e d (raise m n h k p)
  raise_items m n h k (next fs bs t es e c d p g q) = next fs bs t es e c d (raise_items m n h k p) g (raise m n h k q)

-- the items of a list, whatever their depth
abbrev pub Listed : Tokens → Type 0
Listed ts = (limit room : ℕ) × (es : Trees) × (d : ℕ) × ItemsIn limit room ts es d

pub only_spelled : (l : Level) (ts : Tokens) → Spelled (tighter l) ts → Spelled l ts
only_spelled l ts (m, n, e, d, p) = (m, n, e, d, only l ts e d p)

pub chain_spelled : (l : Level) (fs bs : Tokens) (t : At Token) (o : Operator) → Spelled l fs → operator_at l t.tok ≡ Some o → Spelled (tighter l) bs → Spelled l (fs ++ t ∷ bs)
chain_spelled l fs bs t o (m, n, a, c, p) h (k, r, b, d, q) =
    (m + k + c + d + 1, n + r, Binary o a b, max c d + 1, chain l fs bs t o a b c d (raise (m + k + c + d + 1) (n + r) (omega arith) (omega arith) p) h (raise (m + k + c + d + 1) (n + r) (omega arith) (omega arith) q) (omega arith))

pub comparison_spelled : (fs bs : Tokens) (t : At Token) (o : Operator) → Spelled INN fs → comparison_op t.tok ≡ Some o → Spelled INN bs → Spelled CMP (fs ++ t ∷ bs)
comparison_spelled fs bs t o (m, n, a, c, p) h (k, r, b, d, q) =
    (m + k + c + d + 1, n + r, Binary o a b, max c d + 1, comparison fs bs t o a b c d (raise (m + k + c + d + 1) (n + r) (omega arith) (omega arith) p) h (raise (m + k + c + d + 1) (n + r) (omega arith) (omega arith) q) (omega arith))

pub negation_spelled : (ts : Tokens) (t : At Token) → IsWord words.Not t.tok → Spelled NOT ts → Spelled NOT (t ∷ ts)
negation_spelled ts t h (m, n, e, d, p) = (m + d + 1, suc n, Not e, d + 1, negation ts t e d h (raise (m + d + 1) n (omega arith) (omega arith) p) (omega arith))

pub minus_spelled : (ts : Tokens) (t : At Token) → t.tok ≡ tok.sign signs.Minus → Spelled UNA ts → Spelled UNA (t ∷ ts)
minus_spelled ts t h (m, n, e, d, p) = (m + d + 1, suc n, negated e, d + 1, minus ts t e d h (raise (m + d + 1) n (omega arith) (omega arith) p) (omega arith))

pub plus_spelled : (ts : Tokens) (t : At Token) → t.tok ≡ tok.sign signs.Plus → Spelled UNA ts → Spelled UNA (t ∷ ts)
plus_spelled ts t h (m, n, e, d, p) = (m + d + 1, suc n, Plus e, d + 1, plus ts t e d h (raise (m + d + 1) n (omega arith) (omega arith) p) (omega arith))

pub parens_spelled : (ts : Tokens) (t u : At Token) → t.tok ≡ tok.sign signs.Open → Spelled OR ts → u.tok ≡ tok.sign signs.Close → Spelled PRIM (t ∷ (ts ++ u ∷ []))
parens_spelled ts t u h (m, n, e, d, p) g = (m + d + 1, suc n, e, d + 1, parens ts t u e d h (raise (m + d + 1) n (omega arith) (omega arith) p) g (omega arith))

pub leaf_spelled : (t : At Token) (e : Tree) → IsLeaf t.tok e → Spelled PRIM (t ∷ [])
leaf_spelled t e p = (0, 0, e, 0, literal t e p)

pub is_spelled : (ts ws : Tokens) (t : At Token) (neg : Bool) (truth : Truth) → Spelled CMP ts → IsIs neg ws → truth_of t.tok ≡ Some truth → Spelled IS (ts ++ (ws ++ t ∷ []))
is_spelled ts ws t neg truth (m, n, e, d, p) i h = (m + d + 1, n, Is e neg truth, d + 1, is ts ws t neg truth e d (raise (m + d + 1) n (omega arith) (omega arith) p) i h (omega arith))

pub between_spelled : (ts ws us vs : Tokens) (t : At Token) (neg : Bool) → Spelled CAT ts → IsBetween neg ws → Spelled CAT us → IsWord words.And t.tok → Spelled CAT vs → Spelled INN (ts ++ (ws ++ (us ++ t ∷ vs)))
between_spelled ts ws us vs t neg (m, n, e, b, p) i (k, r, low, c, q) h (j, s, high, d, z) =
    let limit = m + k + j + b + c + d + 1 in
    let room = n + r + s in
    (limit, room, Between e neg low high, max b (max c d) + 1, between ts ws us vs t neg e low high b c d (raise limit room (omega arith) (omega arith) p) i (raise limit room (omega arith) (omega arith) q) h (raise limit room (omega arith) (omega arith) z) (omega arith))

pub contained_spelled : (ts ws us : Tokens) (t u : At Token) (neg : Bool) → Spelled CAT ts → IsIn neg ws → t.tok ≡ tok.sign signs.Open → Listed us → u.tok ≡ tok.sign signs.Close → Spelled INN (ts ++ (ws ++ t ∷ (us ++ u ∷ [])))
contained_spelled ts ws us t u neg (m, n, e, c, p) i h (k, r, es, d, q) g =
    let limit = m + k + c + d + 1 in
    (limit, suc (n + r), In e neg es, max c d + 1, contained ts ws us t u neg e es c d (raise limit (suc (n + r)) (omega arith) (omega arith) p) i h (raise_items limit (n + r) (omega arith) (omega arith) q) g (omega arith))

pub one_listed : (ts : Tokens) → Spelled OR ts → Listed ts
one_listed ts (m, n, e, d, p) = (m, n, more e none, d, one ts e d p)

pub next_listed : (fs bs : Tokens) (t : At Token) → Listed fs → t.tok ≡ tok.sign signs.Comma → Spelled OR bs → Listed (fs ++ t ∷ bs)
next_listed fs bs t (m, n, es, c, p) h (k, r, e, d, q) = (m + k, n + r, push es e, max c d, next fs bs t es e c d (raise_items (m + k) (n + r) (omega arith) (omega arith) p) h (raise (m + k) (n + r) (omega arith) (omega arith) q))

-- something is spelled at each level
abbrev pub some_token : Token → At Token
some_token t = record { tok = t; span = record { start = 0; end = 0 } }

abbrev pub a_number : Tokens
a_number = some_token (tok.number 1) ∷ []

pub prim_number : Spelled PRIM a_number
prim_number = leaf_spelled (some_token (tok.number 1)) (Number false 1) (number 1)

pub una_number : Spelled UNA a_number
una_number = only_spelled UNA a_number prim_number

pub mul_number : Spelled MUL a_number
mul_number = only_spelled MUL a_number una_number

pub add_number : Spelled ADD a_number
add_number = only_spelled ADD a_number mul_number

pub cat_number : Spelled CAT a_number
cat_number = only_spelled CAT a_number add_number

pub inn_number : Spelled INN a_number
inn_number = only_spelled INN a_number cat_number

pub cmp_number : Spelled CMP a_number
cmp_number = only_spelled CMP a_number inn_number

pub is_number : Spelled IS a_number
is_number = only_spelled IS a_number cmp_number

pub not_number : Spelled NOT a_number
not_number = only_spelled NOT a_number is_number

pub and_number : Spelled AND a_number
and_number = only_spelled AND a_number not_number

pub or_number : Spelled OR a_number
or_number = only_spelled OR a_number and_number

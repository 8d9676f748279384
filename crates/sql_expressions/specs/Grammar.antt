-- The grammar of expressions: which tokens spell which tree. Numbers are sections of PostgreSQL 17's manual.
use Rattle.std.specs.Prelude.{◌≡◌, ℕ, suc, ◌+◌, ◌<◌, max, Bool, true, false, List, [], ◌∷◌, ◌++◌, Option, Some, None}
use Rattle.iso_lexer.specs.declared.limits.TheConstants.{MAX_DEPTH}
use Rattle.iso_lexer.specs.declared.token.At.{At}
use Rattle.iso_lexer.specs.declared.sql_token.SqlSign.TheVariants as signs
use Rattle.sql_trees.specs.declared.word.Word.{Word}
use Rattle.sql_trees.specs.declared.word.Word.TheVariants as words
use Rattle.sql_trees.specs.declared.expr.Operator.{Operator}
use Rattle.sql_trees.specs.declared.expr.Truth.{Truth}
use Rattle.sql_trees.specs.Tokens.{Token, Tokens, named}
use Rattle.sql_trees.specs.Tokens as tok
use Rattle.sql_trees.specs.Trees.{Tree, Trees, none, more, Null, Flag, Number, Text, Column, Plus, Not, Binary, Is, In, Between, undoubled}
use Rattle.sql_expressions.specs.declared.level.Chain.TheVariants as levels
use Rattle.sql_expressions.specs.Build.{negated, push}
use Rattle.sql_expressions.specs.Reading.{Part, operators, comparison_op, truth_of}

-- the token is this keyword, in whatever letters
abbrev pub IsWord : Word → Token → Type 0
IsWord w t = (s : List ℕ) × (t ≡ tok.word w s)

-- the levels of operators, the loosest first (4.1.6)
pub data Level : Type 0 where
  OR : Level
  AND : Level
  NOT : Level
  -- IS TRUE, IS NULL and their like
  IS : Level
  -- < > = <= >= <>
  CMP : Level
  -- BETWEEN and IN
  INN : Level
  -- ||, and with it each operator that has no level of its own
  CAT : Level
  -- + and -
  ADD : Level
  -- * / %
  MUL : Level
  -- the signs + and - before an operand
  UNA : Level
  -- a literal, a name, or an expression in parentheses
  PRIM : Level

abbrev pub tighter : Level → Level
tighter OR = AND
tighter AND = NOT
tighter NOT = IS
tighter IS = CMP
tighter CMP = INN
tighter INN = CAT
tighter CAT = ADD
tighter ADD = MUL
tighter MUL = UNA
tighter UNA = PRIM
tighter PRIM = PRIM

-- the operators whose chains group to the left
abbrev pub operator_at : Level → Token → Option Operator
operator_at OR = operators levels.Or
operator_at AND = operators levels.And
operator_at CAT = operators levels.Concat
operator_at ADD = operators levels.Sum
operator_at MUL = operators levels.Product
operator_at _ = λ t. None

-- the tokens are this keyword alone
abbrev pub OneWord : Word → Tokens → Type 0
OneWord w tokens = (word : At Token) × (tokens ≡ word ∷ []) × (IsWord w word.tok)

-- the tokens are these two keywords
abbrev pub TwoWords : Word → Word → Tokens → Type 0
TwoWords v w tokens = (first second : At Token) × (tokens ≡ first ∷ second ∷ []) × (IsWord v first.tok) × (IsWord w second.tok)

-- [NOT] IN (9.25)
abbrev pub IsIn : Bool → Tokens → Type 0
IsIn false = OneWord words.In
IsIn true = TwoWords words.Not words.In

-- [NOT] BETWEEN (9.2)
abbrev pub IsBetween : Bool → Tokens → Type 0
IsBetween false = OneWord words.Between
IsBetween true = TwoWords words.Not words.Between

-- IS [NOT] (9.2)
abbrev pub IsIs : Bool → Tokens → Type 0
IsIs false = OneWord words.Is
IsIs true = TwoWords words.Is words.Not

-- a literal (4.1.2) or a name (4.2.1)
pub data IsLeaf : Token → Tree → Type 0 where
  number : (value : ℕ) → IsLeaf (tok.number value) (Number false value)
  text : (quoted : List ℕ) → IsLeaf (tok.string quoted) (Text (undoubled quoted))
  column : (token : Token) (name : List ℕ) → named token ≡ Some name → IsLeaf token (Column name)
  yes : (spelling : List ℕ) → IsLeaf (tok.word words.True spelling) (Flag true)
  no : (spelling : List ℕ) → IsLeaf (tok.word words.False spelling) (Flag false)
  null : (spelling : List ℕ) → IsLeaf (tok.word words.Null spelling) Null

mutual
  -- The tokens spell the tree at this level, with this depth, where so many openings may still be made and no node is deeper than the limit.
  pub data SpellsIn (limit : ℕ) : ℕ → Level → Tokens → Tree → ℕ → Type 0 where
    -- what binds tighter
    only : {room : ℕ} (level : Level) (tokens : Tokens) (tree : Tree) (depth : ℕ) →
        SpellsIn limit room (tighter level) tokens tree depth →
        SpellsIn limit room level tokens tree depth
    -- left operator right: OR and AND (9.1), || (9.4), + - * / % (9.3); they group to the left
    chain : {room : ℕ} (level : Level) (before behind : Tokens) (sign : At Token) (operator : Operator) (left right : Tree) (c d : ℕ) →
        SpellsIn limit room level before left c → operator_at level sign.tok ≡ Some operator → SpellsIn limit room (tighter level) behind right d → max c d < limit →
        SpellsIn limit room level (before ++ sign ∷ behind) (Binary operator left right) (max c d + 1)
    -- NOT condition (9.1)
    negation : {room : ℕ} (tokens : Tokens) (not_word : At Token) (condition : Tree) (d : ℕ) →
        IsWord words.Not not_word.tok → SpellsIn limit room NOT tokens condition d → d < limit →
        SpellsIn limit (suc room) NOT (not_word ∷ tokens) (Not condition) (d + 1)
    -- operand IS [NOT] (NULL | TRUE | FALSE | UNKNOWN) (9.2)
    is : {room : ℕ} (tokens is_words : Tokens) (asked : At Token) (negated : Bool) (truth : Truth) (operand : Tree) (d : ℕ) →
        SpellsIn limit room CMP tokens operand d → IsIs negated is_words → truth_of asked.tok ≡ Some truth → d < limit →
        SpellsIn limit room IS (tokens ++ (is_words ++ asked ∷ [])) (Is operand negated truth) (d + 1)
    -- left (< | > | = | <= | >= | <>) right, with no further comparison in either (9.2)
    comparison : {room : ℕ} (before behind : Tokens) (sign : At Token) (operator : Operator) (left right : Tree) (c d : ℕ) →
        SpellsIn limit room INN before left c → comparison_op sign.tok ≡ Some operator → SpellsIn limit room INN behind right d → max c d < limit →
        SpellsIn limit room CMP (before ++ sign ∷ behind) (Binary operator left right) (max c d + 1)
    -- operand [NOT] IN "(" value {"," value} ")" (9.25)
    contained : {room : ℕ} (tokens in_words items : Tokens) (opening closing : At Token) (negated : Bool) (operand : Tree) (values : Trees) (c d : ℕ) →
        SpellsIn limit (suc room) CAT tokens operand c → IsIn negated in_words →
        opening.tok ≡ tok.sign signs.Open → ItemsIn limit room items values d → closing.tok ≡ tok.sign signs.Close → max c d < limit →
        SpellsIn limit (suc room) INN (tokens ++ (in_words ++ opening ∷ (items ++ closing ∷ []))) (In operand negated values) (max c d + 1)
    -- operand [NOT] BETWEEN low AND high (9.2)
    between : {room : ℕ} (tokens between_words lower upper : Tokens) (and_word : At Token) (negated : Bool) (operand low high : Tree) (b c d : ℕ) →
        SpellsIn limit room CAT tokens operand b → IsBetween negated between_words →
        SpellsIn limit room CAT lower low c → IsWord words.And and_word.tok → SpellsIn limit room CAT upper high d → max b (max c d) < limit →
        SpellsIn limit room INN (tokens ++ (between_words ++ (lower ++ and_word ∷ upper))) (Between operand negated low high) (max b (max c d) + 1)
    -- - operand (9.3)
    minus : {room : ℕ} (tokens : Tokens) (sign : At Token) (operand : Tree) (d : ℕ) →
        sign.tok ≡ tok.sign signs.Minus → SpellsIn limit room UNA tokens operand d → d < limit →
        SpellsIn limit (suc room) UNA (sign ∷ tokens) (negated operand) (d + 1)
    -- + operand (9.3)
    plus : {room : ℕ} (tokens : Tokens) (sign : At Token) (operand : Tree) (d : ℕ) →
        sign.tok ≡ tok.sign signs.Plus → SpellsIn limit room UNA tokens operand d → d < limit →
        SpellsIn limit (suc room) UNA (sign ∷ tokens) (Plus operand) (d + 1)
    -- "(" expression ")" (4.2)
    parens : {room : ℕ} (tokens : Tokens) (opening closing : At Token) (inner : Tree) (d : ℕ) →
        opening.tok ≡ tok.sign signs.Open → SpellsIn limit room OR tokens inner d → closing.tok ≡ tok.sign signs.Close → d < limit →
        SpellsIn limit (suc room) PRIM (opening ∷ (tokens ++ closing ∷ [])) inner (d + 1)
    literal : {room : ℕ} (token : At Token) (leaf : Tree) → IsLeaf token.tok leaf → SpellsIn limit room PRIM (token ∷ []) leaf 0

  -- value {"," value}
  pub data ItemsIn (limit : ℕ) : ℕ → Tokens → Trees → ℕ → Type 0 where
    one : {room : ℕ} (tokens : Tokens) (value : Tree) (d : ℕ) → SpellsIn limit room OR tokens value d → ItemsIn limit room tokens (more value none) d
    next : {room : ℕ} (before behind : Tokens) (comma : At Token) (values : Trees) (value : Tree) (c d : ℕ) →
        ItemsIn limit room before values c → comma.tok ≡ tok.sign signs.Comma → SpellsIn limit room OR behind value d →
        ItemsIn limit room (before ++ comma ∷ behind) (push values value) (max c d)

-- the same, where no node is deeper than 64
abbrev pub Spells : ℕ → Level → Tokens → Tree → ℕ → Type 0
Spells = SpellsIn MAX_DEPTH

abbrev pub Items : ℕ → Tokens → Trees → ℕ → Type 0
Items = ItemsIn MAX_DEPTH

-- the tokens begin with a spelling of what was found, and the rest is left
pub record Begins (ts : Tokens) (f : Part × Tokens) : Type 0 where
  pub front : Tokens
  pub whole : ts ≡ front ++ f.1
  pub spells : Spells MAX_DEPTH OR front f.0.tree f.0.depth

-- a token that an expression goes on with
abbrev pub may_go_on : Token → Bool
may_go_on (tok.word words.And s) = true
may_go_on (tok.word words.Between s) = true
may_go_on (tok.word words.In s) = true
may_go_on (tok.word words.Is s) = true
may_go_on (tok.word words.Not s) = true
may_go_on (tok.word words.Or s) = true
may_go_on (tok.sign signs.Close) = false
may_go_on (tok.sign signs.Comma) = false
may_go_on (tok.sign signs.Semicolon) = false
may_go_on (tok.sign signs.Dot) = false
may_go_on (tok.sign signs.Cast) = false
may_go_on (tok.sign s) = true
may_go_on _ = false

-- an expression before these tokens does not go on with them
abbrev pub Ends : Tokens → Type 0
Ends [] = Unit {0}
Ends (t ∷ ts) = may_go_on t.tok ≡ false

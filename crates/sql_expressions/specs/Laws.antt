-- What is so of every list of tokens.
use Rattle.std.specs.Prelude.{◌≡◌, ℕ, true, false, List, [], ◌∷◌, ◌++◌, Option, Some, None, Ok, Err, ◌⊎◌, if◌then◌else◌}
use Rattle.iso_lexer.specs.declared.limits.TheConstants.{MAX_DEPTH}
use Rattle.iso_lexer.specs.declared.token.At.{At}
use Rattle.iso_lexer.specs.declared.sql_token.SqlSign.TheVariants as signs
use Rattle.sql_trees.specs.declared.fault.SqlFault.{SqlFault}
use Rattle.sql_trees.specs.declared.fault.SqlFault.TheVariants.{Syntax, LeftOut, TooDeep}
use Rattle.sql_trees.specs.Tokens.{Token, Tokens, named}
use Rattle.sql_trees.specs.Tokens as tok
use Rattle.sql_trees.specs.Trees.{Tree}
use Rattle.sql_expressions.specs.Readers.{left_out}
use Rattle.sql_expressions.specs.Reading.{Part, is_call, expr_at}
use Rattle.sql_expressions.specs.Grammar.{Level, OR, SpellsIn, Spells, Ends, may_go_on}

abbrev pub head : Tokens → Option (At Token)
head [] = None
head (t ∷ ts) = Some t

-- the tokens spell an expression at this level, whatever its depth
abbrev pub Spelled : Level → Tokens → Type 0
Spelled l ts = (limit room : ℕ) × (e : Tree) × (d : ℕ) × SpellsIn limit room l ts e d

-- How a token is refused that can't stand behind these: as LeftOut where it stands for a part of SQL that is left out, and at the `(` of a call,
-- or at its name where that is an aggregate's; else as Syntax. last is the text's length, where its end is refused.
pub data Refuses (last : ℕ) : Tokens → Tokens → SqlFault → Type 0 where
  ended : (front : Tokens) → Refuses last front [] (Syntax last)
  misplaced : (front rest : Tokens) (t : At Token) → left_out t.tok ≡ false → Refuses last front (t ∷ rest) (Syntax t.span.start)
  excluded : (front rest : Tokens) (t : At Token) → left_out t.tok ≡ true → Refuses last front (t ∷ rest) (LeftOut t.span.start)
  called : (before rest : Tokens) (name paren : At Token) (n : List ℕ) →
      named name.tok ≡ Some n → paren.tok ≡ tok.sign signs.Open →
      Refuses last (before ++ name ∷ []) (paren ∷ rest) (LeftOut (if is_call name.tok then name.span.start else paren.span.start))

-- a fault of one token that can't be
abbrev pub IsRefusal : SqlFault → Type 0
IsRefusal (Syntax place) = Unit {0}
IsRefusal (LeftOut place) = Unit {0}
IsRefusal _ = ⊥

-- A refusal is at the first token that can't be: the tokens before it begin an expression, whatever its depth. A list that
-- has the same tokens up to there and the same next token has no whole one at its front, whatever follows; and reading it stops there too.
pub record StopsFirst (last : ℕ) (ts : Tokens) (fault : SqlFault) : Type 0 where
  pub front : Tokens
  pub rest : Tokens
  pub split : ts ≡ front ++ rest
  pub refuses : Refuses last front rest fault
  pub begins : (more : Tokens) × Spelled OR (front ++ more)
  pub stays : (others : Tokens) → head others ≡ head rest → expr_at last (front ++ others) ≡ Err fault
  pub stuck : (others fs bs : Tokens) → head others ≡ head rest → front ++ others ≡ fs ++ bs → Spelled OR fs → Ends bs → ⊥

abbrev pub FaultsAreFirst : Type 0
FaultsAreFirst = (last : ℕ) (ts : Tokens) (fault : SqlFault) → IsRefusal fault → expr_at last ts ≡ Err fault → StopsFirst last ts fault

-- a token of these makes a node, and stands at this place
abbrev pub Makes : ℕ → Tokens → Type 0
Makes place ts = (before behind : Tokens) × (t : At Token) × (ts ≡ before ++ t ∷ behind) × (may_go_on t.tok ≡ true) × (place ≡ t.span.start)

abbrev pub first : Tokens → Tokens
first [] = []
first (t ∷ ts) = t ∷ []

-- Too deep is told at a token that makes a node, where the tokens that were read begin an expression, whatever its depth, but none within the limits
-- has them and the next token; a list that has the same tokens and the same next token is too deep at the same place.
pub record DeepFirst (last : ℕ) (ts : Tokens) (place : ℕ) : Type 0 where
  pub front : Tokens
  pub rest : Tokens
  pub split : ts ≡ front ++ rest
  pub makes : Makes place (front ++ first rest)
  pub begins : (more : Tokens) × Spelled OR (front ++ more)
  pub stays : (others : Tokens) → head others ≡ head rest → expr_at last (front ++ others) ≡ Err (TooDeep place)
  pub beyond : (others fs bs : Tokens) (e : Tree) (d : ℕ) → head others ≡ head rest → front ++ others ≡ fs ++ bs → Spells MAX_DEPTH OR fs e d → Ends bs → ⊥

abbrev pub DeepIsFirst : Type 0
DeepIsFirst = (last place : ℕ) (ts : Tokens) → expr_at last ts ≡ Err (TooDeep place) → DeepFirst last ts place

-- An expression that is read takes the front of the tokens. A list that has the same front and the same next token is read as the same
-- expression, whatever follows.
pub record TakesFront (last : ℕ) (ts : Tokens) (f : Part × Tokens) : Type 0 where
  pub front : Tokens
  pub split : ts ≡ front ++ f.1
  pub stays : (others : Tokens) → head others ≡ head f.1 → expr_at last (front ++ others) ≡ Ok (f.0, others)

abbrev pub FrontsAreTaken : Type 0
FrontsAreTaken = (last : ℕ) (ts : Tokens) (f : Part × Tokens) → expr_at last ts ≡ Ok f → TakesFront last ts f

-- An expression at the front of the tokens, whatever its depth, is read whole, or is too deep.
abbrev pub ExpressionsAreRead : Type 0
ExpressionsAreRead = (last : ℕ) (ts rest : Tokens) → Spelled OR ts → Ends rest →
    ((part : Part) × (expr_at last (ts ++ rest) ≡ Ok (part, rest))) ⊎ ((place : ℕ) × (expr_at last (ts ++ rest) ≡ Err (TooDeep place)))

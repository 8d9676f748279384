-- Where a statement is refused, and with which fault.
use Rattle.std.specs.Prelude.{◌≡◌, ℕ, true, ◌&&◌, ◌||◌, List, [], ◌∷◌, ◌++◌}
use Rattle.iso_lexer.specs.declared.token.At.{At}
use Rattle.iso_lexer.specs.declared.sql_token.SqlSign.TheVariants as signs
use Rattle.sql_trees.specs.declared.fault.SqlFault.{SqlFault}
use Rattle.sql_trees.specs.declared.fault.SqlFault.TheVariants.{Syntax, LeftOut, TooDeep, BadColumns}
use Rattle.sql_trees.specs.declared.word.Word.TheVariants as words
use Rattle.sql_trees.specs.Tokens.{Token, Tokens}
use Rattle.sql_trees.specs.Trees.{Tree}
use Rattle.sql_expressions.specs.Readers.{misplaced, place_of, is_sign, is_word}
use Rattle.sql_expressions.specs.Laws.{Makes, first}
use Rattle.sql_expressions.specs.Laws as expr
use Rattle.sql_parser.specs.Grammar.{is_unquoted, Names, RowIs}

-- a fault of one token that can't stand there
abbrev pub IsStop : SqlFault → Type 0
IsStop (Syntax n) = Unit {0}
IsStop (LeftOut n) = Unit {0}
IsStop (TooDeep n) = Unit {0}
IsStop (BadColumns n) = Unit {0}
IsStop _ = ⊥

-- a statement that has kinds, or a parameter behind SET
abbrev pub WantsWords : Tokens → Type 0
WantsWords [] = ⊥
WantsWords (t ∷ ts) = (is_word words.Create t.tok || is_word words.Set t.tok) ≡ true

-- what ON CONFLICT has in PostgreSQL and not here: `(` behind CONFLICT, UPDATE behind DO (INSERT, "ON CONFLICT Clause")
abbrev pub IsLeftOutBehind : At Token → At Token → Type 0
IsLeftOutBehind behind t = ((is_word words.Conflict behind.tok && is_sign signs.Open t.tok) || (is_word words.Do behind.tok && is_word words.Update t.tok)) ≡ true

-- How a statement of which this much has been read is refused at the next token, or at the text's end. last is the text's length, or where the next
-- semicolon stands; W says that the statement has kinds or a parameter, and Begins of tokens that some statement begins with them.
pub data Refuses (last : ℕ) (E : Tokens → Tree → Type 0) (W : Type 0) (Begins : Tokens → Type 0) : Tokens → Tokens → SqlFault → Type 0 where
  -- as LeftOut, if the token stands for a part of SQL that is left out, else as Syntax
  at_next : (front rest : Tokens) → Refuses last E W Begins front rest (misplaced last rest)
  -- as LeftOut at any unquoted word, where a kind or a parameter has to stand
  at_word : (front rest : Tokens) (t : At Token) → W → is_unquoted t.tok ≡ true → Refuses last E W Begins front (t ∷ rest) (LeftOut t.span.start)
  -- as LeftOut at the `(` of a conflict's target, and at the UPDATE of DO UPDATE
  at_conflict : (front rest : Tokens) (behind t : At Token) → IsLeftOutBehind behind t → Refuses last E W Begins (front ++ behind ∷ []) (t ∷ rest) (LeftOut t.span.start)
  -- as BadColumns at a name with which a statement could go on, were it not for the names before it
  at_name : (front rest : Tokens) (t : At Token) (n : List ℕ) → Names n t → Begins (front ++ t ∷ []) → Refuses last E W Begins front (t ∷ rest) (BadColumns t.span.start)
  -- as Syntax at the first token of a whole row of VALUES that ends there
  at_row : (before row rest : Tokens) (es : List Tree) → RowIs E row es → Refuses last E W Begins (before ++ row) rest (Syntax (place_of last row))
  -- as an expression is refused, of which this much has been read
  in_expression : (before here rest : Tokens) (f : SqlFault) → expr.Refuses last here rest f → Refuses last E W Begins (before ++ here) rest f
  -- as TooDeep at a token of an expression that makes a node
  too_deep : (before here rest : Tokens) (place : ℕ) → Makes place (here ++ first rest) → Refuses last E W Begins (before ++ here) rest (TooDeep place)

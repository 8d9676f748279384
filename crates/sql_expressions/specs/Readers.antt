-- To be believed. Reading from left to right with the first fault that is met: words of reading, for expressions and for statements.
use Rattle.std.specs.Prelude.{ℕ, zero, suc, Bool, false, ◌||◌, List, [], ◌∷◌, ◌++◌, length, Option, Some, None, Result, Ok, Err, ok_or, if◌then◌else◌}
use Rattle.std.specs.Option.{option_map_or}
use denote.Enum.Bare.{sameb}
use Rattle.iso_lexer.specs.declared.sql_token.SqlSign.{SqlSign}
use Rattle.iso_lexer.specs.declared.sql_token.SqlSign.TheVariants as signs
use Rattle.iso_lexer.specs.contracts.sql_token.SqlSign.{the_type}
pub use Rattle.iso_lexer.specs.Readers.{◌>>=◌, gives, place_of}
use Rattle.iso_lexer.specs.Readers.{ReaderOf}
use Rattle.iso_lexer.specs.Results.{if_ok}
use Rattle.sql_trees.specs.declared.fault.SqlFault.{SqlFault}
use Rattle.sql_trees.specs.declared.fault.SqlFault.TheVariants.{Syntax, LeftOut}
use Rattle.sql_trees.specs.declared.word.Word.{Word}
use Rattle.sql_trees.specs.Words.{is_left_out, same_word}
use Rattle.sql_trees.specs.Tokens.{Token, Tokens, named}
use Rattle.sql_trees.specs.Tokens as tok

infixr 10 ◌>>◌
-- what reads a value: it answers the value and the tokens behind it, or the first fault
abbrev pub Reader : Type 0 → Type 0
Reader X = ReaderOf Tokens SqlFault X

-- what has to stand next, and a reader behind it
abbrev pub ◌>>◌ : {X : Type 0} → (Tokens → Result Tokens SqlFault) → Reader X → Reader X
◌>>◌ pass reader ts = if_ok (pass ts) reader

-- what is made of the value that is read
abbrev pub made : {X Y : Type 0} → (X → Y) → Reader X → Reader Y
made make reader ts = if_ok (reader ts) (λ x. Ok (make x.0, x.1))

-- ---- the first token

-- the token is this keyword, in whatever letters
abbrev pub is_word : Word → Token → Bool
is_word w t = elim t [ tok.word v s ↦ same_word v w | other ↦ false ]

-- the token is this sign
abbrev pub is_sign : SqlSign → Token → Bool
is_sign s t = elim t [ tok.sign r ↦ sameb the_type r s | other ↦ false ]

-- a token that stands for a part that is left out
abbrev pub left_out : Token → Bool
left_out t = elim t [ tok.word w s ↦ is_left_out w | other ↦ is_sign signs.Dot other || is_sign signs.Cast other ]

-- the tokens behind the next, if it is of this kind
abbrev pub after : (Token → Bool) → Tokens → Option Tokens
after is_it [] = None
after is_it (t ∷ ts) = if is_it t.tok then Some ts else None

-- where the first token is of this kind, what is read behind it, else what others read
abbrev pub either : {R : Type 0} → (Token → Bool) → (Tokens → R) → (Tokens → R) → Tokens → R
either is_it behind others ts = option_map_or behind (after is_it ts) (others ts)

-- where the first token says something, what that lets be read behind it, else what others read
abbrev pub by_first : {X R : Type 0} → (Token → Option X) → (X → Tokens → R) → (Tokens → R) → Tokens → R
by_first says behind others [] = others []
by_first says behind others (t ∷ ts) = option_map_or (λ x. behind x ts) (says t.tok) (others (t ∷ ts))

-- what the first token says, or a fault of the tokens
abbrev pub one_at : {X : Type 0} → (Tokens → SqlFault) → (Token → Option X) → Reader X
one_at fault says = by_first says gives (λ ts. Err (fault ts))

-- ---- lists

-- one more item behind each comma, as many as there are tokens at most
unfoldable pub more_at : {S : Type 0} → (S → Reader S) → ℕ → S → Reader S
more_at add zero s ts = Ok (s, ts)
more_at add (suc n) s ts = either (is_sign signs.Comma) (add s >>= more_at add n) (gives s) ts

-- one more item behind these
abbrev pub added : {X : Type 0} → Reader X → List X → Reader (List X)
added reader xs = made (λ x. xs ++ x ∷ []) reader

-- items with commas between them, each added to what was read before it
unfoldable pub items_at : {S : Type 0} → (S → Reader S) → S → Reader S
items_at add s ts = (add s >>= more_at add (length ts)) ts

-- ---- with the text's length

module _ (last : ℕ) where
  -- the fault at the first token that no rule allows
  abbrev pub misplaced : Tokens → SqlFault
  misplaced [] = Syntax last
  misplaced (t ∷ ts) = if left_out t.tok then LeftOut t.span.start else Syntax t.span.start

  -- the tokens behind the next, which has to be of this kind
  abbrev pub expect : (Token → Bool) → Tokens → Result Tokens SqlFault
  expect is_it ts = ok_or (after is_it ts) (misplaced ts)

  -- the tokens behind this keyword, which has to stand next
  abbrev pub keyword : Word → Tokens → Result Tokens SqlFault
  keyword w = expect (is_word w)

  -- what is made of what stands before a closing parenthesis
  abbrev pub closed : {X Y : Type 0} → (X → Y) → Reader X → Reader Y
  closed make reader ts = if_ok (reader ts) (λ x. if_ok (expect (is_sign signs.Close) x.1) (λ rest. Ok (make x.0, rest)))

  -- a name
  abbrev pub name_at : Reader (List ℕ)
  name_at = one_at misplaced named

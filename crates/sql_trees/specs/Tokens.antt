-- To be believed. Tokens of SQL text, each word with its keyword.
use Rattle.std.specs.Prelude.{ℕ, List, ◌∷◌, map, Option, Some, None, if◌then◌else◌}
use Rattle.iso_lexer.specs.declared.token.At.{At}
pub use Rattle.iso_lexer.specs.SqlTokens.{word, quoted, string, number, sign}
use Rattle.iso_lexer.specs.SqlTokens.{SqlTokenOf, SqlToken, telling}
use Rattle.iso_lexer.specs.Names as names
use Rattle.sql_trees.specs.declared.word.Word.{Word}
use Rattle.sql_trees.specs.declared.token.Tok.{Tok}
use Rattle.sql_trees.specs.declared.token.Tok.TheVariants as toks
use Rattle.sql_trees.specs.Words.{word_of, is_reserved}

-- a token, of a word also the keyword that it is
abbrev pub Token : Type 0
Token = SqlTokenOf Word

abbrev pub Tokens : Type 0
Tokens = List (At Token)

abbrev pub tok_view : Tok → Token
tok_view (toks.Word w s) = word w s.now
tok_view (toks.Quoted s) = quoted s.now
tok_view (toks.Text s) = string s.now
tok_view (toks.Number n) = number n
tok_view (toks.Sign s) = sign s

abbrev pub tok_at : At Tok → At Token
tok_at t = record { tok = tok_view t.tok; span = t.span }

abbrev pub tok_views : List (At Tok) → Tokens
tok_views ts = map tok_at ts

-- a token of the text, with the keyword that it is
abbrev pub classify : SqlToken → Token
classify t = telling word_of t

abbrev pub classify_at : At SqlToken → At Token
classify_at t = record { tok = classify t.tok; span = t.span }

-- the bytes that a token names: an unquoted word in lower case, unless it is reserved, or what stands in quotes, which may not be empty
abbrev pub named : Token → Option (List ℕ)
named (word w s) = if is_reserved w then None else Some (names.decoded (names.folded s))
named (quoted (b ∷ bs)) = Some (names.decoded (names.quoted (b ∷ bs)))
named _ = None

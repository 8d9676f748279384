-- To be believed. The tokens of SQL text.
use Rattle.std.specs.Prelude.{ℕ, List, map}
use Rattle.iso_lexer.specs.declared.sql_token.SqlSign.{SqlSign}
use Rattle.iso_lexer.specs.declared.sql_token.SqlTok.{SqlTok}
use Rattle.iso_lexer.specs.declared.sql_token.SqlTok.TheVariants as toks
use Rattle.iso_lexer.specs.declared.token.At.{At}

-- a token, without where it lies in memory; of a word this is told, beside its letters
pub data SqlTokenOf (W : Type 0) : Type 0 where
  word : W → List ℕ → SqlTokenOf W
  quoted : List ℕ → SqlTokenOf W
  string : List ℕ → SqlTokenOf W
  number : ℕ → SqlTokenOf W
  sign : SqlSign → SqlTokenOf W

-- a token of the lexer, which tells nothing of a word
abbrev pub SqlToken : Type 0
SqlToken = SqlTokenOf (Unit {0})

-- the same token, with this told of a word
abbrev pub telling : {W : Type 0} → (List ℕ → W) → SqlToken → SqlTokenOf W
telling told (word _ s) = word (told s) s
telling told (quoted s) = quoted s
telling told (string s) = string s
telling told (number n) = number n
telling told (sign s) = sign s

abbrev pub sql_view : SqlTok → SqlToken
sql_view (toks.Word s) = word tt s.now
sql_view (toks.Quoted s) = quoted s.now
sql_view (toks.Text s) = string s.now
sql_view (toks.Number n) = number n
sql_view (toks.Sign s) = sign s

abbrev pub sql_at_view : At SqlTok → At SqlToken
sql_at_view t = record { tok = sql_view t.tok; span = t.span }

abbrev pub sql_at_views : List (At SqlTok) → List (At SqlToken)
sql_at_views ts = map sql_at_view ts

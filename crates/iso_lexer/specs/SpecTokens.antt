-- To be believed. The tokens of a spec file.
use Rattle.std.specs.Prelude.{ℕ, List, map}
use Rattle.iso_lexer.specs.declared.spec_token.Keyword.{Keyword}
use Rattle.iso_lexer.specs.declared.spec_token.Sign.{Sign}
use Rattle.iso_lexer.specs.declared.spec_token.SpecTok.{SpecTok}
use Rattle.iso_lexer.specs.declared.spec_token.SpecTok.TheVariants as toks
use Rattle.iso_lexer.specs.declared.token.At.{At}
use Rattle.iso_lexer.specs.Names.{Written, name_view}

-- a token, without where it lies in memory
pub data SpecToken : Type 0 where
  keyword : Keyword → SpecToken
  name : Written → SpecToken
  digits : List ℕ → SpecToken
  sign : Sign → SpecToken
  -- the blanks dropped behind the brace, and the text
  block : ℕ → List ℕ → SpecToken

abbrev pub token_view : SpecTok → SpecToken
token_view (toks.Keyword k) = keyword k
token_view (toks.Name n) = name (name_view n)
token_view (toks.Digits s) = digits s.now
token_view (toks.Sign s) = sign s
token_view (toks.Block blanks s) = block blanks s.now

abbrev pub at_view : At SpecTok → At SpecToken
at_view t = record { tok = token_view t.tok; span = t.span }

abbrev pub at_views : List (At SpecTok) → List (At SpecToken)
at_views ts = map at_view ts

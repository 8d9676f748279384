-- Where the text of a block begins.
use Rattle.std.specs.Prelude.{ℕ, ◌+◌, ◌<◌, ◌^◌, List, length, slice_index_or}
use Rattle.iso_lexer.specs.declared.token.At.{At}
use Rattle.iso_lexer.specs.declared.spec_token.SpecTok.{SpecTok}
use Rattle.iso_lexer.specs.SpecTokens.{SpecToken, block, at_view}

abbrev pub text_start_of : SpecToken → ℕ → ℕ
text_start_of (block blanks sql) at = at + 1 + blanks
text_start_of _ at = 0

-- the byte at which a block's text begins, behind the brace and its blanks
abbrev pub text_start : At SpecToken → ℕ
text_start t = text_start_of t.tok t.span.start

-- each of these places is a number of 64 bits
abbrev pub FitsAll : List (At SpecTok) → Type 0
FitsAll ts = (k : ℕ) (t : At SpecTok) → k < length ts → text_start (at_view (slice_index_or ts k t)) < 2 ^ 64

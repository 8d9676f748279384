-- What stands before a place of a file.
use Rattle.std.specs.Prelude.{ℕ, ◌+◌, List, [], ◌∷◌}
use Rattle.iso_lexer.specs.declared.token.At.{At}
use Rattle.iso_lexer.specs.declared.spec_token.Keyword.TheVariants.{Session, Step}
use Rattle.iso_lexer.specs.SpecTokens.{SpecToken, keyword, block}

-- how many blocks, words `session` and words `step`
pub record Counts : Type 0 where
  pub blocks : ℕ
  pub sessions : ℕ
  pub steps : ℕ

abbrev pub start : Counts
start = record { blocks = 0; sessions = 0; steps = 0 }

abbrev pub past_token : SpecToken → Counts → Counts
past_token (keyword Session) c = record c { sessions = c.sessions + 1 }
past_token (keyword Step) c = record c { steps = c.steps + 1 }
past_token (block blanks sql) c = record c { blocks = c.blocks + 1 }
past_token _ c = c

-- what stands before the place behind these tokens
abbrev pub past : Counts → List (At SpecToken) → Counts
past c [] = c
past c (t ∷ ts) = past (past_token t.tok c) ts

-- Where a token of a spec file lies in its text.
use Rattle.std.specs.Prelude.{◌≡◌, ℕ, List, [], ◌∷◌, ◌++◌, Some, bytes_eq}
use Rattle.iso_lexer.specs.Names.{Written, plain, quoted, folded}
use Rattle.iso_lexer.specs.Bytes.{row_of}
use Rattle.iso_lexer.specs.SpecTokens.{SpecToken, keyword, name, digits, sign, block}
use Rattle.iso_lexer.specs.SpecText.{spec_keywords, spec_signs, block_token}
use Rattle.iso_lexer.specs.Lexing.{SpelledAt}
use Rattle.iso_lexer.specs.declared.token.At.{At}

abbrev pub NameSpells : Written → List ℕ → Type 0
NameSpells (plain w) s = s ≡ w
NameSpells (quoted w) s = s ≡ 34 ∷ (w ++ 34 ∷ [])
NameSpells (folded w) s = ⊥

-- the bytes s are this token as it is written
abbrev pub Spells : SpecToken → List ℕ → Type 0
Spells (keyword k) s = row_of bytes_eq spec_keywords s ≡ Some k
Spells (name n) s = NameSpells n s
Spells (digits d) s = s ≡ d
Spells (sign g) s = row_of bytes_eq spec_signs s ≡ Some g
Spells (block n b) s = (inner : List ℕ) × (s ≡ 123 ∷ (inner ++ 125 ∷ [])) × (block n b ≡ block_token inner)

-- each token is the slice at its span
abbrev pub LiesAt : List ℕ → At SpecToken → Type 0
LiesAt text t = SpelledAt Spells text t

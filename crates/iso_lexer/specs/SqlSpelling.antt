-- How a token of SQL text is spelled.
use Rattle.std.specs.Prelude.{◌≡◌, ℕ, List, [], ◌∷◌, ◌++◌, Some, bytes_eq}
use Rattle.std.specs.Str.Parse.{IsNumeral, digits_value}
use Rattle.iso_lexer.specs.Bytes.{row_of}
use Rattle.iso_lexer.specs.SqlTokens.{SqlToken, word, quoted, string, number, sign}
use Rattle.iso_lexer.specs.SqlText.{sql_signs}
use Rattle.iso_lexer.specs.Lexing.{SpelledAt}
use Rattle.iso_lexer.specs.declared.token.At.{At}

-- the bytes s are this token as it is written
abbrev pub SqlSpells : SqlToken → List ℕ → Type 0
SqlSpells (word _ w) s = s ≡ w
SqlSpells (quoted w) s = s ≡ 34 ∷ (w ++ 34 ∷ [])
SqlSpells (string w) s = s ≡ 39 ∷ (w ++ 39 ∷ [])
SqlSpells (number n) s = IsNumeral 10 s × (digits_value 10 s ≡ n)
SqlSpells (sign g) s = row_of bytes_eq sql_signs s ≡ Some g

-- each token is the slice at its span
abbrev pub SqlLiesAt : List ℕ → At SqlToken → Type 0
SqlLiesAt text t = SpelledAt SqlSpells text t

-- What is said of a column, one constraint at a time.
use Rattle.std.specs.Prelude.{ℕ, Bool, true, false, [], ◌∷◌, Err}
use Rattle.sql_trees.specs.declared.word.Word.TheVariants as words
use Rattle.sql_trees.specs.Tokens.{Token, Tokens}
use Rattle.sql_trees.specs.Tokens as tok
use Rattle.sql_expressions.specs.Readers.{misplaced, Reader, gives, keyword, ◌>>◌}
use Rattle.sql_parser.specs.Tables.{Placed}
use Rattle.sql_parser.specs.Grammar.{Constraints, key_limit}

abbrev pub is_constraint : Token → Bool
is_constraint (tok.word words.Not s) = true
is_constraint (tok.word words.Primary s) = true
is_constraint (tok.word words.Unique s) = true
is_constraint _ = false

abbrev pub constrained : Tokens → Bool
constrained [] = false
constrained (t ∷ ts) = is_constraint t.tok

module _ (last : ℕ) where
  -- NOT NULL, PRIMARY KEY or UNIQUE behind a column
  abbrev pub constraint_of : Placed → Constraints → Token → Tokens → Reader Constraints
  constraint_of c s (tok.word words.Not w) ts rest = (keyword last words.Null >> gives (record { not_null = true; keys = s.keys })) rest
  constraint_of c s (tok.word words.Primary w) ts rest = (keyword last words.Key >> gives (key_limit true c s)) rest
  constraint_of c s (tok.word words.Unique w) ts rest = gives (key_limit false c s) rest
  constraint_of c s _ ts rest = Err (misplaced last ts)

  abbrev pub constraint_at : Placed → Constraints → Reader Constraints
  constraint_at c s [] = Err (misplaced last [])
  constraint_at c s (t ∷ ts) = constraint_of c s t.tok (t ∷ ts) ts

-- The name at which a file is over a limit.
use Rattle.std.specs.Prelude.{◌≡◌, ◌≤◌, ℕ, true, List, [], ◌∷◌, ◌++◌, length, All, Ok}
use Rattle.iso_lexer.specs.declared.limits.TheConstants.{MOST_ENTRIES, MOST_SESSIONS, MOST_STEPS}
use Rattle.iso_lexer.specs.declared.token.At.{At}
use Rattle.iso_lexer.specs.declared.spec_token.Keyword.{Keyword}
use Rattle.iso_lexer.specs.declared.spec_token.Keyword.TheVariants.{Permutation, Session, Step}
use Rattle.iso_lexer.specs.SpecTokens.{SpecToken}
use Rattle.iso_lexer.specs.SpecText.{Lexes}
use Rattle.spec_parser.specs.Trees.{NamedEntry}
use Rattle.spec_parser.specs.Counts.{start, past}
use Rattle.spec_parser.specs.Grammar.{is_keyword, is_name, Many, entry, perm}
use Rattle.spec_parser.specs.IsSpec.{IsShort}

abbrev pub IsWord : Keyword → At SpecToken → Type 0
IsWord k t = is_keyword k t.tok ≡ true

-- The tokens before a name make it that of the 65th session (64 words `session` stand before its own), of the 1,001st step,
-- or of the 1,001st entry of its permutation; none of them is over a limit already.
pub data IsOverAt (front : List (At SpecToken)) : Type 0 where
  at_session : (fs : List (At SpecToken)) (t : At SpecToken) → front ≡ fs ++ t ∷ [] → IsWord Session t → (past start fs).sessions ≡ MOST_SESSIONS → (past start fs).steps ≤ MOST_STEPS → IsOverAt front
  at_step : (fs : List (At SpecToken)) (t : At SpecToken) → front ≡ fs ++ t ∷ [] → IsWord Step t → (past start fs).sessions ≤ MOST_SESSIONS → (past start fs).steps ≡ MOST_STEPS → IsOverAt front
  -- fs, whole permutations, the word `permutation`, and 1,000 entries
  at_entry : (fs ps : List (At SpecToken)) (t : At SpecToken) (es : List (At SpecToken)) (perms : List (List NamedEntry)) (entries : List NamedEntry) → front ≡ fs ++ (ps ++ t ∷ es)
      → (past start fs).sessions ≤ MOST_SESSIONS → (past start fs).steps ≤ MOST_STEPS → Many perm (past start fs) ps perms → All IsShort perms
      → IsWord Permutation t → Many entry (past start (fs ++ (ps ++ t ∷ []))) es entries → length entries ≡ MOST_ENTRIES → IsOverAt front

-- these tokens, up to the rest, and then the name
pub record LimitStop (ts rest : List (At SpecToken)) : Type 0 where
  pub front : List (At SpecToken)
  pub name : At SpecToken
  pub back : List (At SpecToken)
  pub rest_is : rest ≡ name ∷ back
  pub split : ts ≡ front ++ rest
  pub is_name : is_name name.tok ≡ true
  pub over : IsOverAt front

-- a file in which the name at this byte is over a limit
pub record HasLimit (text : List ℕ) (at : ℕ) : Type 0 where
  pub tokens : List (At SpecToken)
  pub lexes : Lexes text (Ok tokens)
  pub rest : List (At SpecToken)
  pub stop : LimitStop tokens rest
  pub place : at ≡ stop.name.span.start

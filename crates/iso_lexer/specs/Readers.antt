-- To be believed. Reading from left to right, up to the first fault: words of reading, for spec files and for SQL.
use Rattle.std.specs.Prelude.{ℕ, List, [], ◌∷◌, Result, Ok}
use Rattle.iso_lexer.specs.declared.token.At.{At}
use Rattle.iso_lexer.specs.Results.{if_ok}

infixr 10 ◌>>=◌
-- what reads a value: of what is left to be read it answers the value and what is left behind it, or the first fault
abbrev pub ReaderOf : Type 0 → Type 0 → Type 0 → Type 0
ReaderOf S F A = S → Result (A × S) F

-- One reader, and behind it the one that its value chooses. A do block has a line for each; there (← r) is the value that r reads, behind those before it.
abbrev pub ◌>>=◌ : {S F A B : Type 0} → ReaderOf S F A → (A → ReaderOf S F B) → ReaderOf S F B
◌>>=◌ first next left = if_ok (first left) (λ x. next x.0 x.1)

-- this value, for which nothing is read
abbrev pub gives : {S F A : Type 0} → A → ReaderOf S F A
gives x left = Ok (x, left)

-- where the first of these tokens stands, in a text of this many bytes
abbrev pub place_of : {T : Type 0} → ℕ → List (At T) → ℕ
place_of last [] = last
place_of last (t ∷ ts) = t.span.start

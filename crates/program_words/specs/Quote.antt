-- The line of a file in which a byte stands, with a mark under that byte, as a terminal shows them.
use Rattle.std.specs.Prelude.{◌≡◌, ℕ, ◌+◌, Bool, nat_lt, nat_le, ◌==◌, ◌||◌, if◌then◌else◌, List, [], ◌∷◌, ◌++◌, take, drop, map, length, replicate, count_by, codes, decimal}
use Rattle.std.specs.List.{after_last, before_first}

abbrev pub is_newline : ℕ → Bool
is_newline b = b == 10

-- the line in which the byte stands, counted from 1
abbrev pub line_number : List ℕ → ℕ → ℕ
line_number file at = count_by is_newline (take at file) + 1

-- what stands in its line before it
abbrev pub line_before : List ℕ → ℕ → List ℕ
line_before file at = after_last is_newline (take at file)

-- what stands in its line from it on
abbrev pub line_from : List ℕ → ℕ → List ℕ
line_from file at = before_first is_newline (drop at file)

-- a control character, a tab among them, is shown as a blank
abbrev pub shown_byte : ℕ → ℕ
shown_byte b = if nat_lt b 32 || b == 127 then 32 else b

-- the first byte of a character in UTF-8
abbrev pub begins_character : ℕ → Bool
begins_character b = nat_lt b 128 || nat_le 192 b

-- the columns that a text takes, one for each character
abbrev pub columns : List ℕ → ℕ
columns text = count_by begins_character text

abbrev pub label_of : List ℕ → List ℕ
label_of number = codes "LINE " ++ number ++ codes ": "

abbrev pub label : ℕ → List ℕ
label number = label_of (decimal number)

-- a line with its label before it, and below it a mark under the byte that ends the line's first part
abbrev pub marked : List ℕ → List ℕ → List ℕ → List ℕ
marked label before after = label ++ map shown_byte before ++ map shown_byte after ++ codes "\n" ++ replicate (length label + columns before) 32 ++ codes "^\n"

-- a line of more than 200 bytes isn't quoted
abbrev pub quoted_line : List ℕ → ℕ → List ℕ
quoted_line file at = if nat_lt 200 (length (line_before file at) + length (line_from file at)) then [] else
    marked (label (line_number file at)) (line_before file at) (line_from file at)

-- what lines are quoted so, by examples
abbrev pub WorkedQuotes : Type 0
WorkedQuotes =
    (quoted_line (codes "session s\nstep a { SELCT 1; }\n") 19 ≡ codes "LINE 2: step a { SELCT 1; }\n                 ^\n")
    × (quoted_line (codes "\tstep a {") 8 ≡ codes "LINE 1:  step a {\n                ^\n")
    × (quoted_line (codes "session s\n") 10 ≡ codes "LINE 2: \n        ^\n")
    × (quoted_line (codes "a\nb") 1 ≡ codes "LINE 1: a\n         ^\n")
    × (quoted_line (195 ∷ 169 ∷ codes " x") 3 ≡ codes "LINE 1: " ++ 195 ∷ 169 ∷ codes " x\n          ^\n")
    × (quoted_line (replicate 201 120) 0 ≡ [])

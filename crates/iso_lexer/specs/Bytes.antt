-- To be believed. Classes of bytes, the prefixes that they make, and rows of spellings.
use Rattle.std.specs.Prelude.{ℕ, Bool, ◌||◌, ◌==◌, nat_le, List, drop, Option, option_map, find}
use Rattle.std.specs.List.{prefix_len, slice_split}
use Rattle.std.specs.Char.{is_ascii_digit, is_ascii_alphabetic}

-- space, tab, CR, FF and VT
abbrev pub is_blank : ℕ → Bool
is_blank b = b == 32 || b == 9 || b == 13 || b == 12 || b == 11

-- a letter, an underscore or part of a character past ASCII
abbrev pub is_name_start : ℕ → Bool
is_name_start b = is_ascii_alphabetic b || b == 95 || nat_le 128 b

abbrev pub is_name_byte : ℕ → Bool
is_name_byte b = is_name_start b || is_ascii_digit b || b == 36

-- what follows the longest prefix whose bytes all pass
abbrev pub drop_while : (ℕ → Bool) → List ℕ → List ℕ
drop_while p text = drop (prefix_len p text) text

-- the words of a line, between its spaces
abbrev pub words_of : List ℕ → List (List ℕ)
words_of line = slice_split (λ c. c == 32) line

-- what stands beside the first key that passes for this thing
abbrev pub row_of : {K T A : Type 0} → (K → T → Bool) → List (K × A) → T → Option A
row_of passes rows thing = option_map (λ row. row.1) (find (λ row. passes row.0 thing) rows)

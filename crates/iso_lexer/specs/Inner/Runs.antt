-- Runs of bytes as the code tells them: the longest run of a kind at the front of a text; and rows of spellings.
use Rattle.std.specs.Prelude.{ℕ, Bool, ◌||◌, ◌==◌, not, List, length, take, ◌-◌, take_while, Option, bytes_eq}
use Rattle.std.specs.List.{suffix_len}
use Rattle.std.specs.Char.{is_ascii_digit}
use Rattle.iso_lexer.specs.declared.runs.Run.{Run}
use Rattle.iso_lexer.specs.declared.runs.Run.TheVariants.{Blanks, Comment, Word, Digits}
use Rattle.iso_lexer.specs.Bytes.{is_blank, is_name_byte, drop_while, row_of}

-- the bytes that a run of this kind has: a comment goes on up to LF or CR
abbrev pub passes : Run → ℕ → Bool
passes Blanks b = is_blank b
passes Comment b = not (b == 10 || b == 13)
passes Word b = is_name_byte b
passes Digits b = is_ascii_digit b

-- the longest run at the front, and what follows it
abbrev pub run_of : Run → List ℕ → List ℕ
run_of run text = take_while (passes run) text

abbrev pub after_run : Run → List ℕ → List ℕ
after_run run text = drop_while (passes run) text

-- without the blanks at both ends
abbrev pub trimmed : List ℕ → List ℕ
trimmed text = let rest = after_run Blanks text in take (length rest - suffix_len is_blank rest) rest

-- what stands beside these bytes
abbrev pub spelled : {A : Type 0} → List (List ℕ × A) → List ℕ → Option A
spelled rows text = row_of (λ key bytes. bytes_eq bytes key) rows text

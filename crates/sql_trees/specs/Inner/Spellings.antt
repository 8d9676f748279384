-- Words as the code finds them in its table.
use Rattle.std.specs.Prelude.{ℕ, List, unwrap_or}
use Rattle.std.specs.Str.{str_eq_ignore_ascii_case}
use Rattle.iso_lexer.specs.Bytes.{row_of}
use Rattle.sql_trees.specs.declared.word.Word.{Word}
use Rattle.sql_trees.specs.declared.word.Word.TheVariants as words

-- the first word of a table that is spelled so, in any case of its letters
abbrev pub first_spelled : List (List ℕ × Word) → List ℕ → Word
first_spelled rows text = unwrap_or (row_of str_eq_ignore_ascii_case rows text) words.Plain

-- To be believed. The text of a table, in the manner of libpq's PQprint with the separator `|`.
use Rattle.std.specs.Prelude.{ℕ, ◌-◌, ◌==◌, ◌&&◌, not, List, [], ◌∷◌, ◌++◌, length, map, fold, max, replicate, decimal, codes, flat_map, nat_lt, if◌then◌else◌}
use Rattle.std.specs.List.{list_any, zip, range_with_len, slice_index_or, join_with_byte}
use Rattle.query_results.specs.Results.{Results}
use Rattle.result_tables.specs.declared.column.ColumnLayout.{ColumnLayout}
use Rattle.result_tables.specs.Numeric.{is_numeric}
use Rattle.result_tables.specs.Printed.{printed}
use Rattle.result_tables.specs.Titles.{title_text}

-- a column is as wide as the longest of its title and its values; it is aligned to the left where some value is a word: some text, and not a number
abbrev pub layout_of : List ℕ → List (List ℕ) → ColumnLayout
layout_of title values = record { width = fold max 0 (map length (title ∷ values)); left = list_any (λ text. nat_lt 0 (length text) && not (is_numeric text)) values }

-- a cell, filled up with blanks to the column's width
abbrev pub padded : ColumnLayout → List ℕ → List ℕ
padded c text = let blanks = replicate (c.width - length text) 32 in if c.left then text ++ blanks else blanks ++ text

-- each text in its column, with `|` between them
abbrev pub table_line : List ColumnLayout → List (List ℕ) → List ℕ
table_line columns texts = join_with_byte 124 (map (λ p. padded p.0 p.1) (zip columns texts)) ++ 10 ∷ []

-- the rule below the titles: `-` as wide as each column, with `+` between them
abbrev pub rule_line : List ColumnLayout → List ℕ
rule_line columns = join_with_byte 43 (map (λ c. replicate c.width 45) columns) ++ 10 ∷ []

-- the number of rows, and an empty line
abbrev pub foot : ℕ → List ℕ
foot n = codes "(" ++ decimal n ++ (if n == 1 then codes " row)\n\n" else codes " rows)\n\n")

-- the table of a result: the titles, the rule, the printed values row by row, and how many rows there are
abbrev pub table_text : Results → List ℕ
table_text set =
    let titles = map title_text set.titles in
    let rows = map (map printed) set.rows in
    let columns = map (λ k. layout_of (slice_index_or titles k []) (map (λ row. slice_index_or row k []) rows)) (range_with_len 0 (length titles)) in
    table_line columns titles ++ rule_line columns ++ flat_map (table_line columns) rows ++ foot (length rows)

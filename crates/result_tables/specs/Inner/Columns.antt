-- What a column of a table is measured by.
use Rattle.std.specs.Prelude.{ℕ, ◌&&◌, Bool, not, List, [], length, map, nat_lt}
use Rattle.std.specs.List.{slice_index_or}
use Rattle.result_tables.specs.Numeric.{is_numeric}

-- some text, and not a number
abbrev pub is_textual : List ℕ → Bool
is_textual text = nat_lt 0 (length text) && not (is_numeric text)

-- the printed values of a column, from the top
abbrev pub cells : List (List (List ℕ)) → ℕ → List (List ℕ)
cells rows k = map (λ row. slice_index_or row k []) rows

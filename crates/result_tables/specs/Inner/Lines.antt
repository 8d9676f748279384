-- What joins the pieces of a line, and the layouts of all columns.
use Rattle.std.specs.Prelude.{ℕ, zero, suc, List, [], ◌∷◌, length, map}
use Rattle.std.specs.List.{range_with_len, slice_index_or}
use Rattle.result_tables.specs.declared.column.ColumnLayout.{ColumnLayout}
use Rattle.result_tables.specs.TableText.{layout_of}

-- what stands in front of a piece: nothing in front of the first one
abbrev pub separator : ℕ → ℕ → List ℕ
separator c zero = []
separator c (suc k) = c ∷ []

-- a column for each title, with what the rows have at its place
abbrev pub layouts_of : List (List ℕ) → List (List (List ℕ)) → List ColumnLayout
layouts_of titles rows = map (λ k. layout_of (slice_index_or titles k []) (map (λ row. slice_index_or row k []) rows)) (range_with_len 0 (length titles))

-- To be believed. The rows of a table as a view shows them (PostgreSQL manual, 13.2).
use Rattle.std.specs.Prelude.{ℕ, List, [], map, unwrap_or}
use Rattle.sql_values.specs.declared.value.Value.{Value}
use Rattle.row_versions.specs.declared.write.View.{View}
use Rattle.row_versions.specs.declared.write.Seen.{Seen}
use Rattle.row_versions.specs.Log.{Content, values_at}
use Rattle.row_versions.specs.Rows.{rows_of}

-- the values of the rows that a view shows of the table
abbrev pub rows_shown : Content → View → ℕ → List (List Value)
rows_shown c view k = map (λ (s : Seen). unwrap_or (values_at c s.place) []) (rows_of c view (record { 0 = k }))

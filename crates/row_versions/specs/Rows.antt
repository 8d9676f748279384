-- To be believed. The rows of a table in a view.
use Rattle.std.specs.Prelude.{ℕ, ◌+◌, ◌==◌, Bool, not, ◌&&◌, List, map, filter, drop, is_some}
use Rattle.std.specs.List.{list_any, enumerate_from}
use Rattle.row_versions.specs.declared.names.TableId.{TableId}
use Rattle.row_versions.specs.declared.write.Write.{Write}
use Rattle.row_versions.specs.declared.write.View.{View}
use Rattle.row_versions.specs.declared.write.Seen.{Seen}
use Rattle.row_versions.specs.Log.{Content}
use Rattle.row_versions.specs.View.{sees}

-- the view shows the write at the place as a row of the table: it sees the write, the row is not gone, and of the later writes it sees none of the same row
abbrev pub is_shown : Content → View → TableId → ℕ → Write → Bool
is_shown c view table place w =
    (w.table.0 == table.0) && is_some w.values && sees c.fates view w
    && not (list_any (λ later. (later.row.0 == w.row.0) && sees c.fates view later) (drop (place + 1) c.log))

-- the rows of the table in the view, in the order of the log
abbrev pub rows_of : Content → View → TableId → List Seen
rows_of c view table =
    map (λ (e : ℕ × Write). record { row = e.1.row; place = e.0 }) (filter (λ e. is_shown c view table e.0 e.1) (enumerate_from 0 c.log))

-- the version at the place is one of the rows of the table in the view
abbrev pub is_row : Content → View → TableId → ℕ → Bool
is_row c view table place = list_any (λ (s : Seen). s.place == place) (rows_of c view table)

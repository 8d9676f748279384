-- What a view sees, its rows, and the newest version of a row, write by write.
use Rattle.std.specs.Prelude.{ℕ, ◌+◌, ◌==◌, nat_lt, Bool, false, not, ◌&&◌, ◌||◌, List, [], ◌∷◌, Option, Some, None, is_some, drop, slice_get, if◌then◌else◌}
use Rattle.std.specs.List.{list_any}
use Rattle.std.specs.Option.{option_map_or, option_or}
use Rattle.row_versions.specs.declared.names.TxId.{TxId}
use Rattle.row_versions.specs.declared.names.RowId.{RowId}
use Rattle.row_versions.specs.declared.names.TableId.{TableId}
use Rattle.row_versions.specs.declared.write.Write.{Write}
use Rattle.row_versions.specs.declared.write.View.{View}
use Rattle.row_versions.specs.declared.write.Seen.{Seen}
use Rattle.row_versions.specs.declared.write.Fate.{Fate}
use Rattle.row_versions.specs.Members.{same_tx}
use Rattle.row_versions.specs.Log.{fate_of, is_commit}
use Rattle.row_versions.specs.View.{sees}

-- the fate, if there is one, is a commit
abbrev pub is_committed : Option Fate → Bool
is_committed fate = option_map_or is_commit fate false

-- the view's own transaction made the write, in an earlier command
abbrev pub own_before : Option TxId → ℕ → Write → Bool
own_before own command w = option_map_or (λ tx. same_tx w.tx tx && nat_lt w.command command) own false

-- it is a write of the row that the view sees
abbrev pub replaces : List Fate → View → RowId → Write → Bool
replaces fates view row w = (w.row.0 == row.0) && sees fates view w

-- the view shows the write as a row of the table, where these are the later writes
abbrev pub shows : List Fate → View → TableId → Write → List Write → Bool
shows fates view table w later =
    ((w.table.0 == table.0) && is_some w.values) && (sees fates view w && not (list_any (replaces fates view w.row) later))

-- the rows that the view shows of the part of the log that begins at the place
abbrev pub rows_from : List Fate → View → TableId → ℕ → List Write → List Seen
rows_from fates view table place [] = []
rows_from fates view table place (w ∷ later) =
    if shows fates view table w later
    then record { row = w.row; place = place } ∷ rows_from fates view table (place + 1) later
    else rows_from fates view table (place + 1) later

-- the view shows the write at the place of the log, if there is one, as a row of the table
abbrev pub shows_at : List Fate → View → TableId → List Write → ℕ → Bool
shows_at fates view table log place = option_map_or (λ w. shows fates view table w (drop (place + 1) log)) (slice_get log place) false

-- it is a write of the row that is committed or by the transaction
abbrev pub is_version : List Fate → RowId → TxId → Write → Bool
is_version fates row tx w = (w.row.0 == row.0) && (is_committed (fate_of fates w.tx) || same_tx w.tx tx)

-- the last version in the part of the log that begins at the place
abbrev pub newest_from : List Fate → RowId → TxId → ℕ → List Write → Option Seen
newest_from fates row tx place [] = None
newest_from fates row tx place (w ∷ later) =
    option_or (newest_from fates row tx (place + 1) later) (if is_version fates row tx w then Some (record { row = row; place = place }) else None)

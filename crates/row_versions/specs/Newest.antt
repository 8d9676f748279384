-- To be believed. The newest version of a row for a transaction.
use Rattle.std.specs.Prelude.{ℕ, ◌==◌, ◌&&◌, ◌||◌, Option, find, option_map, reverse}
use Rattle.std.specs.List.{enumerate_from}
use Rattle.row_versions.specs.declared.names.TxId.{TxId}
use Rattle.row_versions.specs.declared.names.RowId.{RowId}
use Rattle.row_versions.specs.declared.write.Write.{Write}
use Rattle.row_versions.specs.declared.write.Seen.{Seen}
use Rattle.row_versions.specs.Members.{same_tx}
use Rattle.row_versions.specs.Log.{Content, has_committed}

-- of the writes of the row in the log the last one that is committed or by the transaction
abbrev pub newest_of : Content → RowId → TxId → Option Seen
newest_of c row tx = option_map (λ (e : ℕ × Write). record { row = row; place = e.0 })
    (find (λ e. (e.1.row.0 == row.0) && (has_committed c e.1.tx || same_tx e.1.tx tx)) (reverse (enumerate_from 0 c.log)))

-- What an index of keys notes of the writes of the log.
use Rattle.std.specs.Prelude.{◌≡◌, Bool, false, not, ◌||◌, List, map, filter}
use Rattle.std.specs.Option.{option_map_or}
use Rattle.row_versions.specs.declared.names.TxId.{TxId}
use Rattle.row_versions.specs.declared.write.Write.{Write}
use Rattle.row_versions.specs.declared.write.Fate.{Fate}
use Rattle.row_versions.specs.Log.{Content, fate_of, is_commit, is_open}
use Rattle.unique_keys.specs.declared.noted.Noted.{Noted}
use Rattle.row_versions.specs.Members.{same_tx}

-- a write without the number of its command
abbrev pub noted_of : Write → Noted
noted_of w = record { table = w.table; row = w.row; tx = w.tx; values = w.values }

-- all writes, in the order made
abbrev pub writes : Content → List Noted
writes c = map noted_of c.log

-- the write's transaction is open or has committed: it wasn't rolled back
abbrev pub stands : List Fate → Noted → Bool
stands fates w = is_open fates w.tx || option_map_or is_commit (fate_of fates w.tx) false

-- the index is up to date: it has noted every write, and forgotten every transaction that was rolled back
abbrev pub IsUpToDate : List Noted → Content → Type 0
IsUpToDate index c = index ≡ filter (stands c.fates) (writes c)

-- what is left without the transaction's writes
abbrev pub notes_without : TxId → List Noted → List Noted
notes_without tx index = filter (λ w. not (same_tx w.tx tx)) index

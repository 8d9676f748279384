-- Who stands in the way of a key, and which row has it, as the code finds it. What has committed and what is open is asked of two tests, so that the same is said of
-- the log and of what is noted of it.
use Rattle.std.specs.Prelude.{ℕ, ◌==◌, Bool, true, false, not, ◌&&◌, ◌||◌, List, Option, Some, map, filter, find, option_map, reverse, slice_get}
use Rattle.std.specs.List.{list_all, list_any}
use Rattle.std.specs.Ordering.{is_eq}
use Rattle.std.specs.Option.{option_map_or}
use Rattle.sql_values.specs.declared.value.Value.{Value}
use Rattle.sql_values.specs.Values.{compare}
use Rattle.row_versions.specs.declared.names.TxId.{TxId}
use Rattle.row_versions.specs.declared.names.RowId.{RowId}
use Rattle.row_versions.specs.declared.names.TableId.{TableId}
use Rattle.unique_keys.specs.declared.noted.Noted.{Noted}
use Rattle.row_versions.specs.Members.{same_tx}
use Rattle.unique_keys.specs.Keys.{has_key}

-- the two values are there, and equal
abbrev pub are_equal : Option Value → Option Value → Bool
are_equal (Some a) (Some b) = option_map_or is_eq (compare a b) false
are_equal a b = false

-- the rows are equal in all columns of the key
abbrev pub agree : List ℕ → List Value → List Value → Bool
agree columns asked values = list_all (λ column. are_equal (slice_get asked column) (slice_get values column)) columns

-- the last of the writes that passes the test
abbrev pub last_of : (Noted → Bool) → List Noted → Option Noted
last_of p ws = find p (reverse ws)

-- some version is there, and it has the key
abbrev pub version_has : List ℕ → List Value → Option Noted → Bool
version_has columns asked version = option_map_or (λ (w : Noted). has_key columns asked w.values) version false

-- it is a committed write of the row
abbrev pub is_committed_version : (TxId → Bool) → RowId → Noted → Bool
is_committed_version committed row w = (w.row.0 == row.0) && committed w.tx

-- the row's newest committed version has the key
abbrev pub committed_has : (TxId → Bool) → List Noted → List ℕ → List Value → RowId → Bool
committed_has committed ws columns asked row = version_has columns asked (last_of (is_committed_version committed row) ws)

-- some version of the row by the transaction has the key
abbrev pub own_has : List Noted → List ℕ → List Value → RowId → TxId → Bool
own_has ws columns asked row u = list_any (λ v. ((v.row.0 == row.0) && same_tx v.tx u) && has_key columns asked v.values) ws

-- it is another open transaction's write of a row of the table whose newest committed version, or any version by that transaction, has the key
abbrev pub is_in_way : (TxId → Bool) → (TxId → Bool) → List Noted → TableId → List ℕ → List Value → TxId → Noted → Bool
is_in_way committed active ws table columns asked tx w =
    ((w.table.0 == table.0) && (not (same_tx w.tx tx) && active w.tx))
    && (committed_has committed ws columns asked w.row || own_has ws columns asked w.row w.tx)

-- those transactions
abbrev pub blockers_among : (TxId → Bool) → (TxId → Bool) → List Noted → TableId → TxId → List Value → List ℕ → List TxId
blockers_among committed active ws table tx asked columns = map (λ w. w.tx) (filter (is_in_way committed active ws table columns asked tx) ws)

-- the transaction wrote the row in the table
abbrev pub wrote : List Noted → TableId → RowId → TxId → Bool
wrote ws table row u = list_any (λ w. ((w.row.0 == row.0) && same_tx w.tx u) && (w.table.0 == table.0)) ws

-- while it is open, the transaction holds the key by what it wrote of the row
abbrev pub holds_by_row : (TxId → Bool) → List Noted → TableId → List ℕ → List Value → TxId → RowId → Bool
holds_by_row committed ws table columns asked u row = wrote ws table row u && (committed_has committed ws columns asked row || own_has ws columns asked row u)

-- by what it wrote of any row
abbrev pub holds : (TxId → Bool) → List Noted → TableId → List ℕ → List Value → TxId → Bool
holds committed ws table columns asked u = list_any (λ w. ((w.table.0 == table.0) && same_tx w.tx u) && (committed_has committed ws columns asked w.row || own_has ws columns asked w.row u)) ws

-- while it is open, it stands in the way of the one that asks
abbrev pub is_blocker : (TxId → Bool) → List Noted → TableId → List ℕ → List Value → TxId → TxId → Bool
is_blocker committed ws table columns asked tx u = not (same_tx u tx) && holds committed ws table columns asked u

-- the write counts for the transaction: it is committed, or its own
abbrev pub counts_for : (TxId → Bool) → TxId → Noted → Bool
counts_for committed tx w = committed w.tx || same_tx w.tx tx

-- it is a version of the row for the transaction
abbrev pub is_version_for : (TxId → Bool) → RowId → TxId → Noted → Bool
is_version_for committed row tx w = (w.row.0 == row.0) && counts_for committed tx w

-- the row's newest version for the transaction has the key
abbrev pub newest_has : (TxId → Bool) → List Noted → List ℕ → List Value → RowId → TxId → Bool
newest_has committed ws columns asked row tx = version_has columns asked (last_of (is_version_for committed row tx) ws)

-- the write counts: it is committed, or that transaction's own
abbrev pub counts_by : (TxId → Bool) → Option TxId → Noted → Bool
counts_by committed own w = committed w.tx || option_map_or (λ tx. same_tx w.tx tx) own false

-- it is a version of the row that counts
abbrev pub is_version_by : (TxId → Bool) → Option TxId → RowId → Noted → Bool
is_version_by committed own row w = (w.row.0 == row.0) && counts_by committed own w

-- the row isn't the one that is left aside
abbrev pub is_another : Option RowId → RowId → Bool
is_another except row = option_map_or (λ (other : RowId). not (row.0 == other.0)) except true

-- the write gave the key to another row of the table, whose newest version for the transaction has it
abbrev pub takes : (TxId → Bool) → List Noted → TableId → TxId → Option RowId → List Value → List ℕ → Noted → Bool
takes committed ws table tx except asked columns w =
    ((w.table.0 == table.0) && (is_another except w.row && (counts_for committed tx w && has_key columns asked w.values))) && newest_has committed ws columns asked w.row tx

abbrev pub row_noted : Option Noted → Option RowId
row_noted o = option_map (λ (w : Noted). w.row) o

-- the row that was first given the key, of those that have it
abbrev pub taker_among : (TxId → Bool) → List Noted → TableId → TxId → Option RowId → List Value → List ℕ → Option RowId
taker_among committed ws table tx except asked columns = row_noted (find (takes committed ws table tx except asked columns) ws)

-- the write counts, and gave the key to the row of the table
abbrev pub gives : (TxId → Bool) → TableId → TxId → List Value → List ℕ → RowId → Noted → Bool
gives committed table tx asked columns row w = (w.row.0 == row.0) && ((w.table.0 == table.0) && (counts_for committed tx w && has_key columns asked w.values))

-- it is a write of the row that takes the key
abbrev pub takes_by_row : (TxId → Bool) → List Noted → TableId → TxId → Option RowId → List Value → List ℕ → RowId → Noted → Bool
takes_by_row committed ws table tx except asked columns row w = (w.row.0 == row.0) && takes committed ws table tx except asked columns w

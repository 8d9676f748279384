-- To be believed. Held, taken, free: what PostgreSQL does where a row's keys are checked (13.2.1 on what others have not committed, 5.5.3 on unique constraints).
use Rattle.std.specs.Prelude.{◌≡◌, ◌≢◌, ℕ, ◌<◌, ◌==◌, Bool, true, not, ◌&&◌, ◌||◌}
use Rattle.std.specs.Prelude.{List, [], ◌∷◌, length, map, filter, find, reverse, Option, Some, None, option_and_then}
use Rattle.std.specs.List.{list_any}
use Rattle.std.specs.Option.{option_map_or}
use Rattle.sql_values.specs.declared.value.Value.{Value}
use Rattle.row_versions.specs.declared.names.TxId.{TxId}
use Rattle.row_versions.specs.declared.names.RowId.{RowId}
use Rattle.row_versions.specs.declared.names.TableId.{TableId}
use Rattle.row_versions.specs.Members.{same_tx}
use Rattle.row_versions.specs.declared.write.Seen.{Seen}
use Rattle.row_versions.specs.declared.write.Write.{Write}
use Rattle.row_versions.specs.Log.{Content, fate_of, is_open_fate, has_committed, values_at}
use Rattle.row_versions.specs.Newest.{newest_of}
use Rattle.unique_keys.specs.declared.keys.Check.{Check}
use Rattle.unique_keys.specs.declared.keys.Check.TheVariants.{Free, Taken, Held}
use Rattle.unique_keys.specs.declared.key_index.Found.{Found}
use Rattle.unique_keys.specs.declared.key_index.Found.TheVariants as found
use Rattle.unique_keys.specs.Members.{EachOnce}
use Rattle.unique_keys.specs.Keys.{Keys, columns_of_key, has_key}

-- what the row's newest committed version gave it
abbrev pub committed_values : Content → RowId → Option (List Value)
committed_values c row = option_and_then (λ w. w.values) (find (λ w. (w.row.0 == row.0) && has_committed c w.tx) (reverse c.log))

-- the blockers of a key request: the other open transactions that wrote a row of the table whose newest committed version, or any version by that transaction, has the key
abbrev pub key_blockers : Content → TableId → TxId → List Value → List ℕ → List TxId
key_blockers c table tx asked columns = map (λ w. w.tx) (filter (λ w. (w.table.0 == table.0) && not (same_tx w.tx tx) && is_open_fate (fate_of c.fates w.tx)
    && (has_key columns asked (committed_values c w.row) || list_any (λ v. (v.row.0 == w.row.0) && same_tx v.tx w.tx && has_key columns asked v.values) c.log)) c.log)

-- the write takes the key: the transaction's own or a committed one, it gave the key to another row of the table than the one that is left aside, and that row's newest
-- version for the transaction has it
abbrev pub takes_key : Content → TableId → TxId → Option RowId → List Value → List ℕ → Write → Bool
takes_key c table tx except asked columns w = (w.table.0 == table.0) && option_map_or (λ (other : RowId). not (w.row.0 == other.0)) except true
    && (has_committed c w.tx || same_tx w.tx tx) && has_key columns asked w.values
    && has_key columns asked (option_and_then (λ (s : Seen). values_at c s.place) (newest_of c w.row tx))

-- the version that has the key, if it is taken: the newest one, for the transaction, of the row that was first given it
abbrev pub taken_by : Content → TableId → TxId → Option RowId → List Value → List ℕ → Option Seen
taken_by c table tx except asked columns = option_and_then (λ (w : Write). newest_of c w.row tx) (find (takes_key c table tx except asked columns) c.log)

-- what is found of one key
pub data KeyFound : Type 0 where
  KeyIsFree : KeyFound
  KeyIsTaken : Seen → KeyFound
  KeyIsHeld : KeyFound

-- what is found by who blocks a key, and by the version that has it
abbrev pub found_by : List TxId → Option Seen → KeyFound
found_by [] None = KeyIsFree
found_by [] (Some version) = KeyIsTaken version
found_by (u ∷ others) taken = KeyIsHeld

-- a key is held where it has blockers; else it is taken where another row has it; else it is free
abbrev pub key_found : Content → TableId → TxId → Option RowId → List Value → List ℕ → KeyFound
key_found c table tx except asked columns = found_by (key_blockers c table tx asked columns) (taken_by c table tx except asked columns)

-- the answer, without who blocks
abbrev pub found_of : Found → KeyFound
found_of found.Free = KeyIsFree
found_of (found.Taken version) = KeyIsTaken version
found_of (found.Held who) = KeyIsHeld

-- where the answer is that the key is held, it names the blockers, each once
abbrev pub NamesBlockers : List TxId → Found → Type 0
NamesBlockers by found.Free = Unit {0}
NamesBlockers by (found.Taken version) = Unit {0}
NamesBlockers by (found.Held who) = EachOnce by who.items

-- a key is free where nobody blocks it and no other row has it
abbrev pub IsFree : (List ℕ → List TxId) → (List ℕ → Option Seen) → List ℕ → Type 0
IsFree by taken columns = (by columns ≡ []) × (taken columns ≡ None)

-- all keys before that number are free
abbrev pub FreeBefore : (List ℕ → List TxId) → (List ℕ → Option Seen) → Keys → ℕ → Type 0
FreeBefore by taken t n = (key : ℕ) → key < n → IsFree by taken (columns_of_key t key)

-- what is found of one key: it is held where it has blockers, and else taken where another row has it
abbrev pub FindsKey : (List ℕ → List TxId) → (List ℕ → Option Seen) → List ℕ → Found → Type 0
FindsKey by taken columns found.Free = IsFree by taken columns
FindsKey by taken columns (found.Taken version) = (by columns ≡ []) × (taken columns ≡ Some version)
FindsKey by taken columns (found.Held who) = (by columns ≢ []) × EachOnce (by columns) who.items

-- what is found of the keys: the first one in declared order that isn't free decides
abbrev pub Finds : (List ℕ → List TxId) → (List ℕ → Option Seen) → Keys → Check → Type 0
Finds by taken t Free = FreeBefore by taken t (length t.keys)
Finds by taken t (Taken key version) = (key < length t.keys) × FreeBefore by taken t key × FindsKey by taken (columns_of_key t key) (found.Taken version)
Finds by taken t (Held key who) = (key < length t.keys) × FreeBefore by taken t key × FindsKey by taken (columns_of_key t key) (found.Held who)

-- what is found of the keys of a row that the transaction is about to write, in place of the row that is left aside or as a new one
abbrev pub FindsKeys : Content → Keys → List Value → TxId → Option RowId → Check → Type 0
FindsKeys c t asked tx except check = Finds (key_blockers c t.table tx asked) (taken_by c t.table tx except asked) t check

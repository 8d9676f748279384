-- To be believed. The log of all writes, and the fates of transactions.
use Rattle.std.specs.Prelude.{◌≡◌, ℕ, Bool, true, false, List, [], ◌∷◌, ◌++◌, length, Option, Some, slice_get, slice_set, count_by, option_and_then, map, filter}
use Rattle.std.specs.List.{enumerate_from}
use Rattle.std.specs.Option.{option_map_or}
use Rattle.sql_values.specs.declared.value.Value.{Value}
use Rattle.row_versions.specs.declared.names.TxId.{TxId}
use Rattle.row_versions.specs.declared.names.RowId.{RowId}
use Rattle.row_versions.specs.declared.write.Write.{Write}
use Rattle.row_versions.specs.declared.write.Fate.{Fate}
use Rattle.row_versions.specs.declared.write.Fate.TheVariants.{Open, RolledBack, Committed}

-- all writes in the order made, and what has become of each transaction that has begun
pub record Content : Type 0 where
  pub log : List Write
  pub fates : List Fate

-- no transaction has begun, and nothing was written
abbrev pub empty_content : Content
empty_content = record { log = []; fates = [] }

-- the transaction's fate, if it has begun
abbrev pub fate_of : List Fate → TxId → Option Fate
fate_of fates tx = slice_get fates tx.0

-- the transaction has begun and has not ended
abbrev pub IsOpen : Content → TxId → Type 0
IsOpen c tx = fate_of c.fates tx ≡ Some Open

-- it is the fate of a transaction that has begun and has not ended
abbrev pub is_open_fate : Option Fate → Bool
is_open_fate fate = elim fate [ Some Open ↦ true | other ↦ false ]

-- the transaction has begun and has not ended, as a test
abbrev pub is_open : List Fate → TxId → Bool
is_open fates tx = is_open_fate (fate_of fates tx)

-- the transactions that have begun and have not ended, in the order in which they began
abbrev pub open_in : List Fate → List TxId
open_in fates = map (λ (e : ℕ × Fate). record { 0 = e.0 }) (filter (λ e. is_open_fate (Some e.1)) (enumerate_from 0 fates))

-- it is the fate of a transaction that has committed
abbrev pub is_commit : Fate → Bool
is_commit fate = elim fate [ Committed k ↦ true | other ↦ false ]

-- the transaction has committed
abbrev pub has_committed : Content → TxId → Bool
has_committed c tx = option_map_or is_commit (fate_of c.fates tx) false

-- how many transactions have committed
abbrev pub commit_count : Content → ℕ
commit_count c = count_by is_commit c.fates

-- the transaction that begins next
abbrev pub next_tx : Content → TxId
next_tx c = record { 0 = length c.fates }

-- the row that is made next: a row is named by the place in the log of its first write
abbrev pub new_row : Content → RowId
new_row c = record { 0 = length c.log }

-- what a begin leaves: the next transaction is open
abbrev pub after_begin : Content → Content
after_begin c = record c { fates = c.fates ++ Open ∷ [] }

-- what a commit leaves: commits are numbered from 0
abbrev pub after_commit : Content → TxId → Content
after_commit c tx = record c { fates = slice_set c.fates tx.0 (Committed (commit_count c)) }

-- what a roll-back leaves: the transaction's writes stay in the log
abbrev pub after_roll_back : Content → TxId → Content
after_roll_back c tx = record c { fates = slice_set c.fates tx.0 RolledBack }

-- what either of them leaves, as an end with that fate
abbrev pub after_end : Content → TxId → Fate → Content
after_end c tx fate = record c { fates = slice_set c.fates tx.0 fate }

-- what a write leaves: it is the last of the log
abbrev pub after_write : Content → Write → Content
after_write c w = record c { log = c.log ++ w ∷ [] }

-- what the write at the place gave its row: nothing where it deletes the row, or where there is no such write
abbrev pub values_at : Content → ℕ → Option (List Value)
values_at c place = option_and_then (λ w. w.values) (slice_get c.log place)

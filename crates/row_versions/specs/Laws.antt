-- What follows from the definitions, in the words of transactions and rows. Each law stands on the contract of a function of `laws`.
use Rattle.std.specs.Prelude.{◌≡◌, ◌≢◌, ◌↔◌, ◌⊎◌, ℕ, ◌+◌, ◌<◌, ◌≤◌, false, length, AllPairs, Contains, List, IsTrue, IsSome, Some, None, slice_get}
use Rattle.row_versions.specs.declared.names.TxId.{TxId}
use Rattle.row_versions.specs.declared.names.RowId.{RowId}
use Rattle.row_versions.specs.declared.names.TableId.{TableId}
use Rattle.row_versions.specs.declared.write.Write.{Write}
use Rattle.row_versions.specs.declared.write.View.{View}
use Rattle.row_versions.specs.declared.write.Seen.{Seen}
use Rattle.row_versions.specs.declared.write.Fate.{Fate}
use Rattle.row_versions.specs.declared.write.Fate.TheVariants.{RolledBack, Committed}
use Rattle.row_versions.specs.Log.{Content, IsOpen, fate_of, has_committed, commit_count, open_in, is_open, new_row, after_begin, after_commit, after_roll_back, after_write}
use Rattle.row_versions.specs.Members.{has, is_distinct}
use Rattle.row_versions.specs.View.{sees}
use Rattle.row_versions.specs.Rows.{rows_of}
use Rattle.row_versions.specs.Newest.{newest_of}

-- the write stands at that place of the log
abbrev pub IsAt : Content → ℕ → Write → Type 0
IsAt c place w = slice_get c.log place ≡ Some w

-- a view sees a write exactly where its transaction committed before the view, or is the view's own and made it in an earlier command
abbrev pub ViewSeesCommittedAndOwn : Type 0
ViewSeesCommittedAndOwn = (c : Content) (view : View) (w : Write) → IsTrue (sees c.fates view w)
    ↔ (((k : ℕ) × (fate_of c.fates w.tx ≡ Some (Committed k)) × (k < view.commits))
    ⊎ ((view.tx ≡ Some w.tx) × (w.command < view.command)))

-- the version is one that the view shows in the table: it sees the write, which gave the row values, and it sees no later write of the row
pub record IsShown (c : Content) (view : View) (table : TableId) (seen : Seen) : Type 0 where
  pub write : Write
  pub there : IsAt c seen.place write
  pub its_row : write.row ≡ seen.row
  pub its_table : write.table ≡ table
  pub has_values : IsSome write.values
  pub is_seen : IsTrue (sees c.fates view write)
  pub last : (later : ℕ) (w : Write) → seen.place < later → IsAt c later w → w.row ≡ seen.row → sees c.fates view w ≡ false

-- the rows of a table in a view are the versions that it shows
abbrev pub RowsAreTheShown : Type 0
RowsAreTheShown = (c : Content) (view : View) (table : TableId) (seen : Seen)
    → Contains (rows_of c view table) seen ↔ IsShown c view table seen

-- they come in the order of the log
abbrev pub RowsFollowTheLog : Type 0
RowsFollowTheLog = (c : Content) (view : View) (table : TableId) → AllPairs (λ a b. a.place < b.place) (rows_of c view table)

-- no row comes twice
abbrev pub EachRowOnce : Type 0
EachRowOnce = (c : Content) (view : View) (table : TableId) → AllPairs (λ a b. a.row ≢ b.row) (rows_of c view table)

-- what a view shows is the same after a write of another transaction that is open
abbrev pub OpenWritesOfOthersUnseen : Type 0
OpenWritesOfOthersUnseen = (c : Content) (view : View) (table : TableId) (w : Write) → IsOpen c w.tx → view.tx ≢ Some w.tx
    → rows_of (after_write c w) view table ≡ rows_of c view table

-- the place in the log of the write that is made next
abbrev pub next_place : Content → ℕ
next_place c = length c.log

-- after its own write of an earlier command a view shows that version of the row, and no other version of it
pub record ShowsOwnWrite (c : Content) (view : View) (w : Write) : Type 0 where
  pub shown : IsSome w.values → Contains (rows_of (after_write c w) view w.table) (record { row = w.row; place = next_place c })
  pub alone : (table : TableId) (seen : Seen) → Contains (rows_of (after_write c w) view table) seen → seen.row ≡ w.row
      → (seen.place ≡ next_place c) × IsSome w.values

abbrev pub OwnWritesSeen : Type 0
OwnWritesSeen = (c : Content) (view : View) (w : Write) → view.tx ≡ Some w.tx → w.command < view.command → ShowsOwnWrite c view w

-- a view, but for its own transaction, shows no write that was rolled back
abbrev pub RolledBackWritesUnseen : Type 0
RolledBackWritesUnseen = (c : Content) (view : View) (table : TableId) (seen : Seen) (w : Write) → Contains (rows_of c view table) seen
    → IsAt c seen.place w → view.tx ≢ Some w.tx → fate_of c.fates w.tx ≢ Some RolledBack

-- what a view shows is the same after a transaction begins, is rolled back, or commits after the view's commits
pub record StaysAsItIs (c : Content) (view : View) (table : TableId) (tx : TxId) : Type 0 where
  pub begins : rows_of (after_begin c) view table ≡ rows_of c view table
  pub rolls_back : rows_of (after_roll_back c tx) view table ≡ rows_of c view table
  pub commits : view.commits ≤ commit_count c → rows_of (after_commit c tx) view table ≡ rows_of c view table

abbrev pub ViewsStay : Type 0
ViewsStay = (c : Content) (view : View) (table : TableId) (tx : TxId) → IsOpen c tx → StaysAsItIs c view table tx

-- a commit counts as one more, and views from then on see the transaction's writes
abbrev pub LaterViewsSeeACommit : Type 0
LaterViewsSeeACommit = (c : Content) (tx : TxId) → IsOpen c tx
    → (commit_count (after_commit c tx) ≡ commit_count c + 1)
    × ((view : View) (w : Write) → w.tx ≡ tx → commit_count c < view.commits → IsTrue (sees (after_commit c tx).fates view w))

-- the write counts for the transaction: it is committed, or its own
abbrev pub CountsFor : Content → TxId → Write → Type 0
CountsFor c tx w = IsTrue (has_committed c w.tx) ⊎ (w.tx ≡ tx)

-- the version is the last write of the row that counts for the transaction
pub record IsNewest (c : Content) (row : RowId) (tx : TxId) (seen : Seen) : Type 0 where
  pub write : Write
  pub there : IsAt c seen.place write
  pub its_row : write.row ≡ row
  pub named : seen.row ≡ row
  pub counts : CountsFor c tx write
  pub last : (later : ℕ) (w : Write) → seen.place < later → IsAt c later w → w.row ≡ row → ¬ CountsFor c tx w

-- the newest version is the last write of the row that is committed or own, and there is none exactly where no such write is
abbrev pub NewestIsTheLast : Type 0
NewestIsTheLast = (c : Content) (row : RowId) (tx : TxId)
    → ((seen : Seen) → (newest_of c row tx ≡ Some seen) ↔ IsNewest c row tx seen)
    × ((newest_of c row tx ≡ None) ↔ ((place : ℕ) (w : Write) → IsAt c place w → w.row ≡ row → ¬ CountsFor c tx w))

-- each write's row is one whose first write stands at that place or before
abbrev pub RowsAreNamed : Content → Type 0
RowsAreNamed c = (place : ℕ) (w : Write) → IsAt c place w → w.row.0 ≤ place

-- a new row is the row of no write before
abbrev pub NewRowsAreNew : Type 0
NewRowsAreNew = (c : Content) → RowsAreNamed c → (place : ℕ) (w : Write) → IsAt c place w → w.row ≢ new_row c

-- the listed transactions are those that are open, and none comes twice
abbrev pub OpenTxsAreTheOpen : Type 0
OpenTxsAreTheOpen = (fates : List Fate) → is_distinct (open_in fates) × ((tx : TxId) → has (open_in fates) tx ≡ is_open fates tx)

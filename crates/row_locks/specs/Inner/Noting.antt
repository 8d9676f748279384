-- Slots that are noted by a number of their values: of locks by their row and their transaction, of waits by their transaction.
use Rattle.std.specs.Prelude.{◌≡◌, ◌==◌, ℕ, Bool, false, List, filter, Option, Some, None, if◌then◌else◌, not, ◌&&◌}
use Rattle.row_versions.specs.declared.names.TxId.{TxId}
use Rattle.row_versions.specs.declared.names.RowId.{RowId}
use Rattle.row_versions.specs.Members.{has, same_tx}
use Rattle.sql_trees.specs.declared.stmt.Strength.{Strength}
use Rattle.places.specs.declared.places.Places.{Places}
use Rattle.places.specs.Noted.{noted}
use Rattle.ordered_slots.specs.Kept.{slots}
use Rattle.row_locks.specs.declared.held.Held.{Held}
use Rattle.row_locks.specs.Inner.Searching.{is_against}

-- the slots whose values pass, in their order
abbrev pub slots_of : {T : Type 0} → (T → Bool) → List (ℕ × T) → List ℕ
slots_of test pairs = slots (filter (λ pair. test pair.1) pairs)

-- for each number the slots of the values that have it are noted
abbrev pub AreNoted : {T : Type 0} → (T → ℕ) → Places → List (ℕ × T) → Type 0
AreNoted number places pairs = (n : ℕ) → noted places n ≡ slots_of (λ value. number value == n) pairs

-- the slots of locks are noted by row and by transaction
pub record AreLocksNoted (by_row by_tx : Places) (locks : List (ℕ × Held)) : Type 0 where
  pub rows : AreNoted (λ h. h.row.0) by_row locks
  pub txs : AreNoted (λ h. h.tx.0) by_tx locks

-- the holder of the lock in a slot, where it stands against the request and isn't found yet
abbrev pub blocker_in : RowId → TxId → Strength → List TxId → Option Held → Option TxId
blocker_in row tx strength found None = None
blocker_in row tx strength found (Some h) = if is_against row tx strength h && not (has found h.tx) then Some h.tx else None

-- the lock in a slot is that holder's, and stands against the request
abbrev pub is_holder_in : RowId → TxId → Strength → TxId → Option Held → Bool
is_holder_in row tx strength holder None = false
is_holder_in row tx strength holder (Some h) = is_against row tx strength h && same_tx h.tx holder
